use Rattle.workers.proofs.whole.work_through.Given as goal

abbrev pub ghosts-work_in-L-Ledgers : goal.ghosts-work_in-L-Ledgers
ghosts-work_in-L-Ledgers g a = record { names = a.blanks }

abbrev pub ghosts-work_in-L-QueueName : goal.ghosts-work_in-L-QueueName
ghosts-work_in-L-QueueName g a = record { queue = a.queue.work.now.queue; ran = g.G.Gate.ran a.crew.gate.now }
