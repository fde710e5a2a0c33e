use Rattle.std.proofs.Common.{◌-◌, refl, subst}
use Rattle.trace_text.specs.Progress.{bytes_fed}
use Rattle.trace_reading.specs.TextBlocks.{IsBlockAt}
use Rattle.std.proofs.lemmas.Result.{IfOk-from_err}
use Rattle.trace_reading.proofs.taken_text.TakenText.take_next.Goals as goal

pub take_block-requires-clause-ready : goal.take_block-requires-clause-ready
take_block-requires-clause-ready g c = c.requires.ready

pub returns-in_err-read-clause-fed : goal.returns-in_err-read-clause-fed
returns-in_err-read-clause-fed g c = record { kept = record { ends = c.requires.ready.no_ends; pending = refl; done = refl; taken = refl }; same = refl }

pub returns-in_err-read-clause-taken : goal.returns-in_err-read-clause-taken
returns-in_err-read-clause-taken g c = IfOk-from_err _ _ c.from_residual.ensures.0

pub returns-clause-fed : goal.returns-clause-fed
returns-clause-fed g c = c.take_block.ensures.fed

pub returns-clause-taken : goal.returns-clause-taken
returns-clause-taken g c = c.take_block.ensures.taken

pub returns-clause-sent : goal.returns-clause-sent
returns-clause-sent g c = c.take_block.ensures.sent

pub returns-clause-refused : goal.returns-clause-refused
returns-clause-refused g c = c.take_block.ensures.refused

pub take_block-requires-clause-place : goal.take_block-requires-clause-place
take_block-requires-clause-place g c = subst (λ n. IsBlockAt g.P.TraceText.text n (c.args.self.now.sent - bytes_fed c.args.self.now.text.lines) c.in_ok-read.read) c.bytes.ensures (subst (λ m. IsBlockAt g.P.TraceText.text c.bytes.result m c.in_ok-read.read) c.out-most.ensures c.in_ok-read.ensures.place)
