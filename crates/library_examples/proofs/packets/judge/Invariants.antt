use Rattle.live_report.specs.Lives.{IsFed}
use Rattle.library_examples.proofs.packets.judge.Given as goal

abbrev pub invariant-loop-packet : goal.invariant-loop-packet
invariant-loop-packet g l = IsFed g.C.Channel.interface_of g.C.Channel.number_of g.C.Channel.represents l.live
