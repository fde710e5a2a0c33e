use Rattle.live_report.specs.Lives.{IsFed}
use Rattle.library_examples.proofs.watching.watch.Given as goal

abbrev pub invariant-loop-piece : goal.invariant-loop-piece
invariant-loop-piece g l = IsFed g.C.Channel.interface_of g.C.Channel.number_of g.C.Channel.represents l.live
