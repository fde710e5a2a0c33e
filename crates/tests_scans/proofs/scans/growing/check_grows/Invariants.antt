use Rattle.live_report.specs.Lives.{IsFed}
use Rattle.tests_scans.proofs.scans.growing.check_grows.Given as goal

abbrev pub invariant-loop-index : goal.invariant-loop-index
invariant-loop-index g l = IsFed g.C.Channel.interface_of g.C.Channel.number_of g.C.Channel.represents l.trace
