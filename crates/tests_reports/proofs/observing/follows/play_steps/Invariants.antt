use Rattle.live_report.specs.Follows.{IsFed}
use Rattle.tests_reports.proofs.observing.follows.play_steps.Given as goal

abbrev pub invariant-loop-step : goal.invariant-loop-step
invariant-loop-step g l = IsFed g.C.Channel.interface_of g.C.Channel.number_of g.C.Channel.represents l.trace
