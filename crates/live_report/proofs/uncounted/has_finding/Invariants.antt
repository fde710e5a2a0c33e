use Rattle.std.proofs.Common.{◌≡◌, drop}
use Rattle.live_report.specs.Uncounted.{has_finding}
use Rattle.live_report.proofs.uncounted.has_finding.Given as goal

-- the events before have none
abbrev pub invariant-loop-event : goal.invariant-loop-event
invariant-loop-event l = record { rest : has_finding (drop l.event-index l.events) ≡ has_finding l.events }
