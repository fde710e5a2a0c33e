use Rattle.std.proofs.Common.{◌≡◌, drop}
use Rattle.live_report.specs.Uncounted.{counts_data}
use Rattle.live_report.proofs.uncounted.counts_data.Given as goal

-- the events before have none
abbrev pub invariant-loop-event : goal.invariant-loop-event
invariant-loop-event l = record { rest : counts_data (drop l.event-index l.events) ≡ counts_data l.events }
