use Rattle.std.proofs.Common.{◌≡◌, ◌++◌, ℕ, List, take}
use Rattle.std.specs.List.{AllByRecursion}
use Rattle.line_model.specs.declared.event.Event.{Event}
use Rattle.line_model.specs.observer.Report.{findings_of}
use Rattle.call_accounts.specs.Counted.{IsCountable}
use Rattle.call_accounts.specs.SoFar.{IsOf}
use Rattle.channel_run.specs.Tally.{Counts}
use Rattle.channel_run.proofs.tally.PieceTally.record_all.Given as goal

abbrev pub invariant-loop-event : goal.invariant-loop-event
invariant-loop-event g l = record {
  counted_now : (epoch channel : ℕ) (es : List Event) → Counts l.initial.self epoch channel es → AllByRecursion (IsOf epoch channel) l.events → IsCountable (es ++ l.events) → Counts l.self epoch channel (es ++ take l.event-index l.events);
  findings : l.self.findings.items ≡ l.initial.self.findings.items ++ findings_of (take l.event-index l.events);
}
