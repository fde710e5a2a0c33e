use Rattle.std.proofs.Common.{◌≡◌, ◌++◌, List, ℕ, take}
use Rattle.line_model.specs.declared.event.Event.{Event}
use Rattle.descriptions.specs.RowCalls.{AreOn, Counted}
use Rattle.descriptions.proofs.open_calls.OpenCalls.apply_row.Given as goal

-- the first events were applied
abbrev pub invariant-loop-event : goal.invariant-loop-event
invariant-loop-event g l = record {
  counted : (k : ℕ) (es : List Event) → AreOn l.fn.calls.epoch k l.events → Counted l.fn.calls.epoch k es l.fn.self.opened l.fn.calls.call
      → Counted l.fn.calls.epoch k (es ++ take l.event-index l.events) l.self.opened l.calls.call;
  epoch : l.calls.epoch ≡ l.fn.calls.epoch;
  table : l.self.table ≡ l.fn.self.table;
}
