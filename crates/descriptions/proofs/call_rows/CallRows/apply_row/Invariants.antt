use Rattle.std.proofs.Common.{◌≡◌, ◌++◌, List, take}
use Rattle.std.specs.List.{AllByRecursion}
use Rattle.line_model.specs.declared.event.Event.{Event}
use Rattle.descriptions.specs.CallRows.{IsAfter}
use Rattle.descriptions.proofs.call_rows.CallRows.apply_row.Given as goal

-- the first events were applied
abbrev pub invariant-loop-event : goal.invariant-loop-event
invariant-loop-event l = record {
  applied : (es : List Event) → AllByRecursion (λ f. f.epoch ≡ l.epoch) l.events → IsAfter l.epoch es l.initial.self → IsAfter l.epoch (es ++ take l.event-index l.events) l.self;
  number : l.self.number ≡ l.initial.self.number;
}
