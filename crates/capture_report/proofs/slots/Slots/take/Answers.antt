-- The slot that is taken is a slot.
use Rattle.std.proofs.Common.{◌≤◌, ℕ, List, sym, subst}
use Rattle.std.specs.Map.{values_of}
use Rattle.std.proofs.lemmas.Map.Views.{All-values-insert_entry}
use Rattle.capture_report.specs.Slots.{AreSlots}
use Rattle.capture_report.proofs.slots.Slots.take.Goals as goal

pub invariant_of-self-2 : goal.invariant_of-self-2
invariant_of-self-2 c = (
  c.self.invariant.0,
  c.self.invariant.1,
  subst (λ (es : List (ℕ × ℕ)). AreSlots (values_of es)) (sym c.in_ok-insert.ensures.entries) (All-values-insert_entry _ c.args.connection c.next-slot.result (λ x. x ≤ 4095) c.self.inside.taken.entries c.self.invariant.2 c.next-slot.ensures.within),
)
