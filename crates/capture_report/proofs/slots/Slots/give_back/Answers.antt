-- Slots that are left are slots, and so is that which is given back.
use Rattle.std.proofs.Common.{◌≤◌, ◌∙◌, ℕ, List, sym, subst}
use Rattle.std.specs.Map.{values_of}
use Rattle.std.proofs.lemmas.List.Elements.{All-push}
use Rattle.std.proofs.lemmas.Map.Views.{All-map-remove_entry, IfSome-lookup_from_All}
use Rattle.std.specs.Option.{IfSome}
use Rattle.std.specs.declared.option.Option.{Option}
use Rattle.capture_report.specs.Slots.{AreSlots}
use Rattle.capture_report.proofs.slots.Slots.give_back.Goals as goal

pub invariant_of-self : goal.invariant_of-self
invariant_of-self c = (
  c.self.invariant.0,
  subst AreSlots (sym c.in_err-push-in-Some.ensures.items) c.self.invariant.1,
  subst (λ (es : List (ℕ × ℕ)). AreSlots (values_of es)) (sym c.remove.ensures.entries) (All-map-remove_entry _ (λ e. e.1) (λ x. x ≤ 4095) c.self.inside.taken.entries c.self.invariant.2),
)

pub invariant_of-self-then-slot-gt0 : goal.invariant_of-self-then-slot-gt0
invariant_of-self-then-slot-gt0 c = (
  c.self.invariant.0,
  subst AreSlots (sym c.in_ok-push-in-Some.ensures.items) (All-push (λ x. x ≤ 4095) _ c.in-Some.slot c.self.invariant.1
      (subst (λ (o : Option ℕ). IfSome o (λ x. x ≤ 4095)) (sym c.remove.ensures.value ∙ c.in-Some.is) (IfSome-lookup_from_All (λ x. x ≤ 4095) _ c.self.inside.taken.entries c.self.invariant.2))),
  subst (λ (es : List (ℕ × ℕ)). AreSlots (values_of es)) (sym c.remove.ensures.entries) (All-map-remove_entry _ (λ e. e.1) (λ x. x ≤ 4095) c.self.inside.taken.entries c.self.invariant.2),
)

pub invariant_of-self-else-slot-gt0 : goal.invariant_of-self-else-slot-gt0
invariant_of-self-else-slot-gt0 c = (
  c.self.invariant.0,
  c.self.invariant.1,
  subst (λ (es : List (ℕ × ℕ)). AreSlots (values_of es)) (sym c.remove.ensures.entries) (All-map-remove_entry _ (λ e. e.1) (λ x. x ≤ 4095) c.self.inside.taken.entries c.self.invariant.2),
)
