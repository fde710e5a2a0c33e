-- Item by item.
use Rattle.std.proofs.Common.{◌≡◌, ◌∙◌, ◌+◌, ◌&&◌, true, ap, subst, sym, drop, map, List}
use Rattle.xot_circuits.specs.Items.{Item, item_view}
use Rattle.capture_report.specs.CircuitSights.{CircuitSight, sight_in, steps_seen}
use Rattle.capture_report.specs.CircuitTexts.{are_typed, is_typed_step}
use Rattle.capture_report.specs.Circuits.{Of}
use Rattle.capture_report.specs.declared.circuit_row.CircuitRule.{CircuitRule}
use Rattle.capture_report.proofs.circuits.Circuits.see_all.Goals as goal

pub loop-index-preserved : goal.loop-index-preserved
loop-index-preserved c =
    let rule = c.args.self.now.rule in
    let old = sight_in c.loop-index.self in
    let one = item_view c.item.result in
    let rest = drop (c.loop-index.index + 1) c.args.batch.now in
    let typed : is_typed_step rule (Of one) ≡ true = subst (λ (r : CircuitRule). is_typed_step r (Of one) ≡ true) c.loop-index.invariant.rule c.in_ok-see_item.ensures.typed in
    record {
      seen = ap (steps_seen (map (λ (i : Item). Of i) rest)) c.in_ok-see_item.ensures.seen
          ∙ (sym (ap (λ (l : List Item). steps_seen (map (λ (i : Item). Of i) l) old) c.item.ensures) ∙ c.loop-index.invariant.seen);
      typed = sym (ap (λ b. b && are_typed rule (map (λ (i : Item). Of i) rest)) typed)
          ∙ (sym (ap (λ (l : List Item). are_typed rule (map (λ (i : Item). Of i) l)) c.item.ensures) ∙ c.loop-index.invariant.typed);
      rule = ap (λ (s : CircuitSight). s.rule) c.in_ok-see_item.ensures.seen ∙ c.loop-index.invariant.rule;
    }
