use Rattle.std.proofs.Common.{rules, ◌≡◌, ◌∙◌, ◌≤◌, ◌++◌, [], ◌∷◌, ap, length, List, subst, sym}
use Rattle.xot_circuits.specs.Items.{item_view}
use Rattle.capture_report.specs.CircuitBatches.{AreWithin, IsWithin, item_octets, items_kept, kept_view}
use Rattle.capture_report.specs.declared.circuit_batch.Kept.{Kept}
use Rattle.capture_report.proofs.CircuitBatchLemmas.{are_within_more, are_within_with, items_with}
use Rattle.capture_report.proofs.circuit_batch.BatchItems.take.Goals as goal

pub invariant_of-self-2 : goal.invariant_of-self-2
invariant_of-self-2 c =
    let before = c.self.inside.octets.items in
    let more = length c.extend_from_slice.new.self.items in
    let grown : length before ≤ more = search rules in
    let within : IsWithin more c.new.result = search rules in
    subst (AreWithin more) (sym {A = List Kept} c.in_ok-push.ensures.items)
    (are_within_with more c.self.inside.kept.items c.new.result (are_within_more (length before) more c.self.inside.kept.items grown c.self.invariant) within)

pub returns : goal.returns
returns c =
    let before = c.self.inside.octets.items in
    let kept = c.self.inside.kept.items in
    let more = item_octets (item_view c.args.item.now) in
    let octets : c.extend_from_slice.new.self.items ≡ before ++ more = search rules in
    let item : kept_view (before ++ more) c.new.result ≡ item_view c.args.item.now = c.new.ensures.item before (search rules) (search rules) in
    ap (items_kept c.extend_from_slice.new.self.items) c.in_ok-push.ensures.items
    ∙ ap (λ xs. items_kept xs (kept ++ c.new.result ∷ [])) octets
    ∙ items_with before more kept c.new.result (item_view c.args.item.now) c.self.invariant item
    ∙ ap (λ items. items ++ item_view c.args.item.now ∷ []) c.self.view_is
