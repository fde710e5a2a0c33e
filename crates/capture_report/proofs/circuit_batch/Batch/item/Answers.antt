use Rattle.std.proofs.Common.{rules, ◌≡◌, ◌∙◌, ◌<◌, ◌+◌, ◌∷◌, ap, arith, drop, get_or, length, List, subst, sym}
use Rattle.std.proofs.lemmas.List.{length-map}
use Rattle.xot_circuits.specs.Items.{Item, item_view}
use Rattle.capture_report.specs.CircuitBatches.{items_kept, kept_view}
use Rattle.capture_report.proofs.CircuitBatchLemmas.{items_at}
use Rattle.capture_report.proofs.circuit_batch.Batch.item.Goals as goal

pub returns : goal.returns
returns c =
    let octets = c.self.inside.octets.items in
    let kept = c.self.inside.kept.items in
    let one = c.index.result.now in
    let few : c.args.index < length kept = omega (arith, c.requires, ap (λ (xs : List Item). length xs) c.self.view_is, length-map kept (kept_view octets)) in
    let is : one ≡ get_or kept c.args.index one = search rules in
    let item : kept_view octets one ≡ item_view c.item.result = ap (λ xs. kept_view xs one) (sym c.deref.ensures.value) ∙ sym c.item.ensures in
    subst (λ items. drop c.args.index items ≡ item_view c.item.result ∷ drop (c.args.index + 1) items) c.self.view_is
    (items_at octets kept c.args.index one few is ∙ ap (λ x. x ∷ drop (c.args.index + 1) (items_kept octets kept)) item)
