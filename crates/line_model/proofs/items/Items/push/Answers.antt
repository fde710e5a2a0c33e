use Rattle.std.proofs.Common.{◌≡◌, ◌∙◌, ap₂, refl, [], ◌∷◌, ◌++◌, length, rules}
use Rattle.line_model.specs.basics.Items.{items_of}
use Rattle.line_model.specs.declared.items.Head.{Head}
use Rattle.line_model.proofs.ItemLemmas.{items-push}
use Rattle.line_model.proofs.items.Items.push.Goals as goal

pub returns-clause-ok : goal.returns-clause-ok
returns-clause-ok g c =
    let heads = c.self.inside.heads.items in
    let octets = c.self.inside.octets.items in
    let said = c.item.inside.octets.now in
    let head : Head = record { number = c.item.inside.number; side = c.item.inside.side; packet = c.item.inside.packet; length = c.item.inside.length; kept = length said } in
    let heads_are : c.push_reserved.new.self.items ≡ heads ++ head ∷ [] = search rules in
    let octets_are : c.extend_from_slice.new.self.items ≡ octets ++ said = search rules in
    ap₂ items_of heads_are octets_are
    ∙ items-push heads octets head said c.self.invariant refl
    ∙ ap₂ (λ l i. l ++ i ∷ []) c.self.view_is c.item.view_is
