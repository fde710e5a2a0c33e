use Rattle.std.proofs.Common.{◌≡◌, ◌∙◌, ap₂, ◌++◌, rules}
use Rattle.line_model.specs.basics.Items.{items_of}
use Rattle.line_model.proofs.ItemLemmas.{items-append}
use Rattle.line_model.proofs.items.Items.append.Goals as goal

pub returns-clause-ok : goal.returns-clause-ok
returns-clause-ok g c =
    let heads = c.self.inside.heads.items in
    let octets = c.self.inside.octets.items in
    let heads_are : c.extend_from_slice-2.new.self.items ≡ heads ++ c.rows.inside.heads.now = search rules in
    let octets_are : c.extend_from_slice.new.self.items ≡ octets ++ c.rows.inside.octets.now = search rules in
    ap₂ items_of heads_are octets_are
    ∙ items-append heads c.rows.inside.heads.now octets c.rows.inside.octets.now c.self.invariant
    ∙ ap₂ (λ l more. l ++ more) c.self.view_is c.rows.view_is
