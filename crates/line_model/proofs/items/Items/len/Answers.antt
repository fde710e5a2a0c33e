use Rattle.std.proofs.Common.{◌≡◌, ◌∙◌, ap, sym, length, List, rules}
use Rattle.line_model.specs.basics.Records.{Item}
use Rattle.line_model.proofs.ItemLemmas.{items-length}
use Rattle.line_model.proofs.items.Items.len.Goals as goal

pub returns : goal.returns
returns g c =
    let heads : c.len.result ≡ length c.self.inside.heads.items = search rules in
    heads ∙ sym (items-length c.self.inside.heads.items c.self.inside.octets.items) ∙ ap (λ (l : List Item). length l) c.self.view_is
