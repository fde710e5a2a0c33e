use Rattle.std.proofs.Common.{◌≡◌, ◌∙◌, ap, sym, length, List, ◌==◌, rules}
use Rattle.line_model.specs.basics.Records.{Item}
use Rattle.line_model.proofs.ItemLemmas.{items-length}
use Rattle.line_model.proofs.items.Items.is_empty.Goals as goal

pub returns : goal.returns
returns g c =
    let heads : c.is_empty.result ≡ (length c.self.inside.heads.items == 0) = search rules in
    heads ∙ ap (λ n. n == 0) (sym (items-length c.self.inside.heads.items c.self.inside.octets.items)) ∙ ap (λ (l : List Item). length l == 0) c.self.view_is
