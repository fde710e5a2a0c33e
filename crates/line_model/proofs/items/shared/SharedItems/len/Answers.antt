use Rattle.std.proofs.Common.{◌∙◌, ap, sym, length, take, drop, List}
use Rattle.std.specs.Arc.{arc_value}
use Rattle.line_model.specs.basics.Records.{Item}
use Rattle.line_model.proofs.ItemLemmas.{place-length}
use Rattle.line_model.proofs.items.shared.SharedItems.len.Goals as goal

pub returns : goal.returns
returns g c =
    let s = c.self.inside in
    let lists = arc_value s.lists in
    sym (place-length lists.heads.items (take s.kept (drop s.octet lists.octets.items)) s.first s.count c.self.invariant.0)
    ∙ ap (λ (l : List Item). length l) c.self.view_is
