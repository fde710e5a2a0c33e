use Rattle.std.proofs.Common.{rules, ◌≡◌, ◌∙◌, ap, sym, ◌++◌, ◌∷◌, []}
use Rattle.line_model.specs.packets.Says.{gap_item}
use Rattle.restart_epochs.specs.OpenRows.{last_number}
use Rattle.restart_epochs.proofs.GapRows.{last_later}
use Rattle.restart_epochs.proofs.channel_rows.ChannelRows.push_behind.Goals as goal

pub invariant_of-self-2 : goal.invariant_of-self-2
invariant_of-self-2 g c =
    let item = c.args.item.now in
    let rows : c.add.new.self ≡ c.self.inside.rows ++ gap_item c.args.number ∷ item ∷ [] = search rules in
    ap (λ x. x.number) c.item.view_is ∙ sym (ap last_number rows ∙ last_later c.self.inside.rows (gap_item c.args.number) (item ∷ []))
