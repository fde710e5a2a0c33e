use Rattle.std.proofs.Common.{rules, ◌≡◌, ◌∙◌, ap, sym, ◌++◌, ◌∷◌, []}
use Rattle.restart_epochs.specs.OpenRows.{last_number, with_gap}
use Rattle.restart_epochs.proofs.GapRows.{last_pushed}
use Rattle.restart_epochs.proofs.block_channel_rows.BlockChannelRows.push.Goals as goal

pub invariant_of-self-2 : goal.invariant_of-self-2
invariant_of-self-2 g c =
    let before = with_gap c.args.gap c.args.self.now in
    let rows : c.push.new.self ≡ before ++ c.args.item.now ∷ [] = search rules in
    ap (λ x. x.number) c.item.view_is ∙ sym (ap last_number rows ∙ last_pushed before c.args.item.now)
