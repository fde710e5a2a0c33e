use Rattle.std.proofs.Common.{◌∙◌, ap, sym}
use Rattle.restart_epochs.specs.OpenRows.{last_number}
use Rattle.restart_epochs.proofs.GapRows.{last_pushed}
use Rattle.restart_epochs.proofs.channel_rows.ChannelRows.push.Goals as goal

pub invariant_of-self-2 : goal.invariant_of-self-2
invariant_of-self-2 g c =
    ap (λ x. x.number) c.item.view_is ∙ sym (ap last_number c.in_ok-push.ensures.ok ∙ last_pushed c.self.inside.rows c.args.item.now)
