use Rattle.std.proofs.Common.{◌∙◌, ap, sym}
use Rattle.restart_epochs.specs.OpenRows.{last_number}
use Rattle.restart_epochs.proofs.GapRows.{last_pushed}
use Rattle.restart_epochs.proofs.block_channel_rows.BlockChannelRows.push_gap.Goals as goal

pub invariant_of-self-in-Some : goal.invariant_of-self-in-Some
invariant_of-self-in-Some g c =
    sym (ap last_number c.in_ok-push.ensures.ok ∙ last_pushed c.self.inside.rows _ ∙ ap (λ x. x.number) c.gap_of_all.ensures)
