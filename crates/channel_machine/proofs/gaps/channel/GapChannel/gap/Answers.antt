use Rattle.std.proofs.Common.{ap}
use Rattle.channel_machine.specs.GapView.KnownCertainty.{Adrift}
use Rattle.channel_machine.proofs.AdriftRows.{gapped}
use Rattle.channel_machine.proofs.gaps.channel.GapChannel.gap.Goals as goal

pub returns-clause-represents : goal.returns-clause-represents
returns-clause-represents g c h r =
    gapped _ c.args.self.now _ c.args.all_channels h c.owed_at_gap.result c.is_hidden_by_gap.result c.self.view_is r c.may_restart-self-inside.ensures
    (ap (λ b. Adrift b) c.new-adrift.ensures) (c.owed_at_gap.ensures h r) (λ d s. c.is_hidden_by_gap.ensures d s) c.drift.ensures.interface c.drift.ensures.channel (λ d s. c.drift.ensures.represented d s)
