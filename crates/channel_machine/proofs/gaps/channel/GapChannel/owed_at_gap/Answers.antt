use Rattle.std.proofs.Common.{ap}
use Rattle.channel_machine.specs.Certainties.{certainty_kept}
use Rattle.channel_machine.specs.GapView.KnownCertainty.{Certain, Settled}
use Rattle.channel_machine.proofs.AdriftRows.{owed_known}
use Rattle.channel_machine.proofs.gaps.channel.GapChannel.owed_at_gap.Goals as goal

pub returns-in-Certain : goal.returns-in-Certain
returns-in-Certain g c h r =
    owed_known _ c.args.self.now Certain h c.owed-in-Certain.result c.self.view_is (ap (λ t. certainty_kept t) c.in-Certain.is) tt r (λ d s. c.owed-in-Certain.ensures d s)

pub returns-in-Settled : goal.returns-in-Settled
returns-in-Settled g c h r =
    owed_known _ c.args.self.now (Settled c.in-Settled.field-0.value) h c.owed-in-Settled.result c.self.view_is (ap (λ t. certainty_kept t) c.in-Settled.is) tt r (λ d s. c.owed-in-Settled.ensures d s)
