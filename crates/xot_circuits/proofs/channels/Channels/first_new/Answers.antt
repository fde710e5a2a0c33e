-- The number that was found is a channel, or none is new.
use Rattle.std.proofs.Common.{◌∙◌, ap, arith}
use Rattle.xot_circuits.specs.Plans.{ChannelsView}
use Rattle.xot_circuits.proofs.Found.{next_none, next_some}
use Rattle.xot_circuits.proofs.channels.Channels.first_new.Goals as goal
use Rattle.xot_circuits.proofs.channels.Channels.first_new.Goals.{then-channel-self, else-channel-self}

pub returns-clause-found : goal.returns-clause-found
returns-clause-found c =
    let self = c.args.self.now in
    let k = c.next_new-channel.result in
    let svc = ap (λ (v : ChannelsView). v.interface.svc) c.self.view_is in
    elim c.if-channel-self.branch [
      | then-channel-self w ↦ w.result-is ∙ next_some self c.args.purpose k c.next_new-channel.ensures (omega (arith, w.if-channel-self.true, svc))
      | else-channel-self w ↦ w.result-is ∙ next_none self c.args.purpose k c.next_new-channel.ensures (omega (arith, w.if-channel-self.false, svc))
    ]
