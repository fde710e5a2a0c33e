use Rattle.std.proofs.Common.{sym, subst}
use Rattle.channel_machine.specs.Channels.{Does}
use Rattle.channel_machine.proofs.AdriftLemmas.{not_up}
use Rattle.channel_machine.proofs.channel.StatusChannel.bring_up.Goals as goal

pub returns-then-not-is_in_transfer-clause-does : goal.returns-then-not-is_in_transfer-clause-does
returns-then-not-is_in_transfer-clause-does g c k s =
    subst (λ o. Does c.args.origin c.args.self.now c.come_up.new.self c.args.events.now.items c.come_up.new.events.items o)
    (not_up c.args.self.now.terms.interface k (sym (c.if-not-is_in_transfer.ensures k s))) (c.come_up.ensures.does k s)
