use Rattle.std.proofs.Common.{sym, inl, inr, refl}
use Rattle.channel_machine.proofs.SettledRows.{acted}
use Rattle.channel_machine.proofs.channel.StatusChannel.act_settled.Goals as goal

pub returns-then-not-is_in_d1-clause-does : goal.returns-then-not-is_in_d1-clause-does
returns-then-not-is_in_d1-clause-does g c k st =
    let j = c.args.judgement.now in
    acted j.origin c.args.self.now c.act.new.self c.args.settled.now c.restart.new.self c.args.events.now.items c.act.new.events.items c.args.self.now.terms.interface c.args.self.now.channel j.side j.state c.args.entry c.args.item.now k
    c.requires.side c.requires.other c.requires.comes c.requires.fits st (λ d. c.in_ok-act.ensures.does d) (inr (sym c.if-not-is_in_d1.ensures, c.restart.ensures))

pub returns-else-not-is_in_d1-clause-does : goal.returns-else-not-is_in_d1-clause-does
returns-else-not-is_in_d1-clause-does g c k st =
    let j = c.args.judgement.now in
    acted j.origin c.args.self.now c.act.new.self c.args.settled.now c.args.settled.now c.args.events.now.items c.act.new.events.items c.args.self.now.terms.interface c.args.self.now.channel j.side j.state c.args.entry c.args.item.now k
    c.requires.side c.requires.other c.requires.comes c.requires.fits st (λ d. c.in_ok-act.ensures.does d) (inl (sym c.if-not-is_in_d1.ensures, refl))
