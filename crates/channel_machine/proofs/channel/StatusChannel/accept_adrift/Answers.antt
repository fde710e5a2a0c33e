use Rattle.std.proofs.Common.{sym, subst}
use Rattle.std.specs.Prelude.{IfOk}
use Rattle.line_model.specs.channels.Gaps.{largest_terms}
use Rattle.line_model.specs.channels.GapStep.{coming_up, terms_of_acceptance}
use Rattle.channel_machine.specs.Channels.{Does}
use Rattle.channel_machine.proofs.channel.StatusChannel.accept_adrift.Goals as goal

pub returns-else-hidden-clause-does : goal.returns-else-hidden-clause-does
returns-else-hidden-clause-does g c k xs shows unanswered s =
    subst
    (λ b. IfOk c.go_up.result (λ _. Does c.args.origin c.args.self.now c.go_up.new.self c.args.events.now.items c.go_up.new.events.items
    (coming_up (terms_of_acceptance b c.args.self.now.terms.interface xs) k)))
    (sym c.if-hidden.false) (c.go_up.ensures.does k xs shows (unanswered c.if-hidden.false) s)

pub returns-in_ok-reserve-clause-does : goal.returns-in_ok-reserve-clause-does
returns-in_ok-reserve-clause-does g c k xs shows unanswered s =
    let i = c.args.self.now.terms.interface in
    subst (λ b. Does c.args.origin c.args.self.now c.come_up.new.self c.args.events.now.items c.come_up.new.events.items (coming_up (terms_of_acceptance b i xs) k))
    (sym c.if-hidden.true)
    (subst (λ l. Does c.args.origin c.args.self.now c.come_up.new.self l c.come_up.new.events.items (coming_up (largest_terms i) k))
    c.in_ok-reserve.ensures.items (c.come_up.ensures.does k s))
