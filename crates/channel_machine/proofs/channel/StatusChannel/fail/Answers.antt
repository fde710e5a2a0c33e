use Rattle.std.proofs.Common.{◌∙◌, ap, subst, sym, refl, [], ◌∷◌, ◌++◌}
use Rattle.line_model.specs.declared.event.What.TheVariants.{Found}
use Rattle.line_model.specs.declared.finding.Code.TheVariants.{Number}
use Rattle.line_model.specs.declared.state.Side.TheVariants.{T}
use Rattle.line_model.specs.channels.ChannelStep.{after_error, failing}
use Rattle.channel_machine.specs.Events.{Reports, event_at}
use Rattle.channel_machine.specs.Channels.{Does}
use Rattle.channel_machine.proofs.Calls.{after_events}
use Rattle.channel_machine.proofs.channel.StatusChannel.fail.Goals as goal

pub returns-in-T-clause-does : goal.returns-in-T-clause-does
returns-in-T-clause-does g c k s =
    let first : Reports c.args.judgement.now.origin c.args.events.now.items c.push_reserved.new.self.items (Found c.args.judgement.now.side c.args.judgement.now.state (Number c.args.code) ∷ []) =
    c.push_reserved.ensures.items ∙ ap (λ l. l ++ c.event.result ∷ []) c.in_ok-reserve.ensures.items
    ∙ ap (λ v. c.args.events.now.items ++ v ∷ []) (c.event.ensures ∙ ap (λ w. event_at c.args.judgement.now.origin w) c.error.ensures) in
    subst (λ x. Does c.args.judgement.now.origin c.args.self.now c.give_up.new.self c.args.events.now.items c.give_up.new.events.items (failing x c.args.judgement.now.state c.args.code k))
    (sym c.in-T.is)
    (after_events c.args.judgement.now.origin c.args.self.now c.args.self.now c.give_up.new.self c.args.events.now.items c.push_reserved.new.self.items c.give_up.new.events.items
    (Found T c.args.judgement.now.state (Number c.args.code) ∷ []) k (after_error c.args.judgement.now.state) refl refl
    (subst (λ x. Reports c.args.judgement.now.origin c.args.events.now.items c.push_reserved.new.self.items (Found x c.args.judgement.now.state (Number c.args.code) ∷ [])) c.in-T.is first)
    (c.give_up.ensures k s))
