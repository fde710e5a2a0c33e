use Rattle.std.proofs.Common.{◌≡◌, ◌≤◌, ◌<◌, ◌∙◌, ◌∷◌, [], ℕ, ap, refl, subst, sym}
use Rattle.line_model.specs.basics.Records.{Item}
use Rattle.line_model.specs.channels.ChannelStep.{data_step}
use Rattle.line_model.specs.declared.event.What.TheVariants.{Data}
use Rattle.line_model.specs.declared.state.StateName.TheVariants.{D1}
use Rattle.line_model.specs.packets.Formats.{size_in_force}
use Rattle.packet_decode.proofs.SaidPackets.{data_said}
use Rattle.channel_machine.specs.Channels.{IsJudged}
use Rattle.channel_machine.specs.TermsRepresent.{size_of}
use Rattle.channel_machine.proofs.CommonRows.{fine_data, long_data}
use Rattle.channel_machine.proofs.InForce.{size_represents}
use Rattle.channel_machine.proofs.channel.StatusChannel.judge_unqualified.Goals as goal

pub user_data_length-length-requires : goal.user_data_length-length-requires
user_data_length-length-requires g c =
    record { whole = (data_said c.args.self.now.terms.interface c.args.item.now c.args.header.now c.requires.said c.requires.class c.requires.header).whole }

pub accept_unqualified-requires-clause-said : goal.accept_unqualified-requires-clause-said
accept_unqualified-requires-clause-said g c =
    data_said c.args.self.now.terms.interface c.args.item.now c.args.header.now c.requires.said c.requires.class c.requires.header

pub returns-then-length-from-clause-judged : goal.returns-then-length-from-clause-judged
returns-then-length-from-clause-judged g c k s =
    let old = c.args.self.now in
    let r : Item = c.args.item.now in
    let whole = (data_said old.terms.interface r c.args.header.now c.requires.said c.requires.class c.requires.header).whole in
    let size : c.from.result ≡ size_in_force old.terms.interface k r.side =
    c.from.ensures ∙ c.size.ensures ∙ (λ j. size_of (c.self.view_is j).terms.values (c.item.view_is j).side) ∙ size_represents old.terms k r.side s.terms in (
      long_data old.terms.interface old.channel k r old c.requires.in_d1 s c.requires.class whole (subst (λ (v : ℕ × ℕ). v.0 < v.1) (λ j. (size j, c.user_data_length-length.ensures j)) c.if-length-from.true),
      refl,
    )

pub returns-clause-judged : goal.returns-clause-judged
returns-clause-judged g c k s =
    let old = c.args.self.now in
    let r : Item = c.args.item.now in
    let whole = (data_said old.terms.interface r c.args.header.now c.requires.said c.requires.class c.requires.header).whole in
    let size : c.from.result ≡ size_in_force old.terms.interface k r.side =
    c.from.ensures ∙ c.size.ensures ∙ (λ j. size_of (c.self.view_is j).terms.values (c.item.view_is j).side) ∙ size_represents old.terms k r.side s.terms in
    subst (λ o. IsJudged c.accept_unqualified.result (λ n. Data r.side n ∷ []) r.side D1 old c.accept_unqualified.new.self k o)
    (ap (λ d. data_step old.terms.interface D1 r d k) (sym c.requires.header)
    ∙ fine_data old.terms.interface old.channel k r old c.requires.in_d1 s c.requires.class whole (subst (λ (v : ℕ × ℕ). v.0 ≤ v.1) (λ j. (c.user_data_length-length.ensures j, size j)) c.if-length-from.false))
    (c.accept_unqualified.ensures.judged k D1 s)
