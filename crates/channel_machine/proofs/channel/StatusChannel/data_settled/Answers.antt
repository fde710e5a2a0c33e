use Rattle.std.proofs.Common.{◌≡◌, refl, sym, ◌∙◌, ap, subst, [], ◌++◌, Some, None, Ok}
use Rattle.std.specs.Prelude.{IfOk, map}
use Rattle.line_model.specs.declared.packet.DataHeader.{DataHeader}
use Rattle.line_model.specs.basics.Records.{Item}
use Rattle.line_model.specs.packets.Says.{header_in}
use Rattle.line_model.specs.channels.ChannelStep.{accepted_of}
use Rattle.line_model.specs.channels.GapStep.{SettledOutcome, completed_for_data, data_in_doubt, failing_in_doubt}
use Rattle.packet_decode.proofs.SaidPackets.{data_said}
use Rattle.channel_machine.specs.Channels.{StatusRepresents}
use Rattle.channel_machine.specs.Events.{data_of, event_at}
use Rattle.channel_machine.specs.GapChannels.{at_rest}
use Rattle.channel_machine.specs.SettledData.{IsDataJudged, continued_by}
use Rattle.channel_machine.specs.SettledSteps.{SettledDoes}
use Rattle.channel_machine.proofs.SettledData.{accepts, added_apart, continues, none_header, of_row, rest_for_data}
use Rattle.channel_machine.proofs.SettledRows.{none_apart, settled_listed, stays}
use Rattle.channel_machine.proofs.channel.StatusChannel.data_settled.Goals as goal

pub add_settled-requires-clause-said : goal.add_settled-requires-clause-said
add_settled-requires-clause-said g c =
    data_said c.args.self.now.terms.interface c.args.item.now c.in-Some.header c.requires.said c.requires.class
    (ap (λ (x : Item). header_in x.packet) (sym c.item.view_is) ∙ sym c.data_header.ensures ∙ c.in-Some.is)

pub add_unqualified-requires-clause-said : goal.add_unqualified-requires-clause-said
add_unqualified-requires-clause-said g c =
    data_said c.args.self.now.terms.interface c.args.item.now c.in-Some.header c.requires.said c.requires.class
    (ap (λ (x : Item). header_in x.packet) (sym c.item.view_is) ∙ sym c.data_header.ensures ∙ c.in-Some.is)

pub user_data_length-requires : goal.user_data_length-requires
user_data_length-requires g c = record {
  whole = (data_said c.args.self.now.terms.interface c.args.item.now c.in-Some.header c.requires.said c.requires.class
      (ap (λ (x : Item). header_in x.packet) (sym c.item.view_is) ∙ sym c.data_header.ensures ∙ c.in-Some.is)).whole;
}

pub returns-in_default-clause-does : goal.returns-in_default-clause-does
returns-in_default-clause-does g c k st =
    let r : Item = c.args.item.now in
    let j = c.args.judgement.now in
    let p = c.args.self.now in
    let held = c.args.settled.now in
    let es = c.args.events.now.items in
    let none : header_in r.packet ≡ None = sym (c.data_header.ensures ∙ ap (λ (x : Item). header_in x.packet) c.item.view_is) ∙ none_header c.data_header.result c.in_default.not-Some in
    subst (λ o. SettledDoes j.origin p p held es (es ++ []) (data_in_doubt p.terms.interface j.state r o held.doubts k)) (sym none)
    (stays j.origin p p held es (es ++ []) [] k.owed k st refl refl st.rest refl)

pub returns-then-header-clause-does : goal.returns-then-header-clause-does
returns-then-header-clause-does g c k st =
    let r : Item = c.args.item.now in
    let j = c.args.judgement.now in
    let p = c.args.self.now in
    let i = p.terms.interface in
    let held = c.args.settled.now in
    let es = c.args.events.now.items in
    let h : DataHeader = c.in-Some.header in
    let judged : IsDataJudged (Ok c.in-Ok.flow) i held.doubts j.side h (accepted_of i r h) k = c.in-Ok.ensures.judged k (accepted_of i r h) refl st in
    let d = completed_for_data i.modulus held.doubts j.side h k in
    let rest : StatusRepresents p (at_rest d) = subst (λ e. StatusRepresents p e) (sym (rest_for_data i.modulus held.doubts j.side h k)) st.rest in
    let header : header_in r.packet ≡ Some h = sym (c.data_header.ensures ∙ ap (λ (x : Item). header_in x.packet) c.item.view_is) ∙ c.in-Some.is in
    let added = c.in_ok-is_category_a.ensures.adds d (continued_by i held.doubts j.side h k) rest (continues i held j.side h (accepted_of i r h) k st.numbers st.sequences judged.1) in
    none_apart j.origin r.side p p c.accept.new.self es c.add_settled.new.events.items _
    (subst (λ o. SettledDoes j.origin p p c.accept.new.self es c.add_settled.new.events.items (data_in_doubt i j.state r o held.doubts k)) (sym header)
    (subst (λ (o : SettledOutcome). SettledDoes j.origin p p c.accept.new.self es c.add_settled.new.events.items o) (of_row i j.state r h held.doubts j.side k c.requires.side)
    (accepts j.origin p held c.add_settled.new.settled c.accept.new.self es c.add_settled.new.events.items j.side j.state h (accepted_of i r h) _ c.in-Ok.flow k st c.requires.in_d1 (sym c.requires.side)
    judged c.in-Ok.ensures.widest c.in-Ok.ensures.modulus c.accept.ensures added)))

pub returns-clause-does : goal.returns-clause-does
returns-clause-does g c k st =
    let r : Item = c.args.item.now in
    let j = c.args.judgement.now in
    let p = c.args.self.now in
    let i = p.terms.interface in
    let held = c.args.settled.now in
    let es = c.args.events.now.items in
    let h : DataHeader = c.in-Some.header in
    let judged : IsDataJudged (Ok c.in-Ok.flow) i held.doubts j.side h (accepted_of i r h) k = c.in-Ok.ensures.judged k (accepted_of i r h) refl st in
    let d = completed_for_data i.modulus held.doubts j.side h k in
    let rest : StatusRepresents p (at_rest d) = subst (λ e. StatusRepresents p e) (sym (rest_for_data i.modulus held.doubts j.side h k)) st.rest in
    let header : header_in r.packet ≡ Some h = sym (c.data_header.ensures ∙ ap (λ (x : Item). header_in x.packet) c.item.view_is) ∙ c.in-Some.is in
    let puts = c.in_ok-is_category_a-2.ensures.puts d (continued_by i held.doubts j.side h k) rest (continues i held j.side h (accepted_of i r h) k st.numbers st.sequences judged.1) in
    let added = added_apart j.origin i j.side held c.add_unqualified.new.settled es _ (continued_by i held.doubts j.side h k) (accepted_of i r h) d c.if-header.false puts in
    let length : c.user_data_length.result ≡ (accepted_of i r h).length = c.user_data_length.ensures in
    let after = es ++ map (event_at j.origin) (data_of j.side (Some (accepted_of i r h).length)) in
    subst (λ o. SettledDoes j.origin p p c.accept-2.new.self es (es ++ map (event_at j.origin) (data_of r.side (Some c.user_data_length.result))) (data_in_doubt i j.state r o held.doubts k)) (sym header)
    (subst (λ l. SettledDoes j.origin p p c.accept-2.new.self es l (data_in_doubt i j.state r (Some h) held.doubts k)) (λ z. es ++ map (event_at j.origin) (data_of (c.requires.side z) (Some (sym length z))))
    (subst (λ (o : SettledOutcome). SettledDoes j.origin p p c.accept-2.new.self es after o) (of_row i j.state r h held.doubts j.side k c.requires.side)
    (accepts j.origin p held c.add_unqualified.new.settled c.accept-2.new.self es after j.side j.state h (accepted_of i r h) _ c.in-Ok.flow k st c.requires.in_d1 (sym c.requires.side)
    judged c.in-Ok.ensures.widest c.in-Ok.ensures.modulus c.accept-2.ensures added)))

pub returns-in-Err-clause-does : goal.returns-in-Err-clause-does
returns-in-Err-clause-does g c k st =
    let r : Item = c.args.item.now in
    let j = c.args.judgement.now in
    let p = c.args.self.now in
    let i = p.terms.interface in
    let held = c.args.settled.now in
    let h : DataHeader = c.in-Some.header in
    let header : header_in r.packet ≡ Some h = sym (c.data_header.ensures ∙ ap (λ (x : Item). header_in x.packet) c.item.view_is) ∙ c.in-Some.is in
    settled_listed c.act_settled.result c.listed.result j.origin r.side p c.act_settled.new.self c.act_settled.new.settled c.args.events.now.items c.act_settled.new.events.items _ c.listed.ensures
    (subst (λ o. IfOk c.act_settled.result (λ _. SettledDoes j.origin p c.act_settled.new.self c.act_settled.new.settled c.args.events.now.items c.act_settled.new.events.items (data_in_doubt i j.state r o held.doubts k))) (sym header)
    (subst (λ (o : SettledOutcome). IfOk c.act_settled.result (λ _. SettledDoes j.origin p c.act_settled.new.self c.act_settled.new.settled c.args.events.now.items c.act_settled.new.events.items o))
    (ap (λ x. failing_in_doubt x j.state c.in-Err.code held.doubts k) (sym c.requires.side) ∙ sym (c.in-Err.ensures.judged k (accepted_of i r h) refl st j.state) ∙ of_row i j.state r h held.doubts j.side k c.requires.side)
    (c.act_settled.ensures.does k st)))
