use Rattle.std.proofs.Common.{◌≡◌, Bool, refl, sym, ◌∙◌, ap, subst, [], ◌∷◌, ◌++◌}
use Rattle.std.specs.Prelude.{not, ◌&&◌}
use Rattle.line_model.specs.declared.event.What.TheVariants.{Data}
use Rattle.line_model.specs.basics.Records.{Item}
use Rattle.line_model.specs.packets.Formats.{is_pad_call, size_in_force}
use Rattle.line_model.specs.channels.Channels.{AcceptedData, of_side}
use Rattle.line_model.specs.channels.ChannelStep.{accepted_of}
use Rattle.line_model.specs.channels.Gaps.{Doubts}
use Rattle.line_model.specs.channels.GapStep.{may_be_category_a, message_in_doubt, settings_in_doubt}
use Rattle.channel_machine.specs.Channels.{Known}
use Rattle.channel_machine.specs.Events.{Reports, event_at}
use Rattle.channel_machine.specs.GapChannels.{at_rest}
use Rattle.channel_machine.specs.GapView.{InDoubt}
use Rattle.channel_machine.specs.TermsRepresent.{is_pad, size_of}
use Rattle.channel_machine.proofs.InForce.{pad_represents, size_represents}
use Rattle.channel_machine.proofs.Reporting as reporting
use Rattle.channel_machine.proofs.SettledData.{carries, message_reported}
use Rattle.channel_machine.proofs.channel.StatusChannel.add_settled.Goals as goal

pub returns-clause-adds : goal.returns-clause-adds
returns-clause-adds g c k hs st continued =
    let r : Item = c.args.item.now in
    let j = c.args.judgement.now in
    let x = j.side in
    let p : Known = c.args.self.now in
    let i = p.terms.interface in
    let h = c.args.header.now in
    let s : InDoubt = c.args.settled.now in
    let es = c.args.events.now.items in
    let a = c.may_be_category_a-is_category_a.result in
    let doubt : Bool = of_side x s.doubts.sequences in
    let q : AcceptedData = accepted_of i r h in
    let hidden = c.is_hidden.ensures ∙ ap (λ (d : Doubts). d.hidden) c.doubts.ensures in
    let size : c.size-size.result ≡ size_in_force i k x =
    c.size-size.ensures ∙ ap (λ (o : Known). size_of o.terms.values x) c.self.view_is ∙ size_represents p.terms (at_rest k) x st.terms in
    let pad : c.is_pad_call.result ≡ is_pad_call k =
    c.is_pad_call.ensures ∙ ap (λ o. is_pad o) (c.call.ensures ∙ ap (λ (o : Known). o.terms.call) c.self.view_is) ∙ pad_represents p.terms (at_rest k) st.terms in
    let carried : c.is_message-carries_message.result ≡ (is_pad_call k && q.qualified) = c.is_message-carries_message.ensures ∙ ap (λ b. b && h.qualified) pad in
    let category : a ≡ may_be_category_a s.doubts.hidden (size_in_force i k x) q =
    c.may_be_category_a-is_category_a.ensures q refl refl (sym c.user_data_length-length.ensures) ∙ (λ j. may_be_category_a (hidden j) (size j) q) in
    let first : c.push_reserved.new.self.items ≡ es ++ event_at j.origin (Data x q.length) ∷ [] =
    c.push_reserved.ensures.items ∙ ap (λ l. l ++ c.event.result ∷ []) c.in_ok-reserve.ensures.items
    ∙ ap (λ v. es ++ v ∷ []) (c.event.ensures ∙ ap (λ w. event_at j.origin w) (c.data_packet-what.ensures ∙ ap (λ n. Data x n) c.user_data_length-length.ensures)) in
    let second : Reports j.origin c.push_reserved.new.self.items c.report_known.new.events.items (settings_in_doubt x (message_in_doubt s.doubts.hidden doubt (size_in_force i k x) q hs k)) =
    subst (λ m. Reports j.origin c.push_reserved.new.self.items c.report_known.new.events.items (settings_in_doubt x m)) (message_reported s.doubts.hidden doubt (size_in_force i k x) q hs a _ k carried category)
    (c.report_known.ensures (not doubt && not a) hs q (carries (is_pad_call k) q.qualified _ carried) (c.in_ok-completed.ensures.completed hs q (record { holds = continued.holds; qualified = refl; octets = sym c.user_data.ensures; alike = continued.alike }))) in
    record {
      put = record {
        category = category;
        begun = c.in_ok-completed.ensures.continued hs q (record { holds = continued.holds; qualified = refl; octets = sym c.user_data.ensures; alike = continued.alike });
        apart = c.put.ensures.apart;
        doubts = c.put.ensures.doubts;
      };
      reports = reporting.more j.origin es c.push_reserved.new.self.items c.report_known.new.events.items (Data x q.length ∷ []) (settings_in_doubt x (message_in_doubt s.doubts.hidden doubt (size_in_force i k x) q hs k)) first second;
    }
