use Rattle.std.proofs.Common.{◌≡◌, false, sym, ◌∙◌, ap, subst, append-nil, [], ◌∷◌, ◌++◌}
use Rattle.std.specs.Prelude.{is_some, map, ◌-◌}
use Rattle.line_model.specs.basics.Records.{Item}
use Rattle.line_model.specs.channels.ChannelStep.{Outcome, entering}
use Rattle.line_model.specs.declared.event.What.TheVariants.{Data as DataAccepted}
use Rattle.line_model.specs.declared.state.StateName.TheVariants.{D1}
use Rattle.line_model.specs.packets.Classes.{header_length}
use Rattle.line_model.specs.channels.GapStep.{brought_up}
use Rattle.line_model.specs.packets.Says.{header_in}
use Rattle.channel_machine.specs.Agreed.{agreed_of}
use Rattle.channel_machine.specs.Channels.{Does, Known, StatusRepresents}
use Rattle.channel_machine.specs.Events.{event_at}
use Rattle.channel_machine.specs.GapSteps.{counted_at_rest}
use Rattle.channel_machine.specs.TermsRepresent.{TermsRepresent}
use Rattle.channel_machine.proofs.AdriftLemmas.{reported_data, reported_none}
use Rattle.channel_machine.proofs.Calls.{after_events}
use Rattle.channel_machine.proofs.channel.StatusChannel.carry_on.Goals as goal

pub returns-then-is_some-clause-does : goal.returns-then-is_some-clause-does
returns-then-is_some-clause-does g c k s =
    let i = c.args.self.now.terms.interface in
    let r : Item = c.args.item.now in
    let first : Outcome = brought_up i k in
    let d : Does c.args.origin c.args.self.now c.bring_up.new.self c.args.events.now.items c.bring_up.new.events.items first =
    subst (λ l. Does c.args.origin c.args.self.now c.bring_up.new.self l c.bring_up.new.events.items first) c.in_ok-reserve.ensures.items (c.bring_up.ensures.does k s) in
    let terms_are : agreed_of c.terms-terms.result ≡ c.bring_up.new.self.terms = c.terms-terms.ensures ∙ ap (λ (o : Known). o.terms) c.self.view_is in
    let interface : c.enter.new.self.terms.interface ≡ c.bring_up.new.self.terms.interface = c.enter.ensures.interface ∙ ap (λ t. t.interface) terms_are in
    let represented : StatusRepresents c.enter.new.self (entering D1 false first.after) =
    c.enter.ensures.represented first.after (subst (λ t. TermsRepresent t first.after) (sym terms_are) d.represented.terms) d.represented.transfer.settings in
    after_events c.args.origin c.args.self.now c.bring_up.new.self c.enter.new.self c.args.events.now.items c.bring_up.new.events.items c.push_reserved.new.self.items
    first.reported first.after (counted_at_rest i r) d.interface d.channel d.reports
    (record {
      interface = interface;
      channel = c.enter.ensures.channel;
      represented = represented;
      reports = c.push_reserved.ensures.items
          ∙ ap (λ v. c.bring_up.new.events.items ++ v ∷ []) (c.event.ensures ∙ ap (λ v. event_at c.args.origin v)
          (c.data_packet.ensures ∙ (λ j. DataAccepted ((ap (λ (u : Item). u.side) c.item.view_is) j)
          ((c.data_length-octets.ensures ∙ ap (λ m. r.length - header_length m) (interface ∙ d.interface)) j))))
          ∙ ap (λ ws. c.bring_up.new.events.items ++ map (event_at c.args.origin) ws)
          (reported_data i r (header_in r.packet) (ap (λ (u : Item). is_some (header_in u.packet)) (sym c.item.view_is) ∙ ap (λ h. is_some h) (sym c.data_header.ensures) ∙ sym c.if-is_some.ensures));
    })

pub returns-else-is_some-clause-does : goal.returns-else-is_some-clause-does
returns-else-is_some-clause-does g c k s =
    let i = c.args.self.now.terms.interface in
    let r : Item = c.args.item.now in
    let first : Outcome = brought_up i k in
    let d : Does c.args.origin c.args.self.now c.bring_up.new.self c.args.events.now.items c.bring_up.new.events.items first =
    subst (λ l. Does c.args.origin c.args.self.now c.bring_up.new.self l c.bring_up.new.events.items first) c.in_ok-reserve.ensures.items (c.bring_up.ensures.does k s) in
    let terms_are : agreed_of c.terms-terms.result ≡ c.bring_up.new.self.terms = c.terms-terms.ensures ∙ ap (λ (o : Known). o.terms) c.self.view_is in
    let interface : c.enter.new.self.terms.interface ≡ c.bring_up.new.self.terms.interface = c.enter.ensures.interface ∙ ap (λ t. t.interface) terms_are in
    let represented : StatusRepresents c.enter.new.self (entering D1 false first.after) =
    c.enter.ensures.represented first.after (subst (λ t. TermsRepresent t first.after) (sym terms_are) d.represented.terms) d.represented.transfer.settings in
    after_events c.args.origin c.args.self.now c.bring_up.new.self c.enter.new.self c.args.events.now.items c.bring_up.new.events.items c.bring_up.new.events.items
    first.reported first.after (counted_at_rest i r) d.interface d.channel d.reports
    (record {
      interface = interface;
      channel = c.enter.ensures.channel;
      represented = represented;
      reports = sym (append-nil c.bring_up.new.events.items) ∙ ap (λ ws. c.bring_up.new.events.items ++ map (event_at c.args.origin) ws)
          (sym (reported_none i r (header_in r.packet) (ap (λ (u : Item). is_some (header_in u.packet)) (sym c.item.view_is) ∙ ap (λ h. is_some h) (sym c.data_header.ensures) ∙ sym c.if-is_some.ensures)));
    })
