use Rattle.std.proofs.Common.{◌∙◌, refl, ap, subst, [], ◌∷◌, ◌++◌, Some, false, Option}
use Rattle.std.specs.Prelude.{map}
use Rattle.line_model.specs.channels.Channels.{Channel, Opening}
use Rattle.line_model.specs.declared.event.What.{What}
use Rattle.line_model.specs.declared.event.What.TheVariants.{Open}
use Rattle.line_model.specs.declared.event.How.TheVariants.{Collision}
use Rattle.line_model.specs.packets.Facilities.{fields_of}
use Rattle.line_model.specs.channels.ChannelStep.{Outcome, ending, entering, opening}
use Rattle.channel_machine.specs.Events.{event_at}
use Rattle.channel_machine.specs.TermsRepresent.{TermsRepresent}
use Rattle.channel_machine.specs.Agreed.{agreed_of}
use Rattle.channel_machine.specs.Channels.{Known, StatusRepresents, Does}
use Rattle.channel_machine.proofs.Calls.{after_events, bare_after, reopens}
use Rattle.channel_machine.proofs.InForce.{opened_represents}
use Rattle.channel_machine.proofs.channel.StatusChannel.open.Goals as goal

pub returns-clause-does : goal.returns-clause-does
returns-clause-does g c k xs shows bare s =
    let first : Outcome = ending Collision (entering c.args.to false k) in
    let d : Does c.args.origin c.args.self.now c.end.new.self c.reserve.new.self.items c.end.new.events.items first = c.end.ensures.does k s in
    let o : Option Opening = Some (record { out = c.args.out; packet = xs }) in
    let target : Channel = record first.after { opening = o } in
    let w : What = Open c.args.out (fields_of xs).called (fields_of xs).calling (fields_of xs).reverse_charging in
    let terms : TermsRepresent (agreed_of c.opened-terms.result) target =
    opened_represents (agreed_of c.opened-terms.result) c.interface.result target c.args.out xs c.args.fields.now.sizes c.args.fields.now.windows
    refl (bare_after Collision c.args.to false k bare) c.opened-terms.ensures.interface (ap (λ f. f.sizes) shows) (ap (λ f. f.windows) shows)
    (c.opened-terms.ensures.call xs shows) c.opened-terms.ensures.values in
    let represented : StatusRepresents c.enter.new.self (entering c.args.to false target) = c.enter.ensures.represented target terms d.represented.transfer.settings in
    after_events c.args.origin c.args.self.now c.end.new.self c.enter.new.self c.args.events.now.items c.end.new.events.items c.push_reserved.new.self.items
    first.reported first.after (opening c.args.out xs) d.interface d.channel
    (d.reports ∙ ap (λ l. l ++ map (event_at c.args.origin) first.reported) c.in_ok-reserve.ensures.items)
    (record {
      interface = c.enter.ensures.interface ∙ c.opened-terms.ensures.interface ∙ c.interface.ensures ∙ ap (λ (o : Known). o.terms.interface) c.self.view_is;
      channel = c.enter.ensures.channel;
      represented = subst (λ a. StatusRepresents c.enter.new.self a) (reopens Collision c.args.to k o) represented;
      reports = c.push_reserved.ensures.items ∙ ap (λ v. c.end.new.events.items ++ v ∷ [])
          (c.event.ensures ∙ ap (λ v. event_at c.args.origin v)
          (λ j. Open c.args.out ((c.copied.ensures ∙ ap (λ f. f.called) shows) j) ((c.copied-2.ensures ∙ ap (λ f. f.calling) shows) j) (shows j).reverse_charging));
    })
