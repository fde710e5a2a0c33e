use Rattle.std.proofs.Common.{◌≡◌, refl, sym, ◌∙◌, ap, subst, true, false, Ok, Err, None, Some}
use Rattle.line_model.specs.declared.diagnostic.TheConstants.{INCONSISTENT_Q_BIT_SETTING}
use Rattle.line_model.specs.channels.Channels.{AcceptedData}
use Rattle.line_model.specs.channels.ChannelStep.{counts_of}
use Rattle.std.specs.Prelude.{◌&&◌}
use Rattle.line_model.specs.packets.Formats.{is_pad_call}
use Rattle.channel_machine.specs.TermsRepresent.{is_pad}
use Rattle.channel_machine.proofs.InForce.{pad_represents}
use Rattle.channel_machine.specs.Appending.{IsAppended}
use Rattle.channel_machine.specs.Transfers.{Transfer, IsAccepted, packet, counted_in_force}
use Rattle.channel_machine.specs.Channels.{Known, known, StatusRepresents}
use Rattle.channel_machine.proofs.AcceptingData.{accepted_data, completed_is, in_force, refused, unlike}
use Rattle.channel_machine.proofs.channel.StatusChannel.accept_data.Goals as goal

pub returns-in-Err-clause-accepted_data : goal.returns-in-Err-clause-accepted_data
returns-in-Err-clause-accepted_data g c k s =
    let i = c.self.inside in
    let before = g.S.StatusStore.status i.status in
    let after = g.S.StatusStore.status c.data.new.self in
    let old : Known = known i.channel before i.assembler i.settings in
    let st : StatusRepresents old k = subst (λ o. StatusRepresents o k) (sym c.self.view_is) s in
    let h : AcceptedData = packet c.args.side c.args.header.now c.args.user_data.now in
    let r = counted_in_force before.terms.interface c.args.side c.args.header.now.send c.args.header.now.receive k in
    subst (λ o. IsAccepted (Some c.in-Err.code) o.terms.interface c.args.origin o.transfer o.transfer c.args.events.now.items c.args.events.now.items c.args.side h (counted_in_force o.terms.interface c.args.side c.args.header.now.send c.args.header.now.receive k) k) c.self.view_is
    (refused (Unit {0}) c.in-Err.code before.terms.interface c.args.origin old.transfer after.flow c.args.events.now.items c.args.side h r k
    (in_force (Unit {0}) (Err c.in-Err.code) before.terms.interface old.transfer after.flow k c.args.side c.args.header.now.send c.args.header.now.receive st.transfer (c.in-Err.ensures.counts (counts_of k) st.transfer.flow)))

pub returns-then-is_alike-clause-accepted_data : goal.returns-then-is_alike-clause-accepted_data
returns-then-is_alike-clause-accepted_data g c k s =
    let i = c.self.inside in
    let before = g.S.StatusStore.status i.status in
    let after = g.S.StatusStore.status c.data.new.self in
    let old : Known = known i.channel before i.assembler i.settings in
    let st : StatusRepresents old k = subst (λ o. StatusRepresents o k) (sym c.self.view_is) s in
    let x = c.args.side in
    let n = c.args.header.now in
    let h : AcceptedData = packet x n c.args.user_data.now in
    let b = c.is_message-carries_message.result in
    let answer = in_force (Unit {0}) (Ok c.in_default.field-0) before.terms.interface old.transfer after.flow k x n.send n.receive st.transfer (c.in_default.ensures.counts (counts_of k) st.transfer.flow) in
    let pad : c.is_pad_call.result ≡ is_pad_call k = c.is_pad_call.ensures ∙ ap (λ o. is_pad o) c.call.ensures ∙ pad_represents before.terms k st.terms in
    let carries : b ≡ (is_pad_call k && h.qualified) = c.is_message-carries_message.ensures ∙ ap (λ a. a && h.qualified) pad in
    let new : Transfer = record { flow = after.flow; assembler = c.append_data.new.assembler; settings = c.append_data.new.settings } in
    let appended : IsAppended true b c.args.origin i.assembler new.assembler new.settings c.args.events.now.items c.append_data.new.events.items x h k.accepted k.pad_messages =
    subst (λ a. IsAppended a b c.args.origin i.assembler new.assembler new.settings c.args.events.now.items c.append_data.new.events.items x h k.accepted k.pad_messages) c.if-is_alike.true
    (c.in_ok-is_alike.ensures.appended k.accepted k.pad_messages st.transfer.sequences st.transfer.settings) in
    let (alike, sequences, m, is, settings, reports) = appended in
    subst (λ o. IsAccepted None o.terms.interface c.args.origin o.transfer new c.args.events.now.items c.append_data.new.events.items x h (counted_in_force o.terms.interface x n.send n.receive k) k) c.self.view_is
    (accepted_data c.in_default.field-0 before.terms.interface c.args.origin old.transfer new c.args.events.now.items c.append_data.new.events.items k x n.send n.receive h m st.transfer refl answer
    alike (completed_is b before.terms.interface old.transfer k x h carries st.transfer ∙ sym is) c.data.ensures.rest.modulus c.data.ensures.rest.windows sequences c.append_data.ensures.sizes settings (λ v. reports))

pub returns-clause-accepted_data : goal.returns-clause-accepted_data
returns-clause-accepted_data g c k s =
    let i = c.self.inside in
    let before = g.S.StatusStore.status i.status in
    let after = g.S.StatusStore.status c.data.new.self in
    let old : Known = known i.channel before i.assembler i.settings in
    let st : StatusRepresents old k = subst (λ o. StatusRepresents o k) (sym c.self.view_is) s in
    let x = c.args.side in
    let n = c.args.header.now in
    let h : AcceptedData = packet x n c.args.user_data.now in
    let b = c.is_message-carries_message.result in
    let answer = in_force (Unit {0}) (Ok c.in_default.field-0) before.terms.interface old.transfer after.flow k x n.send n.receive st.transfer (c.in_default.ensures.counts (counts_of k) st.transfer.flow) in
    let new : Transfer = record old.transfer { assembler = c.append_data.new.assembler; settings = c.append_data.new.settings } in
    let mixed = c.in_ok-is_alike.ensures.mixed c.if-is_alike.false in
    let unalike : IsAppended false b c.args.origin i.assembler new.assembler new.settings c.args.events.now.items c.append_data.new.events.items x h k.accepted k.pad_messages =
    subst (λ a. IsAppended a b c.args.origin i.assembler new.assembler new.settings c.args.events.now.items c.append_data.new.events.items x h k.accepted k.pad_messages) c.if-is_alike.false
    (c.in_ok-is_alike.ensures.appended k.accepted k.pad_messages st.transfer.sequences st.transfer.settings) in
    subst (λ o. IsAccepted (Some INCONSISTENT_Q_BIT_SETTING) o.terms.interface c.args.origin o.transfer new c.args.events.now.items c.append_data.new.events.items x h (counted_in_force o.terms.interface x n.send n.receive k) k) c.self.view_is (
      unlike c.in_default.field-0 before.terms.interface old.transfer after.flow x h (counted_in_force before.terms.interface x n.send n.receive k) k st.transfer answer unalike,
      (λ j. record old.transfer { assembler = mixed.0 j; settings = mixed.1 j }),
      mixed.2,
    )

pub returns-then-is_alike-clause-rest : goal.returns-then-is_alike-clause-rest
returns-then-is_alike-clause-rest g c =
    let i = c.self.inside in
    let after = g.S.StatusStore.status c.data.new.self in
    let new : Transfer = record { flow = after.flow; assembler = c.append_data.new.assembler; settings = c.append_data.new.settings } in
    ap (λ t. known i.channel t c.append_data.new.assembler c.append_data.new.settings) c.data.ensures.rest.rest ∙ ap (λ (o : Known). record o { transfer = new }) c.self.view_is

pub returns-clause-faulted : goal.returns-clause-faulted
returns-clause-faulted g c =
    let i = c.self.inside in
    let mixed = c.in_ok-is_alike.ensures.mixed c.if-is_alike.false in
    ((λ j. known i.channel (g.S.StatusStore.status i.status) (mixed.0 j) (mixed.1 j)) ∙ c.self.view_is, mixed.2)
