use Rattle.std.proofs.Common.{◌∙◌, ◌∷◌, [], ℕ, false, refl, sym, ap, subst, Ok, Err, None}
use Rattle.line_model.specs.basics.Records.{Item}
use Rattle.line_model.specs.channels.Channels.{AcceptedData}
use Rattle.line_model.specs.channels.ChannelStep.{counts_of, data_counted}
use Rattle.line_model.specs.declared.event.What.TheVariants.{Data}
use Rattle.line_model.specs.packets.Formats.{is_pad_call}
use Rattle.data_transfer.specs.Assembly.{unqualified}
use Rattle.channel_machine.specs.Transfers.{counted_in_force}
use Rattle.channel_machine.specs.Channels.{Known, known, StatusRepresents}
use Rattle.channel_machine.proofs.Counting.{answered_err}
use Rattle.channel_machine.proofs.AcceptingData.{in_force, accepted, alike_of, unlike, no_message_is, without_q}
use Rattle.channel_machine.proofs.Taking.{judged_data, passes_accepted}
use Rattle.channel_machine.proofs.channel.StatusChannel.accept_unqualified.Goals as goal

pub returns-then-not-is_alike-clause-judged : goal.returns-then-not-is_alike-clause-judged
returns-then-not-is_alike-clause-judged g c k q s =
    let i = c.self.inside in
    let old : Known = known i.channel (g.S.StatusStore.status i.status) i.assembler i.settings in
    let after = g.S.StatusStore.status c.data.new.self in
    let st = subst (λ o. StatusRepresents o k) (sym c.self.view_is) s in
    let x = c.item.inside.side in
    let r : Item = c.args.item.now in
    let h = c.args.header.now in
    let p : AcceptedData = unqualified x h.more h.delivery c.args.length in
    let counts = counted_in_force old.terms.interface x h.send h.receive k in
    judged_data {U = ℕ} (Err 83) (λ y n. Data y n ∷ []) old c.args.self.now c.args.self.now x q r h c.args.length k
    c.self.view_is (ap (λ (u : Item). u.side) c.item.view_is) c.requires.length c.requires.said c.requires.unqualified (
      sym (unlike c.in_default.field-0 old.terms.interface old.transfer after.flow x p counts k st.transfer
          (in_force (Unit {0}) (Ok c.in_default.field-0) old.terms.interface old.transfer after.flow k x h.send h.receive st.transfer (c.in_default.ensures.counts (counts_of k) st.transfer.flow))
          (alike_of i.assembler x p k.accepted st.transfer.sequences ∙ sym c.is_alike.ensures ∙ c.if-not-is_alike.true) q),
      sym c.self.view_is,
    )

pub returns-in-Err-clause-judged : goal.returns-in-Err-clause-judged
returns-in-Err-clause-judged g c k q s =
    let i = c.self.inside in
    let old : Known = known i.channel (g.S.StatusStore.status i.status) i.assembler i.settings in
    let after = g.S.StatusStore.status c.data.new.self in
    let st = subst (λ o. StatusRepresents o k) (sym c.self.view_is) s in
    let x = c.item.inside.side in
    let r : Item = c.args.item.now in
    let h = c.args.header.now in
    let p : AcceptedData = unqualified x h.more h.delivery c.args.length in
    let counts = counted_in_force old.terms.interface x h.send h.receive k in
    judged_data {U = ℕ} (Err c.in-Err.code) (λ y n. Data y n ∷ []) old c.args.self.now c.args.self.now x q r h c.args.length k
    c.self.view_is (ap (λ (u : Item). u.side) c.item.view_is) c.requires.length c.requires.said c.requires.unqualified (
      ap (λ a. data_counted old.terms.interface x q p a k) (sym (answered_err (Unit {0}) c.in-Err.code old.transfer.flow after.flow counts
          (in_force (Unit {0}) (Err c.in-Err.code) old.terms.interface old.transfer after.flow k x h.send h.receive st.transfer (c.in-Err.ensures.counts (counts_of k) st.transfer.flow))).0),
      sym c.self.view_is,
    )

pub returns-clause-judged : goal.returns-clause-judged
returns-clause-judged g c k q s =
    let i = c.self.inside in
    let old : Known = known i.channel (g.S.StatusStore.status i.status) i.assembler i.settings in
    let after = g.S.StatusStore.status c.data.new.self in
    let st = subst (λ o. StatusRepresents o k) (sym c.self.view_is) s in
    let x = c.item.inside.side in
    let r : Item = c.args.item.now in
    let h = c.args.header.now in
    let p : AcceptedData = unqualified x h.more h.delivery c.args.length in
    let counts = counted_in_force old.terms.interface x h.send h.receive k in
    let new : Known = known i.channel after c.put_unqualified.new.self i.settings in
    let put = c.put_unqualified.ensures.put k.accepted st.transfer.sequences in
    let (v, is, transfer) = accepted c.in_default.field-0 old.terms.interface old.transfer new.transfer k x h.send h.receive p None st.transfer refl
    (in_force (Unit {0}) (Ok c.in_default.field-0) old.terms.interface old.transfer after.flow k x h.send h.receive st.transfer (c.in_default.ensures.counts (counts_of k) st.transfer.flow))
    put.0 (no_message_is old.terms.interface k x p (without_q (is_pad_call k) false refl))
    c.data.ensures.rest.modulus c.data.ensures.rest.windows put.1 c.put_unqualified.ensures.sizes st.transfer.settings in
    judged_data (Ok c.args.length) (λ y n. Data y n ∷ []) old c.args.self.now new x q r h c.args.length k
    c.self.view_is (ap (λ (u : Item). u.side) c.item.view_is) c.requires.length c.requires.said c.requires.unqualified
    (passes_accepted old new x q p None v counts k (ap (λ t. known i.channel t c.put_unqualified.new.self i.settings) c.data.ensures.rest.rest) st is transfer)
