use Rattle.std.proofs.Common.{◌∙◌, ap, sym}
use Rattle.std.specs.Prelude.{unwrap_or}
use Rattle.line_model.specs.basics.Records.{Item}
use Rattle.line_model.specs.channels.ChannelStep.{counting, counts_of, transferring}
use Rattle.line_model.specs.channels.FlowControl.{count_confirm, count_interrupt, count_receive}
use Rattle.line_model.specs.packets.Says.{receive_in}
use Rattle.channel_machine.specs.Channels.{Known, known}
use Rattle.channel_machine.proofs.Counting.{confirmed, interrupted}
use Rattle.channel_machine.proofs.SaidData.{other_transfers}
use Rattle.channel_machine.proofs.Taking.{judged_as, judged_counts}
use Rattle.channel_machine.proofs.channel.StatusChannel.accept_control.Goals as goal

pub returns-in-Interrupt-clause-judged : goal.returns-in-Interrupt-clause-judged
returns-in-Interrupt-clause-judged g c k q s =
    let i = c.self.inside in
    let old : Known = known i.channel (g.S.StatusStore.status i.status) i.assembler i.settings in
    let p : Known = c.args.self.now in
    let after = g.S.StatusStore.status c.interrupt.new.self in
    let new : Known = known i.channel after i.assembler i.settings in
    let r : Item = c.args.item.now in
    let x = c.item.inside.side in
    let side = ap (λ (u : Item). u.side) c.item.view_is in
    judged_as c.interrupt.result p new x r.side q k (counting x q (count_interrupt (counts_of k) x) k) (transferring p.terms.interface q c.args.class r k) side
    ((λ j. counting (side j) q (count_interrupt (counts_of k) (side j)) k) ∙ ap (λ v. transferring p.terms.interface q v r k) (sym c.in-Interrupt.is))
    (judged_counts c.interrupt.result old p new after.flow x q (λ _. count_interrupt (counts_of k) x) k c.self.view_is (ap (λ t. known i.channel t i.assembler i.settings) c.interrupt.ensures.rest.rest) s
    (λ st. interrupted c.interrupt.result old.terms.interface old.transfer after.flow x k st c.interrupt.ensures.rest.modulus c.interrupt.ensures.rest.windows (c.interrupt.ensures.counts (counts_of k) st.flow)))

pub returns-in-InterruptConfirm-clause-judged : goal.returns-in-InterruptConfirm-clause-judged
returns-in-InterruptConfirm-clause-judged g c k q s =
    let i = c.self-in-InterruptConfirm.inside in
    let old : Known = known i.channel (g.S.StatusStore.status i.status) i.assembler i.settings in
    let p : Known = c.args.self.now in
    let after = g.S.StatusStore.status c.confirm.new.self in
    let new : Known = known i.channel after i.assembler i.settings in
    let r : Item = c.args.item.now in
    let x = c.item.inside.side in
    let side = ap (λ (u : Item). u.side) c.item.view_is in
    judged_as c.confirm.result p new x r.side q k (counting x q (count_confirm (counts_of k) x) k) (transferring p.terms.interface q c.args.class r k) side
    ((λ j. counting (side j) q (count_confirm (counts_of k) (side j)) k) ∙ ap (λ v. transferring p.terms.interface q v r k) (sym c.in-InterruptConfirm.is))
    (judged_counts c.confirm.result old p new after.flow x q (λ _. count_confirm (counts_of k) x) k c.self-in-InterruptConfirm.view_is (ap (λ t. known i.channel t i.assembler i.settings) c.confirm.ensures.rest.rest) s
    (λ st. confirmed c.confirm.result old.terms.interface old.transfer after.flow x k st c.confirm.ensures.rest.modulus c.confirm.ensures.rest.windows (c.confirm.ensures.counts (counts_of k) st.flow)))

pub returns-in_default-clause-judged : goal.returns-in_default-clause-judged
returns-in_default-clause-judged g c k q s =
    let p : Known = c.args.self.now in
    let i = p.terms.interface in
    let r : Item = c.args.item.now in
    let x = c.item.inside.side in
    let side = ap (λ (u : Item). u.side) c.item.view_is in
    let received = c.receive_of.ensures ∙ ap (λ (u : Item). unwrap_or (receive_in u.packet) 0) c.item.view_is in
    judged_as c.accept_ready.result p c.accept_ready.new.self x r.side q k (counting x q (count_receive i.modulus (counts_of k) x c.receive_of.result) k) (transferring i q c.args.class r k) side
    ((λ j. counting (side j) q (count_receive i.modulus (counts_of k) (side j) (received j)) k)
    ∙ other_transfers i q c.args.class r k c.requires.no_data c.in_default.not-Interrupt c.in_default.not-InterruptConfirm)
    (c.accept_ready.ensures.judged k q s)
