use Rattle.std.proofs.Common.{sym, ◌∙◌, subst, Some, Ok}
use Rattle.line_model.specs.channels.GapStep.{confirmation_in_doubt, interrupt_in_doubt, receive_in_doubt, transferring_in_doubt}
use Rattle.channel_machine.specs.GapView.{InDoubt}
use Rattle.channel_machine.specs.SettledSteps.{IsControlled}
use Rattle.channel_machine.proofs.SettledRows.{confirms, interrupts, other_controls, receives, receives_none}
use Rattle.channel_machine.proofs.gaps.settled.SettledNumbers.control.Goals as goal

pub returns-in-Interrupt-clause-judged : goal.returns-in-Interrupt-clause-judged
returns-in-Interrupt-clause-judged g c i k q r side receive ns ss =
    let s : InDoubt = c.args.self.now in
    subst (λ v. IsControlled c.interrupt.result i c.args.side q c.interrupt.new.self s.doubts k (transferring_in_doubt i q v r s.doubts k)) (sym c.in-Interrupt.is)
    (subst (λ y. IsControlled c.interrupt.result i c.args.side q c.interrupt.new.self s.doubts k (interrupt_in_doubt y q s.doubts k)) (sym side)
    (interrupts c.interrupt.result i c.args.side q s c.interrupt.new.self k c.interrupt.ensures.doubts (c.interrupt.ensures.counted i k ns ss)))

pub returns-in-InterruptConfirm-clause-judged : goal.returns-in-InterruptConfirm-clause-judged
returns-in-InterruptConfirm-clause-judged g c i k q r side receive ns ss =
    let s : InDoubt = c.args.self.now in
    subst (λ v. IsControlled c.confirm.result i c.args.side q c.confirm.new.self s.doubts k (transferring_in_doubt i q v r s.doubts k)) (sym c.in-InterruptConfirm.is)
    (subst (λ y. IsControlled c.confirm.result i c.args.side q c.confirm.new.self s.doubts k (confirmation_in_doubt y q s.doubts k)) (sym side)
    (confirms c.confirm.result i c.args.side q s c.confirm.new.self k c.confirm.ensures.doubts (c.confirm.ensures.counted i k ns ss)))

pub returns-in-Some-clause-judged : goal.returns-in-Some-clause-judged
returns-in-Some-clause-judged g c i k q r side receive ns ss =
    let s : InDoubt = c.args.self.now in
    subst (λ o. IsControlled c.acknowledge.result i c.args.side q c.acknowledge.new.self s.doubts k o) (other_controls i q c.args.class r s.doubts k c.requires.no_data c.in_default.not-Interrupt c.in_default.not-InterruptConfirm)
    (subst (λ o. IsControlled c.acknowledge.result i c.args.side q c.acknowledge.new.self s.doubts k (receive_in_doubt i.modulus r.side q o s.doubts k)) (sym c.in-Some.is ∙ receive)
    (subst (λ y. IsControlled c.acknowledge.result i c.args.side q c.acknowledge.new.self s.doubts k (receive_in_doubt i.modulus y q (Some c.in-Some.receive) s.doubts k)) (sym side)
    (receives c.acknowledge.result i c.args.side q c.in-Some.receive s c.acknowledge.new.self k c.acknowledge.ensures.doubts (c.acknowledge.ensures.counted i k ns ss))))

pub returns-in-None-clause-judged : goal.returns-in-None-clause-judged
returns-in-None-clause-judged g c i k q r side receive ns ss =
    let s : InDoubt = c.args.self.now in
    subst (λ o. IsControlled {U = Unit {0}} (Ok (tt {0})) i c.args.side q s s.doubts k o) (other_controls i q c.args.class r s.doubts k c.requires.no_data c.in_default.not-Interrupt c.in_default.not-InterruptConfirm)
    (subst (λ o. IsControlled {U = Unit {0}} (Ok (tt {0})) i c.args.side q s s.doubts k (receive_in_doubt i.modulus r.side q o s.doubts k)) (sym c.in-None.is ∙ receive)
    (receives_none {U = Unit {0}} (tt {0}) i c.args.side r.side q s k ns ss))
