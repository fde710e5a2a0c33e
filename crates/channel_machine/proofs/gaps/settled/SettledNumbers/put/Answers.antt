use Rattle.std.proofs.Common.{sym, ◌∙◌, ap, subst, Some}
use Rattle.line_model.specs.channels.Channels.{of_side}
use Rattle.data_transfer.specs.Assembler.{begun_on}
use Rattle.data_transfer.specs.Assembly.{Holds, with_more}
use Rattle.channel_machine.specs.GapView.{InDoubt}
use Rattle.channel_machine.specs.SettledSequences.{kept_after}
use Rattle.channel_machine.proofs.Sequencing.{IsKept, completes, joined, kept_is, unkept}
use Rattle.channel_machine.proofs.gaps.settled.SettledNumbers.put.Goals as goal

pub returns-then-not-is_kept-clause-continued : goal.returns-then-not-is_kept-clause-continued
returns-then-not-is_kept-clause-continued g c hs p h =
    subst (λ l. Holds (begun_on c.forget.new.self c.args.side) l)
    (sym (unkept c.is_kept.result c.args.is_category_a c.args.self.now c.args.side c.args.field.now hs p h c.is_kept.ensures c.if-not-is_kept.true).0) c.forget.ensures.done

pub returns-then-not-is_kept-clause-completed : goal.returns-then-not-is_kept-clause-completed
returns-then-not-is_kept-clause-completed g c hs p h =
    (unkept c.is_kept.result c.args.is_category_a c.args.self.now c.args.side c.args.field.now hs p h c.is_kept.ensures c.if-not-is_kept.true).1

pub returns-then-is_category_a-clause-continued : goal.returns-then-is_category_a-clause-continued
returns-then-is_category_a-clause-continued g c hs p h =
    let s : InDoubt = c.args.self.now in
    let x = c.args.side in
    let f = c.args.field.now in
    let kept : IsKept s x f = kept_is c.is_kept.result s x f c.is_kept.ensures c.if-not-is_kept.false in
    subst (λ a. Holds (begun_on c.join.new.self x) (kept_after (of_side x s.doubts.sequences) s.doubts.hidden a hs p)) (sym c.if-is_category_a.true)
    (joined s (begun_on c.join.new.self x) x f hs p h kept
    (c.in_ok-join.ensures.joined ∙ ap (λ (t : InDoubt). record (begun_on t.assembler x) { qualified = Some f.qualified; octets = with_more (begun_on t.assembler x).octets f.octets.now }) c.self.view_is))

pub returns-clause-continued : goal.returns-clause-continued
returns-clause-continued g c hs p h =
    let s : InDoubt = c.args.self.now in
    let x = c.args.side in
    subst (λ a. Holds (begun_on c.complete.new.self x) (kept_after (of_side x s.doubts.sequences) s.doubts.hidden a hs p)) (sym c.if-is_category_a.false) c.in_ok-octets.ensures.done

pub returns-clause-completed : goal.returns-clause-completed
returns-clause-completed g c hs p h =
    let s : InDoubt = c.args.self.now in
    let x = c.args.side in
    let f = c.args.field.now in
    completes s x f hs p c.args.is_category_a _ h (kept_is c.is_kept.result s x f c.is_kept.ensures c.if-not-is_kept.false) c.if-is_category_a.false
    (c.in_ok-octets.ensures.octets ∙ ap (λ (t : InDoubt). with_more (begun_on t.assembler x).octets f.octets.now) c.self.view_is)
