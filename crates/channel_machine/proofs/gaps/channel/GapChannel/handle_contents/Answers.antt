use Rattle.std.proofs.Common.{◌≡◌, sym, ◌∙◌, ap, subst, true, false}
use Rattle.std.specs.Prelude.{IfOk}
use Rattle.line_model.specs.basics.Records.{Item}
use Rattle.line_model.specs.declared.packet.Class.TheVariants.{Call, Accepted}
use Rattle.line_model.specs.packets.Classes.{packet_class}
use Rattle.line_model.specs.channels.Channels.{is_permanent}
use Rattle.line_model.specs.channels.Gaps as gaps
use Rattle.line_model.specs.channels.Gaps.{drifting}
use Rattle.line_model.specs.channels.GapStep.{GapOutcome, adrift_acceptance, adrift_call, adrift_entry, adrift_step_by, with_certainty}
use Rattle.channel_machine.specs.Contents.{AreOf, AreUsable}
use Rattle.channel_machine.specs.GapChannels.{GapDoes, GapKnown, adrift_at, interface_of, number_of}
use Rattle.channel_machine.proofs.AdriftRows.{passed}
use Rattle.channel_machine.proofs.gaps.channel.GapChannel.handle_contents.Goals as goal

pub open_adrift-requires-clause-usable : goal.open_adrift-requires-clause-usable
open_adrift-requires-clause-usable g c = subst (λ v. AreUsable v (interface_of c.args.self.now)) c.in-Call.is c.requires.usable

pub open_adrift-requires-clause-not_permanent : goal.open_adrift-requires-clause-not_permanent
open_adrift-requires-clause-not_permanent g c =
    sym (c.is_permanent-permanent.ensures ∙ ap (λ (q : GapKnown). is_permanent (interface_of q) (number_of q)) c.self.view_is) ∙ c.if-permanent.false

pub accept_adrift-requires : goal.accept_adrift-requires
accept_adrift-requires g c = record { usable = subst (λ v. AreUsable v (interface_of c.args.self.now)) c.in-Accepted.is c.requires.usable }

pub handle_entry-requires-clause-entry : goal.handle_entry-requires-clause-entry
handle_entry-requires-clause-entry g c =
    c.adrift_entry-entry.ensures ∙ (λ j. adrift_entry ((c.is_permanent-permanent.ensures ∙ ap (λ (q : GapKnown). is_permanent (interface_of q) (number_of q)) c.self.view_is) j)
    ((c.class.ensures ∙ ap (λ (u : Item). packet_class u.packet) c.item.view_is) j))

pub handle_entry-requires-clause-other : goal.handle_entry-requires-clause-other
handle_entry-requires-clause-other g c = subst (λ v. AreOf v c.args.item.now) c.in-Other.is c.requires.contents

pub returns-then-permanent-clause-does : goal.returns-then-permanent-clause-does
returns-then-permanent-clause-does g c is k s =
    let p : GapKnown = c.args.self.now in
    let r : Item = c.args.item.now in
    let a = c.args.adrift in
    let i = interface_of p in
    let n = number_of p in
    let q : gaps.GapChannel = adrift_at p a k in
    let es = c.args.events.now.items in
    let circuit : c.is_permanent-permanent.result ≡ is_permanent i n = c.is_permanent-permanent.ensures ∙ ap (λ (q : GapKnown). is_permanent (interface_of q) (number_of q)) c.self.view_is in
    let path : adrift_step_by (adrift_entry true Call) i n r a q ≡ adrift_step_by (adrift_entry (is_permanent i n) (packet_class r.packet)) i n r a q = λ j. adrift_step_by (adrift_entry ((sym c.if-permanent.true ∙ circuit) j) (sym (subst (λ v. AreOf v r) c.in-Call.is c.requires.contents).0 j)) i n r a q in
    subst (λ (o : GapOutcome). GapDoes c.args.row.now.origin p p es es o) path (passed c.args.row.now.origin p es a k is s)

pub returns-else-permanent-clause-does : goal.returns-else-permanent-clause-does
returns-else-permanent-clause-does g c is k s =
    let p : GapKnown = c.args.self.now in
    let r : Item = c.args.item.now in
    let a = c.args.adrift in
    let i = interface_of p in
    let n = number_of p in
    let q : gaps.GapChannel = adrift_at p a k in
    let es = c.args.events.now.items in
    let circuit : c.is_permanent-permanent.result ≡ is_permanent i n = c.is_permanent-permanent.ensures ∙ ap (λ (q : GapKnown). is_permanent (interface_of q) (number_of q)) c.self.view_is in
    let P : GapOutcome → Type 0 = λ o. IfOk c.open_adrift.result (λ _. GapDoes c.args.row.now.origin p c.open_adrift.new.self es c.open_adrift.new.events.items o) in
    let said = subst (λ v. AreOf v r) c.in-Call.is c.requires.contents in
    subst P (λ j. adrift_step_by (adrift_entry ((sym c.if-permanent.false ∙ circuit) j) (sym said.0 j)) i n r a q)
    (subst (λ x. P (with_certainty q (drifting a.owed false) (adrift_call x r.octets k))) c.requires.side (c.open_adrift.ensures.does r.octets said.1 k s))

pub returns-then-permanent-2-clause-does : goal.returns-then-permanent-2-clause-does
returns-then-permanent-2-clause-does g c is k s =
    let p : GapKnown = c.args.self.now in
    let r : Item = c.args.item.now in
    let a = c.args.adrift in
    let i = interface_of p in
    let n = number_of p in
    let q : gaps.GapChannel = adrift_at p a k in
    let es = c.args.events.now.items in
    let circuit : c.is_permanent-permanent.result ≡ is_permanent i n = c.is_permanent-permanent.ensures ∙ ap (λ (q : GapKnown). is_permanent (interface_of q) (number_of q)) c.self.view_is in
    let path : adrift_step_by (adrift_entry true Accepted) i n r a q ≡ adrift_step_by (adrift_entry (is_permanent i n) (packet_class r.packet)) i n r a q = λ j. adrift_step_by (adrift_entry ((sym c.if-permanent-2.true ∙ circuit) j) (sym (subst (λ v. AreOf v r) c.in-Accepted.is c.requires.contents).0 j)) i n r a q in
    subst (λ (o : GapOutcome). GapDoes c.args.row.now.origin p p es es o) path (passed c.args.row.now.origin p es a k is s)

pub returns-else-permanent-2-clause-does : goal.returns-else-permanent-2-clause-does
returns-else-permanent-2-clause-does g c is k s =
    let p : GapKnown = c.args.self.now in
    let r : Item = c.args.item.now in
    let a = c.args.adrift in
    let i = interface_of p in
    let n = number_of p in
    let q : gaps.GapChannel = adrift_at p a k in
    let es = c.args.events.now.items in
    let circuit : c.is_permanent-permanent.result ≡ is_permanent i n = c.is_permanent-permanent.ensures ∙ ap (λ (q : GapKnown). is_permanent (interface_of q) (number_of q)) c.self.view_is in
    let P : GapOutcome → Type 0 = λ o. IfOk c.accept_adrift.result (λ _. GapDoes c.args.row.now.origin p c.accept_adrift.new.self es c.accept_adrift.new.events.items o) in
    let said = subst (λ v. AreOf v r) c.in-Accepted.is c.requires.contents in
    subst P (λ j. adrift_step_by (adrift_entry ((sym c.if-permanent-2.false ∙ circuit) j) (sym said.0 j)) i n r a q)
    (subst (λ x. P (adrift_acceptance i x r.octets a q)) c.requires.side (c.accept_adrift.ensures.does r.octets said.1 is k s))

pub returns-in-Other-clause-does : goal.returns-in-Other-clause-does
returns-in-Other-clause-does g c is k s =
    let p : GapKnown = c.args.self.now in
    let r : Item = c.args.item.now in
    let a = c.args.adrift in
    let i = interface_of p in
    let n = number_of p in
    let q : gaps.GapChannel = adrift_at p a k in
    let es = c.args.events.now.items in
    let circuit : c.is_permanent-permanent.result ≡ is_permanent i n = c.is_permanent-permanent.ensures ∙ ap (λ (q : GapKnown). is_permanent (interface_of q) (number_of q)) c.self.view_is in
    let P : GapOutcome → Type 0 = λ o. IfOk c.handle_entry.result (λ _. GapDoes c.args.row.now.origin p c.handle_entry.new.self es c.handle_entry.new.events.items o) in
    let entry : c.adrift_entry-entry.result ≡ adrift_entry (is_permanent i n) (packet_class r.packet) =
    c.adrift_entry-entry.ensures ∙ (λ j. adrift_entry (circuit j) ((c.class.ensures ∙ ap (λ (u : Item). packet_class u.packet) c.item.view_is) j)) in
    subst (λ e. P (adrift_step_by e i n r a q)) entry (c.handle_entry.ensures.does is k s)
