use Rattle.std.proofs.Common.{◌≡◌, refl, subst, None, Some}
use Rattle.std.specs.Prelude.{IfOk}
use Rattle.line_model.specs.basics.Records.{Item}
use Rattle.line_model.specs.channels.Gaps as gaps
use Rattle.line_model.specs.channels.GapStep.{GapOutcome, adrift_fault}
use Rattle.channel_machine.specs.GapChannels.{GapDoes, GapKnown, RepresentsAdrift, adrift_at, interface_of, number_of}
use Rattle.channel_machine.proofs.AdriftLemmas.{at_entry}
use Rattle.channel_machine.proofs.AdriftRows.{faulty_step, passed, step_by}
use Rattle.channel_machine.proofs.gaps.channel.GapChannel.step_adrift.Goals as goal

pub returns-in-Ok-clause-does : goal.returns-in-Ok-clause-does
returns-in-Ok-clause-does g c is k s =
    let p : GapKnown = c.args.self.now in
    let r : Item = c.args.item.now in
    let a = c.args.adrift in
    let i = interface_of p in
    let n = number_of p in
    let q : gaps.GapChannel = adrift_at p a k in
    let es = c.args.events.now.items in
    let st : RepresentsAdrift _ a k = at_entry _ p a k c.self.view_is s in
    let fault : None ≡ adrift_fault i n k r = subst (λ (q : GapKnown). None ≡ adrift_fault (interface_of q) (number_of q) k r) c.self.view_is (c.in-Ok.ensures.fault k st.represented) in
    subst (λ (o : GapOutcome). IfOk c.handle_contents.result (λ _. GapDoes c.args.row.now.origin p c.handle_contents.new.self es c.handle_contents.new.events.items o)) (step_by _ i n r a q fault refl)
    (c.handle_contents.ensures.does is k s)

pub returns-in-Err-clause-does : goal.returns-in-Err-clause-does
returns-in-Err-clause-does g c is k s =
    let p : GapKnown = c.args.self.now in
    let r : Item = c.args.item.now in
    let a = c.args.adrift in
    let i = interface_of p in
    let n = number_of p in
    let q : gaps.GapChannel = adrift_at p a k in
    let es = c.args.events.now.items in
    let st : RepresentsAdrift _ a k = at_entry _ p a k c.self.view_is s in
    let fault : Some c.in-Err.field-0 ≡ adrift_fault i n k r = subst (λ (q : GapKnown). Some c.in-Err.field-0 ≡ adrift_fault (interface_of q) (number_of q) k r) c.self.view_is (c.in-Err.ensures.fault k st.represented) in
    subst (λ (o : GapOutcome). GapDoes c.args.row.now.origin p p es es o) (faulty_step i n r a q c.in-Err.field-0 fault) (passed c.args.row.now.origin p es a k is s)
