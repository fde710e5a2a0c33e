use Rattle.std.proofs.Common.{◌≡◌, sym, ◌∙◌, ap, subst, true, false, Some, None}
use Rattle.std.specs.Prelude.{IfOk, not, ◌||◌, option_and_then}
use Rattle.line_model.specs.basics.Records.{Item}
use Rattle.line_model.specs.packets.Says.{header_in}
use Rattle.line_model.specs.channels.Channels.{other}
use Rattle.line_model.specs.channels.GapStep.{GapOutcome, acknowledged_data, brought_up, hidden_when_up, is_in_use, is_resetting, receive_of}
use Rattle.channel_machine.specs.GapChannels.{GapDoes, GapKnown, RepresentsAdrift, interface_of, number_of}
use Rattle.channel_machine.specs.GapSteps.{IsBare}
use Rattle.channel_machine.specs.Settling.{settling_by}
use Rattle.channel_machine.proofs.AdriftLemmas.{at_entry, brought_bare}
use Rattle.channel_machine.proofs.AdriftRows.{in_use_of, passed, settling_some, transfer_ignored, transfer_settles, transfer_stays}
use Rattle.channel_machine.proofs.gaps.channel.GapChannel.carry_adrift.Goals as goal

pub returns-in-Some-clause-does : goal.returns-in-Some-clause-does
returns-in-Some-clause-does g c is k s =
    let st : RepresentsAdrift _ c.args.adrift k = at_entry _ c.args.self.now c.args.adrift k c.self.view_is s in
    let r : Item = c.args.item.now in
    let a = c.args.adrift in
    let b = c.hiding-adrift.result in
    let i = interface_of c.args.self.now in
    let n = number_of c.args.self.now in
    let (used, idle) = in_use_of (is_in_use i n k) (is_resetting (other c.args.row.now.side) k.state)
    (subst (λ (q : GapKnown). false ≡ (not (is_in_use (interface_of q) (number_of q) k) || is_resetting (other c.args.row.now.side) k.state)) c.self.view_is (c.if-ignores_transfer.ensures k st.represented)) in
    let free : is_resetting (other r.side) k.state ≡ false = ap (λ x. is_resetting (other x) k.state) (sym c.requires.side) ∙ idle in
    let hiding : b ≡ record a { hidden = hidden_when_up a k } = c.hiding-adrift.ensures ∙ (λ j. record a { hidden = c.is_hidden_when_up.ensures k st.represented j }) in
    let bare : IsBare (brought_up i k).after = brought_bare i n k s.circuit s.bare used in
    let settling : Some c.in-Some.settling ≡ settling_by r.side (header_in r.packet) (receive_of r) (option_and_then (acknowledged_data b r.side) (receive_of r)) =
    c.in-Some.ensures ∙ (λ j. settling_by (c.requires.side j) (header_in (c.item.view_is j).packet) (receive_of (c.item.view_is j))
    (option_and_then (acknowledged_data b (c.requires.side j)) (receive_of (c.item.view_is j)))) in
    subst (λ (o : GapOutcome). IfOk c.settle.result (λ _. GapDoes c.args.row.now.origin c.args.self.now c.settle.new.self c.args.events.now.items c.settle.new.events.items o))
    (transfer_settles i n r a b a c.args.self.now c.in-Some.settling k hiding settling used free)
    (c.settle.ensures.does a k s.represented bare)

pub returns-in-None-clause-does : goal.returns-in-None-clause-does
returns-in-None-clause-does g c is k s =
    let st : RepresentsAdrift _ c.args.adrift k = at_entry _ c.args.self.now c.args.adrift k c.self.view_is s in
    let r : Item = c.args.item.now in
    let a = c.args.adrift in
    let b = c.hiding-adrift.result in
    let i = interface_of c.args.self.now in
    let n = number_of c.args.self.now in
    let (used, idle) = in_use_of (is_in_use i n k) (is_resetting (other c.args.row.now.side) k.state)
    (subst (λ (q : GapKnown). false ≡ (not (is_in_use (interface_of q) (number_of q) k) || is_resetting (other c.args.row.now.side) k.state)) c.self.view_is (c.if-ignores_transfer.ensures k st.represented)) in
    let free : is_resetting (other r.side) k.state ≡ false = ap (λ x. is_resetting (other x) k.state) (sym c.requires.side) ∙ idle in
    let hiding : b ≡ record a { hidden = hidden_when_up a k } = c.hiding-adrift.ensures ∙ (λ j. record a { hidden = c.is_hidden_when_up.ensures k st.represented j }) in
    let bare : IsBare (brought_up i k).after = brought_bare i n k s.circuit s.bare used in
    let x = c.args.row.now.side in
    let none : settling_by x (header_in r.packet) (receive_of r) (option_and_then (acknowledged_data b r.side) (receive_of r)) ≡ None =
    sym (c.in-None.ensures ∙ (λ j. settling_by x (header_in (c.item.view_is j).packet) (receive_of (c.item.view_is j))
    (option_and_then (acknowledged_data b (c.requires.side j)) (receive_of (c.item.view_is j))))) in
    subst (λ (o : GapOutcome). IfOk c.stay_adrift.result (λ _. GapDoes c.args.row.now.origin c.args.self.now c.stay_adrift.new.self c.args.events.now.items c.stay_adrift.new.events.items o))
    (transfer_stays i n r a b c.args.self.now k hiding used free)
    (c.stay_adrift.ensures.does a (receive_of r) (option_and_then (acknowledged_data b r.side) (receive_of r)) none k s.represented bare)

pub returns-then-ignores_transfer-clause-does : goal.returns-then-ignores_transfer-clause-does
returns-then-ignores_transfer-clause-does g c is k s =
    let st : RepresentsAdrift _ c.args.adrift k = at_entry _ c.args.self.now c.args.adrift k c.self.view_is s in
    let p : GapKnown = c.args.self.now in
    let r : Item = c.args.item.now in
    let a = c.args.adrift in
    let es = c.args.events.now.items in
    let ignored : true ≡ (not (is_in_use (interface_of p) (number_of p) k) || is_resetting (other r.side) k.state) =
    subst (λ (q : GapKnown). true ≡ (not (is_in_use (interface_of q) (number_of q) k) || is_resetting (other c.args.row.now.side) k.state)) c.self.view_is (c.if-ignores_transfer.ensures k st.represented)
    ∙ ap (λ x. not (is_in_use (interface_of p) (number_of p) k) || is_resetting (other x) k.state) c.requires.side in
    subst (λ (o : GapOutcome). GapDoes c.args.row.now.origin p p es es o) (transfer_ignored (interface_of p) (number_of p) r a p k ignored) (passed c.args.row.now.origin p es a k is s)

pub settle-requires-clause-side : goal.settle-requires-clause-side
settle-requires-clause-side g c =
    let r : Item = c.args.item.now in
    let b = c.hiding-adrift.result in
    let settling : Some c.in-Some.settling ≡ settling_by r.side (header_in r.packet) (receive_of r) (option_and_then (acknowledged_data b r.side) (receive_of r)) =
    c.in-Some.ensures ∙ (λ j. settling_by (c.requires.side j) (header_in (c.item.view_is j).packet) (receive_of (c.item.view_is j))
    (option_and_then (acknowledged_data b (c.requires.side j)) (receive_of (c.item.view_is j)))) in
    (settling_some r.side (header_in r.packet) (receive_of r) (option_and_then (acknowledged_data b r.side) (receive_of r)) c.in-Some.settling settling).2

pub settle-requires-clause-header : goal.settle-requires-clause-header
settle-requires-clause-header g c =
    let r : Item = c.args.item.now in
    let b = c.hiding-adrift.result in
    let settling : Some c.in-Some.settling ≡ settling_by r.side (header_in r.packet) (receive_of r) (option_and_then (acknowledged_data b r.side) (receive_of r)) =
    c.in-Some.ensures ∙ (λ j. settling_by (c.requires.side j) (header_in (c.item.view_is j).packet) (receive_of (c.item.view_is j))
    (option_and_then (acknowledged_data b (c.requires.side j)) (receive_of (c.item.view_is j)))) in
    (settling_some r.side (header_in r.packet) (receive_of r) (option_and_then (acknowledged_data b r.side) (receive_of r)) c.in-Some.settling settling).3
