use Rattle.std.proofs.Common.{◌≡◌, sym, ◌∙◌, ap, subst, false}
use Rattle.std.specs.Prelude.{IfOk}
use Rattle.line_model.specs.basics.Records.{Item}
use Rattle.line_model.specs.declared.event.How.TheVariants.{Gap}
use Rattle.line_model.specs.declared.gap.AdriftEntry.TheVariants.{Clears, ConfirmsClear}
use Rattle.line_model.specs.declared.state.StateName.TheVariants.{P1, D1}
use Rattle.line_model.specs.packets.Classes.{packet_class}
use Rattle.line_model.specs.channels.Channels.{is_permanent}
use Rattle.line_model.specs.channels.ChannelStep.{ending, entering}
use Rattle.line_model.specs.channels.Gaps as gaps
use Rattle.line_model.specs.channels.Gaps.{drifting}
use Rattle.line_model.specs.channels.GapStep.{GapOutcome, adrift_reset, adrift_step_by, cleared_by, confirmed_clear, owed_after, resetting_state, with_certainty}
use Rattle.channel_machine.specs.GapChannels.{GapDoes, GapKnown, adrift_at, interface_of, number_of}
use Rattle.channel_machine.proofs.AdriftRows.{nothing_by, passed, virtual_clears, virtual_confirms}
use Rattle.channel_machine.proofs.gaps.channel.GapChannel.handle_entry.Goals as goal

pub clear_adrift-requires : goal.clear_adrift-requires
clear_adrift-requires g c = record { not_permanent = virtual_clears (is_permanent (interface_of c.args.self.now) (number_of c.args.self.now)) (packet_class c.args.item.now.packet) c.args.entry c.requires.entry c.in-Clears.is }

pub confirm_clear_adrift-requires : goal.confirm_clear_adrift-requires
confirm_clear_adrift-requires g c = record { not_permanent = virtual_confirms (is_permanent (interface_of c.args.self.now) (number_of c.args.self.now)) (packet_class c.args.item.now.packet) c.args.entry c.requires.entry c.in-ConfirmsClear.is }

pub returns-in-Clears-clause-does : goal.returns-in-Clears-clause-does
returns-in-Clears-clause-does g c is k s =
    let p : GapKnown = c.args.self.now in
    let r : Item = c.args.item.now in
    let a = c.args.adrift in
    let i = interface_of p in
    let n = number_of p in
    let q : gaps.GapChannel = adrift_at p a k in
    let es = c.args.events.now.items in
    let P : GapOutcome → Type 0 = λ o. IfOk c.clear_adrift.result (λ _. GapDoes c.args.row.now.origin p c.clear_adrift.new.self es c.clear_adrift.new.events.items o) in
    subst (λ e. P (adrift_step_by e i n r a q)) (sym c.in-Clears.is)
    (subst (λ x. P (with_certainty q (drifting (owed_after x Clears a.owed) false) (ending (cleared_by x) (entering P1 false k)))) c.requires.side (c.clear_adrift.ensures.does k s))

pub returns-in-ConfirmsClear-clause-does : goal.returns-in-ConfirmsClear-clause-does
returns-in-ConfirmsClear-clause-does g c is k s =
    let p : GapKnown = c.args.self.now in
    let r : Item = c.args.item.now in
    let a = c.args.adrift in
    let i = interface_of p in
    let n = number_of p in
    let q : gaps.GapChannel = adrift_at p a k in
    let es = c.args.events.now.items in
    let P : GapOutcome → Type 0 = λ o. IfOk c.confirm_clear_adrift.result (λ _. GapDoes c.args.row.now.origin p c.confirm_clear_adrift.new.self es c.confirm_clear_adrift.new.events.items o) in
    subst (λ e. P (adrift_step_by e i n r a q)) (sym c.in-ConfirmsClear.is)
    (subst (λ x. P (with_certainty q (confirmed_clear p.restarting (owed_after x ConfirmsClear a.owed)) (ending Gap (entering P1 false k)))) c.requires.side (c.confirm_clear_adrift.ensures.does k s))

pub returns-in-Resets-clause-does : goal.returns-in-Resets-clause-does
returns-in-Resets-clause-does g c is k s =
    let p : GapKnown = c.args.self.now in
    let r : Item = c.args.item.now in
    let a = c.args.adrift in
    let i = interface_of p in
    let n = number_of p in
    let q : gaps.GapChannel = adrift_at p a k in
    let es = c.args.events.now.items in
    let P : GapOutcome → Type 0 = λ o. IfOk c.handle_reset.result (λ _. GapDoes c.args.row.now.origin p c.handle_reset.new.self es c.handle_reset.new.events.items o) in
    subst (λ e. P (adrift_step_by e i n r a q)) (sym c.in-Resets.is)
    (subst P (λ j. adrift_reset i n (owed_after (c.requires.side j) (c.in-Resets.is j) a.owed) a ((c.resetting_state.ensures ∙ ap (λ x. resetting_state x) c.requires.side) j) q) (c.handle_reset.ensures.does k s))

pub returns-in-ConfirmsReset-clause-does : goal.returns-in-ConfirmsReset-clause-does
returns-in-ConfirmsReset-clause-does g c is k s =
    let p : GapKnown = c.args.self.now in
    let r : Item = c.args.item.now in
    let a = c.args.adrift in
    let i = interface_of p in
    let n = number_of p in
    let q : gaps.GapChannel = adrift_at p a k in
    let es = c.args.events.now.items in
    let P : GapOutcome → Type 0 = λ o. IfOk c.handle_reset-in-ConfirmsReset.result (λ _. GapDoes c.args.row.now.origin p c.handle_reset-in-ConfirmsReset.new.self es c.handle_reset-in-ConfirmsReset.new.events.items o) in
    subst (λ e. P (adrift_step_by e i n r a q)) (sym c.in-ConfirmsReset.is)
    (subst P (λ j. adrift_reset i n (owed_after (c.requires.side j) (c.in-ConfirmsReset.is j) a.owed) a D1 q) (c.handle_reset-in-ConfirmsReset.ensures.does k s))

pub returns-in-Carries-clause-does : goal.returns-in-Carries-clause-does
returns-in-Carries-clause-does g c is k s =
    let p : GapKnown = c.args.self.now in
    let r : Item = c.args.item.now in
    let a = c.args.adrift in
    let i = interface_of p in
    let n = number_of p in
    let q : gaps.GapChannel = adrift_at p a k in
    let es = c.args.events.now.items in
    let P : GapOutcome → Type 0 = λ o. IfOk c.carry_adrift.result (λ _. GapDoes c.args.row.now.origin p c.carry_adrift.new.self es c.carry_adrift.new.events.items o) in
    subst (λ e. P (adrift_step_by e i n r a q)) (sym c.in-Carries.is)
    (c.carry_adrift.ensures.does is k s)

pub returns-in_default-clause-does : goal.returns-in_default-clause-does
returns-in_default-clause-does g c is k s =
    let p : GapKnown = c.args.self.now in
    let r : Item = c.args.item.now in
    let a = c.args.adrift in
    let i = interface_of p in
    let n = number_of p in
    let q : gaps.GapChannel = adrift_at p a k in
    let es = c.args.events.now.items in
    subst (λ (o : GapOutcome). GapDoes c.args.row.now.origin p p es es o)
    (nothing_by c.args.entry (is_permanent i n) (packet_class r.packet) i n r a q c.requires.entry c.requires.other c.in_default.not-Clears c.in_default.not-ConfirmsClear c.in_default.not-Resets c.in_default.not-ConfirmsReset c.in_default.not-Carries)
    (passed c.args.row.now.origin p es a k is s)
