use Rattle.std.proofs.Common.{refl, sym, ◌∙◌, ap, subst, map, ◌++◌}
use Rattle.std.specs.Prelude.{IfOk}
use Rattle.line_model.specs.declared.table.Action.TheVariants.{Normal}
use Rattle.line_model.specs.basics.Records.{Item}
use Rattle.line_model.specs.packets.Classes.{packet_class}
use Rattle.line_model.specs.channels.GapStep.{SettledOutcome}
use Rattle.channel_machine.specs.Entries.{comes_from, is_entry, is_transfer}
use Rattle.channel_machine.specs.Events.{data_of, event_at}
use Rattle.channel_machine.specs.GapChannels.{at_rest}
use Rattle.channel_machine.specs.SettledSteps.{SettledDoes}
use Rattle.channel_machine.proofs.SettledRows.{row_of, settled_listed}
use Rattle.channel_machine.proofs.channel.StatusChannel.step_settled.Goals as goal

pub transfer_settled-requires-clause-in_d1 : goal.transfer_settled-requires-clause-in_d1
transfer_settled-requires-clause-in_d1 g c = ap (λ e. comes_from e c.args.self.now.state) (sym c.in-Normal.is) ∙ c.judge-state.ensures.comes

pub transfer_settled-requires-clause-side : goal.transfer_settled-requires-clause-side
transfer_settled-requires-clause-side g c = ap (λ (u : Item). u.side) c.item.view_is

pub transfer_settled-requires-clause-transfer : goal.transfer_settled-requires-clause-transfer
transfer_settled-requires-clause-transfer g c =
    ap (λ v. is_transfer v) (sym (c.class.ensures ∙ ap (λ (u : Item). packet_class u.packet) c.item.view_is))
    ∙ ap (λ a. is_entry a c.item.inside.side c.class.result c.args.self.now.state) (sym c.in-Normal.is) ∙ c.judge-state.ensures.fits

pub act_settled-requires-clause-side : goal.act_settled-requires-clause-side
act_settled-requires-clause-side g c = ap (λ (u : Item). u.side) c.item.view_is

pub act_settled-requires-clause-fits : goal.act_settled-requires-clause-fits
act_settled-requires-clause-fits g c =
    ap (λ v. is_entry c.judge-state.result.1 c.item.inside.side v c.args.self.now.state) (sym (c.class.ensures ∙ ap (λ (u : Item). packet_class u.packet) c.item.view_is)) ∙ c.judge-state.ensures.fits

pub act_settled-requires-clause-comes : goal.act_settled-requires-clause-comes
act_settled-requires-clause-comes g c = c.judge-state.ensures.comes

pub returns-in-Normal-clause-does : goal.returns-in-Normal-clause-does
returns-in-Normal-clause-does g c k st =
    let r : Item = c.args.item.now in
    let p = c.args.self.now in
    let b = c.args.settled.now.doubts in
    let class = c.class.ensures ∙ ap (λ (u : Item). packet_class u.packet) c.item.view_is in
    subst (λ (o : SettledOutcome). IfOk c.transfer_settled.result (λ a. SettledDoes c.args.row.now.origin p c.transfer_settled.new.self c.transfer_settled.new.settled c.args.events.now.items (c.transfer_settled.new.events.items ++ map (event_at c.args.row.now.origin) (data_of r.side a)) o))
    (row_of p.terms.interface p.channel c.item.inside.side c.class.result c.judge-state.result.0 c.judge-state.result.1 Normal r b k (c.judge-state.ensures.judged (at_rest k) st.rest) (ap (λ (u : Item). u.side) c.item.view_is) class c.in-Normal.is)
    (c.transfer_settled.ensures.does k st)

pub returns-in_default-clause-does : goal.returns-in_default-clause-does
returns-in_default-clause-does g c k st =
    let r : Item = c.args.item.now in
    let p = c.args.self.now in
    let b = c.args.settled.now.doubts in
    let class = c.class.ensures ∙ ap (λ (u : Item). packet_class u.packet) c.item.view_is in
    settled_listed c.act_settled.result c.listed.result c.args.row.now.origin r.side p c.act_settled.new.self c.act_settled.new.settled c.args.events.now.items c.act_settled.new.events.items _ c.listed.ensures
    (subst (λ (o : SettledOutcome). IfOk c.act_settled.result (λ _. SettledDoes c.args.row.now.origin p c.act_settled.new.self c.act_settled.new.settled c.args.events.now.items c.act_settled.new.events.items o))
    (row_of p.terms.interface p.channel c.item.inside.side c.class.result c.judge-state.result.0 c.judge-state.result.1 c.judge-state.result.1 r b k (c.judge-state.ensures.judged (at_rest k) st.rest) (ap (λ (u : Item). u.side) c.item.view_is) class refl)
    (c.act_settled.ensures.does k st))
