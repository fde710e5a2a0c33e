use Rattle.std.proofs.Common.{◌≡◌, ◌≤◌, ◌∙◌, sym, ap, subst, map, ◌++◌, Some, None}
use Rattle.std.specs.Prelude.{IfOk}
use Rattle.line_model.specs.declared.table.Action.TheVariants.{Normal}
use Rattle.line_model.specs.basics.Records.{Item}
use Rattle.line_model.specs.packets.Classes.{packet_class}
use Rattle.line_model.specs.packets.Formats.{packet_fault}
use Rattle.line_model.specs.channels.ChannelStep.{verdict}
use Rattle.line_model.specs.channels.GapStep.{settled_verdict, transferring_in_doubt}
use Rattle.channel_machine.specs.Entries.{is_transfer}
use Rattle.channel_machine.specs.Events.{data_of, event_at}
use Rattle.channel_machine.specs.GapChannels.{at_rest}
use Rattle.channel_machine.specs.SettledSteps.{SettledDoes}
use Rattle.channel_machine.specs.Sizes.{largest_length}
use Rattle.channel_machine.proofs.SettledRows.{no_call, settled_listed, transfer_fault}
use Rattle.channel_machine.proofs.channel.StatusChannel.transfer_settled.Goals as goal

pub data_settled-requires-clause-class : goal.data_settled-requires-clause-class
data_settled-requires-clause-class g c = sym (c.class-class.ensures ∙ ap (λ (u : Item). packet_class u.packet) c.item.view_is) ∙ c.in-Data.is

pub data_settled-requires-clause-short : goal.data_settled-requires-clause-short
data_settled-requires-clause-short g c = subst (λ (u : Item). u.length ≤ largest_length) c.item.view_is (c.in-None.ensures.short c.in-Data.is)

pub returns-in-Some-clause-does : goal.returns-in-Some-clause-does
returns-in-Some-clause-does g c k st =
    let r : Item = c.args.item.now in
    let j = c.args.judgement.now in
    let p = c.args.self.now in
    let class = c.class-class.ensures ∙ ap (λ (u : Item). packet_class u.packet) c.item.view_is in
    let fault : Some c.in-Some.code ≡ packet_fault p.terms.interface p.channel k r =
    transfer_fault p.terms.interface p.channel k r j.side c.class-class.result c.item.inside.length _ c.requires.side class (ap (λ (u : Item). u.length) c.item.view_is) c.requires.transfer
    (c.in-Some.ensures.fault (at_rest k) r.octets st.rest (no_call c.class-class.result (ap (λ v. is_transfer v) class ∙ c.requires.transfer))) in
    settled_listed c.act_settled.result c.listed.result j.origin r.side p c.act_settled.new.self c.act_settled.new.settled c.args.events.now.items c.act_settled.new.events.items _ c.listed.ensures
    (subst (λ f. IfOk c.act_settled.result (λ _. SettledDoes j.origin p c.act_settled.new.self c.act_settled.new.settled c.args.events.now.items c.act_settled.new.events.items
    (settled_verdict p.terms.interface j.state r (verdict (record { state = j.state; entry = Normal }) f) c.args.settled.now.doubts k))) fault (c.act_settled.ensures.does k st))

pub returns-in-Data-clause-does : goal.returns-in-Data-clause-does
returns-in-Data-clause-does g c k st =
    let r : Item = c.args.item.now in
    let j = c.args.judgement.now in
    let p = c.args.self.now in
    let class = c.class-class.ensures ∙ ap (λ (u : Item). packet_class u.packet) c.item.view_is in
    let fault : None ≡ packet_fault p.terms.interface p.channel k r =
    transfer_fault p.terms.interface p.channel k r j.side c.class-class.result c.item.inside.length _ c.requires.side class (ap (λ (u : Item). u.length) c.item.view_is) c.requires.transfer
    (c.in-None.ensures.fault (at_rest k) r.octets st.rest (no_call c.class-class.result (ap (λ v. is_transfer v) class ∙ c.requires.transfer))) in
    subst (λ f. IfOk c.data_settled.result (λ a. SettledDoes j.origin p c.data_settled.new.self c.data_settled.new.settled c.args.events.now.items (c.data_settled.new.events.items ++ map (event_at j.origin) (data_of r.side a))
    (settled_verdict p.terms.interface j.state r (verdict (record { state = j.state; entry = Normal }) f) c.args.settled.now.doubts k))) fault
    (subst (λ v. IfOk c.data_settled.result (λ a. SettledDoes j.origin p c.data_settled.new.self c.data_settled.new.settled c.args.events.now.items (c.data_settled.new.events.items ++ map (event_at j.origin) (data_of r.side a))
    (transferring_in_doubt p.terms.interface j.state v r c.args.settled.now.doubts k))) (sym c.in-Data.is ∙ class) (c.data_settled.ensures.does k st))

pub returns-in_default-clause-does : goal.returns-in_default-clause-does
returns-in_default-clause-does g c k st =
    let r : Item = c.args.item.now in
    let j = c.args.judgement.now in
    let p = c.args.self.now in
    let class = c.class-class.ensures ∙ ap (λ (u : Item). packet_class u.packet) c.item.view_is in
    let fault : None ≡ packet_fault p.terms.interface p.channel k r =
    transfer_fault p.terms.interface p.channel k r j.side c.class-class.result c.item.inside.length _ c.requires.side class (ap (λ (u : Item). u.length) c.item.view_is) c.requires.transfer
    (c.in-None.ensures.fault (at_rest k) r.octets st.rest (no_call c.class-class.result (ap (λ v. is_transfer v) class ∙ c.requires.transfer))) in
    settled_listed c.control_settled.result c.listed-in_default.result j.origin r.side p c.control_settled.new.self c.control_settled.new.settled c.args.events.now.items c.control_settled.new.events.items _ c.listed-in_default.ensures
    (subst (λ f. IfOk c.control_settled.result (λ _. SettledDoes j.origin p c.control_settled.new.self c.control_settled.new.settled c.args.events.now.items c.control_settled.new.events.items
    (settled_verdict p.terms.interface j.state r (verdict (record { state = j.state; entry = Normal }) f) c.args.settled.now.doubts k))) fault (c.control_settled.ensures.does k st))
