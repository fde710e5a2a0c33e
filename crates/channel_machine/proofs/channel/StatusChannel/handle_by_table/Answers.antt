use Rattle.std.proofs.Common.{◌≡◌, sym, subst, ap, ◌∙◌}
use Rattle.std.specs.Prelude.{IfOk}
use Rattle.line_model.specs.basics.Records.{Item}
use Rattle.line_model.specs.channels.Channels.{is_permanent}
use Rattle.line_model.specs.channels.ChannelStep.{Outcome, channel_step, judged}
use Rattle.line_model.specs.packets.Classes.{packet_class}
use Rattle.channel_machine.specs.Channels.{Does, DoesApart}
use Rattle.channel_machine.specs.Entries.{comes_from, entry_step, is_entry}
use Rattle.channel_machine.proofs.Taking.{listed_apart}
use Rattle.channel_machine.proofs.channel.StatusChannel.handle_by_table.Goals as goal

pub act-requires-clause-side : goal.act-requires-clause-side
act-requires-clause-side g c = ap (λ (u : Item). u.side) c.item.view_is

pub act-requires-clause-fits : goal.act-requires-clause-fits
act-requires-clause-fits g c =
    ap (λ v. is_entry c.judge-state.result.1 c.item.inside.side v c.args.self.now.state) (sym (c.class.ensures ∙ ap (λ (u : Item). packet_class u.packet) c.item.view_is)) ∙ c.judge-state.ensures.fits

pub act-requires-clause-qualified : goal.act-requires-clause-qualified
act-requires-clause-qualified g c normal =
    c.requires.qualified (ap (λ a. comes_from a c.args.self.now.state) (sym normal) ∙ c.judge-state.ensures.comes)

pub returns-clause-does : goal.returns-clause-does
returns-clause-does g c k reached s =
    let r : Item = c.args.item.now in
    let p = c.args.self.now in
    let i = p.terms.interface in
    let es = c.args.events.now.items in
    let class = c.class.ensures ∙ ap (λ (u : Item). packet_class u.packet) c.item.view_is in
    let entry = c.judge-state.ensures.judged k s ∙ (λ j. judged (is_permanent i p.channel) (ap (λ (u : Item). u.side) c.item.view_is j) k.state k.owed (class j)) in
    listed_apart c.act.result c.listed.result _ r.side p c.act.new.self es c.act.new.events.items (channel_step i p.channel k r) c.listed.ensures
    (subst (λ e. IfOk c.act.result (λ _. Does e p c.act.new.self es c.act.new.events.items (channel_step i p.channel k r))) c.origin.ensures
    (subst (λ (o : Outcome). IfOk c.act.result (λ _. Does c.origin.result p c.act.new.self es c.act.new.events.items o)) (ap (λ v. entry_step i p.channel v r k) entry)
    (c.act.ensures.does k reached s)))
