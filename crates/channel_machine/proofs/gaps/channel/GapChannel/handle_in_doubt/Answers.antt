use Rattle.std.proofs.Common.{◌≡◌, None, Ok, refl, sym, ◌∙◌, ap, subst, map, ◌++◌}
use Rattle.std.specs.Prelude.{IfOk}
use Rattle.line_model.specs.basics.Records.{Item}
use Rattle.line_model.specs.packets.Says.{gap_of}
use Rattle.line_model.specs.channels.GapStep.{gap_channel_step}
use Rattle.line_model.specs.observer.Observer.{row_step}
use Rattle.channel_machine.specs.Certainties.{certainty_kept}
use Rattle.channel_machine.specs.Events.{data_of, event_at, origin_at}
use Rattle.channel_machine.specs.GapChannels.{GapDoes, GapDoesApart, GapKnown, Represents, interface_of, number_of}
use Rattle.channel_machine.specs.GapView.{InDoubt}
use Rattle.channel_machine.specs.GapView.KnownCertainty.{Adrift, Certain, Settled}
use Rattle.channel_machine.proofs.GapRows.{adrift_row, becomes_certain, kept_apart, row_apart, row_listed, stays_settled}
use Rattle.channel_machine.proofs.gaps.channel.GapChannel.handle_in_doubt.Goals as goal
use Rattle.channel_machine.proofs.gaps.channel.GapChannel.handle_in_doubt.Goals.{in-Settled-1, in-Certain-1}

pub returns-in-Adrift-clause-does : goal.returns-in-Adrift-clause-does
returns-in-Adrift-clause-does g c k rep =
    let p : GapKnown = c.args.self.now in
    let none : gap_of c.args.item.now.packet ≡ None =
    c.requires.packet in
    let q : GapKnown = record { channel = c.self.inside.channel; restarting = c.self.inside.restarting; certainty = Adrift c.in-Adrift.adrift } in
    let kept : q ≡ record { channel = c.self.inside.channel; restarting = c.self.inside.restarting; certainty = certainty_kept c.self.inside.certainty } =
    ap (λ t. record { channel = c.self.inside.channel; restarting = c.self.inside.restarting; certainty = t }) (ap (λ t. certainty_kept t) (sym c.in-Adrift.is)) in
    let same : q ≡ p = kept ∙ c.self.view_is in
    let es = c.args.events.now.items in
    let origin : c.origin.result ≡ origin_at c.args.epoch (number_of p) c.args.item.now = c.origin.ensures ∙ ap (λ (v : GapKnown). origin_at c.args.epoch (number_of v) c.args.item.now) c.self.view_is in
    row_listed c.step_adrift.result c.listed.result c.origin.result (origin_at c.args.epoch (number_of p) c.args.item.now) c.args.item.now.side p c.step_adrift.new.self es c.step_adrift.new.events.items c.args.item.now k none origin c.listed.ensures
    (subst (λ (v : GapKnown). IfOk c.step_adrift.result (λ _. GapDoes c.origin.result v c.step_adrift.new.self es c.step_adrift.new.events.items (gap_channel_step (interface_of v) (number_of v) k c.args.item.now))) same
    (adrift_row c.step_adrift.result c.origin.result q c.step_adrift.new.self es c.step_adrift.new.events.items c.in-Adrift.adrift c.args.item.now k (subst (λ (v : GapKnown). Represents v k) (sym same) rep) refl (c.step_adrift.ensures.does refl)))

pub returns-then-not-is_settled-clause-does : goal.returns-then-not-is_settled-clause-does
returns-then-not-is_settled-clause-does g c k rep =
    let p : GapKnown = c.args.self.now in
    let r : Item = c.args.item.now in
    let es = c.args.events.now.items in
    let a = c.in_ok-accepted-in-Settled.accepted in
    let s = c.origin.result in
    let none : gap_of r.packet ≡ None =
    c.requires.packet in
    let origin : s ≡ origin_at c.args.epoch (number_of p) r = c.origin.ensures ∙ ap (λ (v : GapKnown). origin_at c.args.epoch (number_of v) r) c.self.view_is in
    let held : InDoubt = c.deref_mut.result.now in
    let new : GapKnown = record { channel = c.step_settled.new.self; restarting = c.self.inside.restarting; certainty = Certain } in
    let done : GapDoesApart (origin_at c.args.epoch (number_of p) r) r.side p new es c.step_settled.new.events.items a (row_step (interface_of p) (number_of p) k r) =
    row_apart (Ok a) s (origin_at c.args.epoch (number_of p) r) r.side p new es c.step_settled.new.events.items r k none origin
    (kept_apart a s r.side p new es c.step_settled.new.events.items (gap_channel_step (interface_of p) (number_of p) k r)
    (becomes_certain s _ p new c.step_settled.new.settled es (c.step_settled.new.events.items ++ map (event_at s) (data_of r.side a)) r held k c.self.view_is rep
    (ap (λ t. certainty_kept t) c.in-Settled.is ∙ ap (λ v. Settled v) (sym c.deref_mut.ensures.value)) refl refl c.in_ok-accepted-in-Settled.ensures.does c.if-not-is_settled.ensures)) in
    elim c.match-self-2.branch [
      | in-Settled-1 w ↦ subst (λ (v : GapKnown). GapDoesApart (origin_at c.args.epoch (number_of p) r) r.side p v es c.step_settled.new.events.items a (row_step (interface_of p) (number_of p) k r)) (sym w.self-is) done
      | in-Certain-1 w ↦ subst (λ (v : GapKnown). GapDoesApart (origin_at c.args.epoch (number_of p) r) r.side p v es c.step_settled.new.events.items a (row_step (interface_of p) (number_of p) k r)) (sym w.self-is) done
    ]

pub returns-else-not-is_settled-clause-does : goal.returns-else-not-is_settled-clause-does
returns-else-not-is_settled-clause-does g c k rep =
    let p : GapKnown = c.args.self.now in
    let r : Item = c.args.item.now in
    let es = c.args.events.now.items in
    let a = c.in_ok-accepted-in-Settled.accepted in
    let s = c.origin.result in
    let none : gap_of r.packet ≡ None =
    c.requires.packet in
    let origin : s ≡ origin_at c.args.epoch (number_of p) r = c.origin.ensures ∙ ap (λ (v : GapKnown). origin_at c.args.epoch (number_of v) r) c.self.view_is in
    let held : InDoubt = c.deref_mut.result.now in
    row_apart (Ok a) s (origin_at c.args.epoch (number_of p) r) r.side p _ es c.step_settled.new.events.items r k none origin
    (kept_apart a s r.side p _ es c.step_settled.new.events.items _
    (stays_settled s _ p _ c.step_settled.new.settled es (c.step_settled.new.events.items ++ map (event_at s) (data_of r.side a)) r held k c.self.view_is rep
    (ap (λ t. certainty_kept t) c.in-Settled.is ∙ ap (λ v. Settled v) (sym c.deref_mut.ensures.value)) refl refl c.in_ok-accepted-in-Settled.ensures.does c.if-not-is_settled.ensures))

pub returns-in-Certain-clause-does : goal.returns-in-Certain-clause-does
returns-in-Certain-clause-does g c k rep =
    absurd (c.requires.doubt (ap (λ (q : GapKnown). q.certainty) (sym c.self.view_is) ∙ ap (λ t. certainty_kept t) c.in-Certain.is))
