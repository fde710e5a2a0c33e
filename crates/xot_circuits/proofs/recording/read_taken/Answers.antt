-- Event by event.
use Rattle.std.proofs.Common.{◌∙◌, sym, ap, subst, Option}
use Rattle.tcp_streams.specs.Connections.{IsEvent, Next, last_event}
use Rattle.tcp_streams.specs.declared.connection.Event.{Event}
use Rattle.xot_circuits.specs.Exchanges.{Step}
use Rattle.xot_circuits.specs.Recordings.{left_events}
use Rattle.xot_circuits.proofs.Following.{left_none, left_step, read_kept, read_none}
use Rattle.xot_circuits.proofs.recording.read_taken.Goals as goal

pub loop-event-preserved-in_ok-take : goal.loop-event-preserved-in_ok-take
loop-event-preserved-in_ok-take g c =
    let e = c.in-Some.event in
    let n : Next = record { event = e; after = c.finish.new.self } in
    let is = subst (λ (o : Option Event). IsEvent (last_event c.loop-event.connection) c.loop-event.connection o c.finish.new.self) c.in-Some.is c.finish.ensures.event in
    read_kept c.args.number (g.I.Items.taken c.loop-event.out) (g.I.Items.taken c.take.new.out) c.loop-event.exchange c.take.new.self e
    (left_events c.finish.new.self) (left_events c.loop-event.connection) _
    (left_step c.loop-event.connection n is) c.in_ok-take.ensures.after c.in_ok-take.ensures.items c.loop-event.invariant

pub loop-event-preserved : goal.loop-event-preserved
loop-event-preserved g c =
    let e = c.in-Some.event in
    let n : Next = record { event = e; after = c.finish.new.self } in
    let is = subst (λ (o : Option Event). IsEvent (last_event c.loop-event.connection) c.loop-event.connection o c.finish.new.self) c.in-Some.is c.finish.ensures.event in
    read_kept c.args.number (g.I.Items.taken c.loop-event.out) (g.I.Items.taken c.take.new.out) c.loop-event.exchange c.take.new.self e
    (left_events c.finish.new.self) (left_events c.loop-event.connection) _
    (left_step c.loop-event.connection n is) c.in_ok-take.ensures.after c.in_ok-take.ensures.items c.loop-event.invariant

pub returns-clause-exchange : goal.returns-clause-exchange
returns-clause-exchange g c =
    let is = subst (λ (o : Option Event). IsEvent (last_event c.loop-event.connection) c.loop-event.connection o c.finish.new.self) c.in_default.is c.finish.ensures.event in
    sym (ap (λ (s : Step). s.after) (read_none c.args.number (g.I.Items.taken c.loop-event.out) c.loop-event.exchange (left_events c.loop-event.connection) (left_none c.loop-event.connection is.0)))
    ∙ ap (λ (s : Step). s.after) c.loop-event.invariant

pub returns-clause-items : goal.returns-clause-items
returns-clause-items g c =
    let is = subst (λ (o : Option Event). IsEvent (last_event c.loop-event.connection) c.loop-event.connection o c.finish.new.self) c.in_default.is c.finish.ensures.event in
    sym (ap (λ (s : Step). s.items) (read_none c.args.number (g.I.Items.taken c.loop-event.out) c.loop-event.exchange (left_events c.loop-event.connection) (left_none c.loop-event.connection is.0)))
    ∙ ap (λ (s : Step). s.items) c.loop-event.invariant
