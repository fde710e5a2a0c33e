-- Event by event.
use Rattle.std.proofs.Common.{◌≡◌, ◌∙◌, sym, ap, ◌∷◌, Some, None}
use Rattle.tcp_streams.specs.Tables.{next_at, table_of}
use Rattle.xot_circuits.specs.Exchanges.{Step}
use Rattle.xot_circuits.specs.Recordings.{next_events, next_table}
use Rattle.xot_circuits.proofs.Following.{next_after, next_none, next_over, next_step, read_kept, read_none}
use Rattle.xot_circuits.proofs.recording.read_next.Goals as goal

pub loop-event-preserved-in_ok-take : goal.loop-event-preserved-in_ok-take
loop-event-preserved-in_ok-take g c =
    let p = c.args.place.now in
    let t = table_of c.loop-event.connections in
    let e = c.in-Some.event in
    let is : next_at p t ≡ Some e = sym c.next.ensures.event ∙ c.in-Some.is in
    record {
      table = ap (next_table p) c.next.ensures.after ∙ (sym (next_after p t e is) ∙ c.loop-event.invariant.table);
      items = read_kept p.number (g.I.Items.taken c.loop-event.out) (g.I.Items.taken c.take.new.out) c.loop-event.exchange c.take.new.self e
          (next_events p (table_of c.next.new.self)) (next_events p t) _
          (next_step p t e is ∙ ap (λ u. e ∷ next_events p u) (sym c.next.ensures.after)) c.in_ok-take.ensures.after c.in_ok-take.ensures.items c.loop-event.invariant.items;
    }

pub loop-event-preserved : goal.loop-event-preserved
loop-event-preserved g c =
    let p = c.args.place.now in
    let t = table_of c.loop-event.connections in
    let e = c.in-Some.event in
    let is : next_at p t ≡ Some e = sym c.next.ensures.event ∙ c.in-Some.is in
    record {
      table = ap (next_table p) c.next.ensures.after ∙ (sym (next_after p t e is) ∙ c.loop-event.invariant.table);
      items = read_kept p.number (g.I.Items.taken c.loop-event.out) (g.I.Items.taken c.take.new.out) c.loop-event.exchange c.take.new.self e
          (next_events p (table_of c.next.new.self)) (next_events p t) _
          (next_step p t e is ∙ ap (λ u. e ∷ next_events p u) (sym c.next.ensures.after)) c.in_ok-take.ensures.after c.in_ok-take.ensures.items c.loop-event.invariant.items;
    }

pub returns-clause-table : goal.returns-clause-table
returns-clause-table g c =
    let p = c.args.place.now in
    let t = table_of c.loop-event.connections in
    let is : next_at p t ≡ None = sym c.next.ensures.event ∙ c.in_default.is in
    c.next.ensures.after ∙ (sym (next_over p t is) ∙ c.loop-event.invariant.table)

pub returns-clause-exchange : goal.returns-clause-exchange
returns-clause-exchange g c =
    let p = c.args.place.now in
    let t = table_of c.loop-event.connections in
    let is : next_at p t ≡ None = sym c.next.ensures.event ∙ c.in_default.is in
    sym (ap (λ (s : Step). s.after) (read_none p.number (g.I.Items.taken c.loop-event.out) c.loop-event.exchange (next_events p t) (next_none p t is)))
    ∙ ap (λ (s : Step). s.after) c.loop-event.invariant.items

pub returns-clause-items : goal.returns-clause-items
returns-clause-items g c =
    let p = c.args.place.now in
    let t = table_of c.loop-event.connections in
    let is : next_at p t ≡ None = sym c.next.ensures.event ∙ c.in_default.is in
    sym (ap (λ (s : Step). s.items) (read_none p.number (g.I.Items.taken c.loop-event.out) c.loop-event.exchange (next_events p t) (next_none p t is)))
    ∙ ap (λ (s : Step). s.items) c.loop-event.invariant.items
