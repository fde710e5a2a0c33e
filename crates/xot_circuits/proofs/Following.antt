-- All that comes next in a connection, event by event.
use Rattle.std.proofs.Common.{◌≡◌, ◌∙◌, sym, ap, ap₂, refl, ℕ, zero, suc, ◌+◌, ◌<◌, ◌≤◌, List, [], ◌∷◌, ◌++◌, Option, Some, None, append_assoc, append-nil, arith, drop, map}
use Rattle.std.specs.Option.{option_map}
use Rattle.tcp_streams.specs.Connections.{Next, last_event}
use Rattle.tcp_streams.specs.Progress.{steps, steps_at}
use Rattle.tcp_streams.specs.Tables.{Table, after_or, last_at, last_in, next_at, next_in}
use Rattle.tcp_streams.specs.declared.connection.Connection.{Connection}
use Rattle.tcp_streams.specs.declared.connection.Event.{Event}
use Rattle.tcp_streams.specs.declared.connections.Place.{Place}
use Rattle.tcp_streams.proofs.Progress.{finish_fewer, last_fewer, next_fewer}
use Rattle.xot_circuits.specs.Exchanges.{ExchangeView, Step, event_read, events_read}
use Rattle.xot_circuits.specs.Items.{Item}
use Rattle.xot_circuits.specs.Recordings.{Recorder, after_by, all_by, first_of, items_from, last_events, last_table, left_events, next_events, next_table, read_of, seen_view, state_or}
use Rattle.xot_circuits.specs.declared.recording.Seen as declared

-- after items that were given before
abbrev pub step_behind : List Item → Step → Step
step_behind items s = record { after = s.after; items = items ++ s.items }

module _ {S : Type 0} (event : S → Option Event) (after : S → S) (steps : S → ℕ) where
  -- each event leaves fewer steps
  abbrev pub Ends : Type 0
  Ends = (s : S) (e : Event) → event s ≡ Some e → steps (after s) < steps s

  pub none_all : (n : ℕ) (s : S) → event s ≡ None → all_by event after n s ≡ []
  none_all zero s e = refl
  none_all (suc n) s e = ap (λ o. first_of o (all_by event after n (after s))) e

  pub none_after : (n : ℕ) (s : S) → event s ≡ None → after_by event after n s ≡ after s
  none_after zero s e = refl
  none_after (suc n) s e = ap (λ o. state_or o (after s) (after_by event after n (after s))) e

  some_all : (n : ℕ) (s : S) (e : Event) → event s ≡ Some e → all_by event after (suc n) s ≡ e ∷ all_by event after n (after s)
  some_all n s e is = ap (λ o. first_of o (all_by event after n (after s))) is

  some_after : (n : ℕ) (s : S) (e : Event) → event s ≡ Some e → after_by event after (suc n) s ≡ after_by event after n (after s)
  some_after n s e is = ap (λ o. state_or o (after s) (after_by event after n (after s))) is

  -- where no step is left, nothing comes
  none_left : Ends → (s : S) (o : Option Event) → steps s ≤ 0 → event s ≡ o → event s ≡ None
  none_left ends s None few is = is
  none_left ends s (Some e) few is = absurd (omega (arith, few, ends s e is))

  -- a greater bound makes no difference
  all_more : Ends → (m n : ℕ) (s : S) → steps s ≤ suc m → steps s ≤ suc n → (o : Option Event) → event s ≡ o
      → (steps (after s) ≤ m → steps (after s) ≤ n → all_by event after m (after s) ≡ all_by event after n (after s))
      → all_by event after (suc m) s ≡ all_by event after (suc n) s
  all_more ends m n s a b None is again = none_all (suc m) s is ∙ sym (none_all (suc n) s is)
  all_more ends m n s a b (Some e) is again =
      let fewer = ends s e is in
      some_all m s e is ∙ (ap (λ es. e ∷ es) (again (omega (arith, fewer, a)) (omega (arith, fewer, b))) ∙ sym (some_all n s e is))

  all_same : Ends → (m n : ℕ) (s : S) → steps s ≤ m → steps s ≤ n → all_by event after m s ≡ all_by event after n s
  all_same ends zero n s a b = sym (none_all n s (none_left ends s (event s) a refl))
  all_same ends (suc m) zero s a b = none_all (suc m) s (none_left ends s (event s) b refl)
  all_same ends (suc m) (suc n) s a b = all_more ends m n s a b (event s) refl (all_same ends m n (after s))

  after_more : Ends → (m n : ℕ) (s : S) → steps s ≤ suc m → steps s ≤ suc n → (o : Option Event) → event s ≡ o
      → (steps (after s) ≤ m → steps (after s) ≤ n → after_by event after m (after s) ≡ after_by event after n (after s))
      → after_by event after (suc m) s ≡ after_by event after (suc n) s
  after_more ends m n s a b None is again = none_after (suc m) s is ∙ sym (none_after (suc n) s is)
  after_more ends m n s a b (Some e) is again =
      let fewer = ends s e is in
      some_after m s e is ∙ (again (omega (arith, fewer, a)) (omega (arith, fewer, b)) ∙ sym (some_after n s e is))

  after_same : Ends → (m n : ℕ) (s : S) → steps s ≤ m → steps s ≤ n → after_by event after m s ≡ after_by event after n s
  after_same ends zero n s a b = sym (none_after n s (none_left ends s (event s) a refl))
  after_same ends (suc m) zero s a b = none_after (suc m) s (none_left ends s (event s) b refl)
  after_same ends (suc m) (suc n) s a b = after_more ends m n s a b (event s) refl (after_same ends m n (after s))

  -- an event, and what comes after it
  pub all_step : Ends → (s : S) (e : Event) → event s ≡ Some e → all_by event after (steps s) s ≡ e ∷ all_by event after (steps (after s)) (after s)
  all_step ends s e is =
      let fewer = ends s e is in
      all_same ends (steps s) (suc (steps s)) s (omega arith) (omega arith)
      ∙ (some_all (steps s) s e is ∙ ap (λ es. e ∷ es) (all_same ends (steps s) (steps (after s)) (after s) (omega (arith, fewer)) (omega arith)))

  pub after_step : Ends → (s : S) (e : Event) → event s ≡ Some e → after_by event after (steps s) s ≡ after_by event after (steps (after s)) (after s)
  after_step ends s e is =
      let fewer = ends s e is in
      after_same ends (steps s) (suc (steps s)) s (omega arith) (omega arith)
      ∙ (some_after (steps s) s e is ∙ after_same ends (steps s) (steps (after s)) (after s) (omega (arith, fewer)) (omega arith))

-- what an event gives comes before what the others give
pub read_step : (n : ℕ) (items : List Item) (x : ExchangeView) (e : Event) (es all : List Event) → all ≡ e ∷ es
    → step_behind items (events_read n all x) ≡ step_behind (items ++ (event_read n e x).items) (events_read n es (event_read n e x).after)
read_step n items x e es all is =
    let rest = events_read n es (event_read n e x).after in
    ap (λ (all : List Event). step_behind items (events_read n all x)) is
    ∙ ap (λ (xs : List Item). record { after = rest.after; items = xs }) (sym (append_assoc items (event_read n e x).items rest.items))

pub read_none : (n : ℕ) (items : List Item) (x : ExchangeView) (all : List Event) → all ≡ []
    → step_behind items (events_read n all x) ≡ record { after = x; items = items }
read_none n items x all is =
    ap (λ (all : List Event). step_behind items (events_read n all x)) is
    ∙ ap (λ (xs : List Item). record { after = x; items = xs }) (append-nil items)

-- the connection at a place, as far as it need not wait, and after its last segment
pub next_step : (p : Place) (t : Table) (e : Event) → next_at p t ≡ Some e → next_events p t ≡ e ∷ next_events p (next_in p t)
unfolding next_events
next_step p t e is = all_step (next_at p) (next_in p) (steps_at p) (next_fewer p) t e is

pub next_after : (p : Place) (t : Table) (e : Event) → next_at p t ≡ Some e → next_table p t ≡ next_table p (next_in p t)
unfolding next_table
next_after p t e is = after_step (next_at p) (next_in p) (steps_at p) (next_fewer p) t e is

pub next_none : (p : Place) (t : Table) → next_at p t ≡ None → next_events p t ≡ []
unfolding next_events
next_none p t is = none_all (next_at p) (next_in p) (steps_at p) (steps_at p t) t is

pub next_over : (p : Place) (t : Table) → next_at p t ≡ None → next_table p t ≡ next_in p t
unfolding next_table
next_over p t is = none_after (next_at p) (next_in p) (steps_at p) (steps_at p t) t is

pub last_step : (p : Place) (t : Table) (e : Event) → last_at p t ≡ Some e → last_events p t ≡ e ∷ last_events p (last_in p t)
unfolding last_events
last_step p t e is = all_step (last_at p) (last_in p) (steps_at p) (last_fewer p) t e is

pub last_after : (p : Place) (t : Table) (e : Event) → last_at p t ≡ Some e → last_table p t ≡ last_table p (last_in p t)
unfolding last_table
last_after p t e is = after_step (last_at p) (last_in p) (steps_at p) (last_fewer p) t e is

pub last_none : (p : Place) (t : Table) → last_at p t ≡ None → last_events p t ≡ []
unfolding last_events
last_none p t is = none_all (last_at p) (last_in p) (steps_at p) (steps_at p t) t is

pub last_over : (p : Place) (t : Table) → last_at p t ≡ None → last_table p t ≡ last_in p t
unfolding last_table
last_over p t is = none_after (last_at p) (last_in p) (steps_at p) (steps_at p t) t is

-- a connection that is in no table
abbrev event_in : Connection → Option Event
event_in c = option_map (λ n. n.event) (last_event c)

abbrev after_in : Connection → Connection
after_in c = after_or (last_event c) c

left_ends : Ends event_in after_in steps
left_ends c e is = by (last_event c) refl is where
  by : (o : Option Next) → last_event c ≡ o → option_map (λ n. n.event) o ≡ Some e → steps (after_or o c) < steps c
  by None o_is is = absurd (cc is)
  by (Some n) o_is is = finish_fewer c n o_is

pub left_step : (c : Connection) (n : Next) → last_event c ≡ Some n → left_events c ≡ n.event ∷ left_events n.after
unfolding left_events
left_step c n is =
    all_step event_in after_in steps left_ends c n.event (ap (option_map (λ n. n.event)) is)
    ∙ ap (λ o. n.event ∷ all_by event_in after_in (steps (after_or o c)) (after_or o c)) is

pub left_none : (c : Connection) → last_event c ≡ None → left_events c ≡ []
unfolding left_events
left_none c is = none_all event_in after_in steps (steps c) c (ap (option_map (λ n. n.event)) is)

-- what an event leaves gives what all gave, after the items so far
pub read_kept : (n : ℕ) (items more : List Item) (x y : ExchangeView) (e : Event) (es all : List Event) (w : Step) → all ≡ e ∷ es
    → y ≡ (event_read n e x).after → more ≡ items ++ (event_read n e x).items
    → step_behind items (events_read n all x) ≡ w → step_behind more (events_read n es y) ≡ w
read_kept n items more x y e es all w is y_is more_is kept =
    ap₂ (λ (xs : List Item) (z : ExchangeView). step_behind xs (events_read n es z)) more_is y_is ∙ (sym (read_step n items x e es all is) ∙ kept)

-- what a segment leaves gives what all gave, after the items so far
pub all_kept : (segments : List declared.Seen) (i : ℕ) (items more : List Item) (r u : Recorder) (s : declared.Seen) (w : List Item)
    → drop i segments ≡ s ∷ drop (i + 1) segments → u ≡ (read_of (seen_view s) r).after → more ≡ items ++ (read_of (seen_view s) r).items
    → items ++ items_from (map seen_view (drop i segments)) r ≡ w → more ++ items_from (map seen_view (drop (i + 1) segments)) u ≡ w
all_kept segments i items more r u s w is u_is more_is kept =
    let rest = map seen_view (drop (i + 1) segments) in
    ap₂ (λ (xs : List Item) (v : Recorder). xs ++ items_from rest v) more_is u_is
    ∙ (append_assoc items (read_of (seen_view s) r).items (items_from rest (read_of (seen_view s) r).after)
    ∙ (sym (ap (λ (ss : List declared.Seen). items ++ items_from (map seen_view ss) r) is) ∙ kept))
