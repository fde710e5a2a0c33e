-- A channel of which nothing is missing has the events of the whole walk.
use Rattle.std.proofs.Common.{◌≡◌, inl, inr, ◌==◌, ℕ, Bool, true, false, cond, refl, sym, ◌∙◌, ap, subst, List, [], ◌∷◌, ◌++◌, map, Some, None, eq-eqb}
use Rattle.std.specs.Prelude.{◌&&◌, filter}
use Rattle.std.specs.List.{AllByRecursion, flat_map}
use Rattle.std.proofs.lemmas.Bool.{false≢true, eqb-true}
use Rattle.std.proofs.lemmas.List.{map-append}
use Rattle.std.proofs.lemmas.List.Elements.{filter-append}
use Rattle.line_model.specs.declared.event.Event.{Event}
use Rattle.line_model.specs.declared.event.What.{What}
use Rattle.line_model.specs.declared.gap.EpochStart.TheVariants.{Restarted}
use Rattle.line_model.specs.declared.interface.Interface.{Interface}
use Rattle.line_model.specs.declared.packet.Packet.{Packet}
use Rattle.line_model.specs.declared.packet.Packet as packet
use Rattle.line_model.specs.declared.packet.PacketKind as kind
use Rattle.line_model.specs.declared.state.Side.{Side}
use Rattle.line_model.specs.declared.state.Side.TheVariants.{T, N}
use Rattle.line_model.specs.declared.state.RState.{RState}
use Rattle.line_model.specs.declared.state.RState as restart
use Rattle.line_model.specs.basics.Records.{Item}
use Rattle.line_model.specs.packets.Says.{gap_of}
use Rattle.line_model.specs.channels.Gaps.{GapChannel, fresh_at, gap_step}
use Rattle.line_model.specs.channels.GapRestart.{GapInterfaceState, is_ready, level_stays, routing}
use Rattle.line_model.specs.channels.GapStep.{gap_channel_step}
use Rattle.line_model.specs.observer.Machine.{Observer, after, renewed, with_state}
use Rattle.line_model.specs.observer.MachineEvents.{RowEvent, closed_events, ended_events, row_events, stamp, walk_events}
use Rattle.line_model.specs.observer.Observer.{epoch_end, event_of, is_renewal, route_found, start, x25}
use Rattle.gap_laws.specs.Thinned.{Covers, IsThinned, SameEventsLaw, may_miss, own_channel}
use Rattle.gap_laws.proofs.Circuits.{silent}
use Rattle.gap_laws.proofs.Observers.{IsOn, Silent, all_silent, steps_one}
use Rattle.gap_laws.proofs.Thinning.{first_row, rows_after, same_some, starts_restarted}
use Rattle.gap_laws.proofs.Levels.{Enters, LevelMove, LevelRow, Leaves, Stays, at_level, level_first, moved, moved_epoch, moved_state, moved_states, restarting_state, stays_so, stepped, unready, waited_out, waiting_row, whole_level}
use Rattle.gap_laws.proofs.Restarts.{LevelPacket, level_packet, moves_level}

-- ---- the events of a channel

abbrev on_channel : ℕ → List (RowEvent Item What) → List Event
on_channel k vs = filter (λ (e : Event). e.channel == k) (map event_of vs)

on_append : (k : ℕ) (us vs : List (RowEvent Item What)) → on_channel k (us ++ vs) ≡ on_channel k us ++ on_channel k vs
on_append k us vs = ap (λ l. filter (λ (e : Event). e.channel == k) l) (map-append event_of us vs) ∙ filter-append (λ (e : Event). e.channel == k) (map event_of us) (map event_of vs)

other_stamp : (k e c : ℕ) (r : Item) (ws : List What) → (c == k) ≡ false → on_channel k (stamp e (Some c) r ws) ≡ []
other_stamp k e c r [] h = refl
other_stamp k e c r (w ∷ ws) h =
    ap (λ b. cond b (event_of (record { epoch = e; channel = Some c; row = r; what = w }) ∷ on_channel k (stamp e (Some c) r ws)) (on_channel k (stamp e (Some c) r ws))) h ∙ other_stamp k e c r ws h

-- what says the same of the channel where its states are the same
stamp_same : (k e c : ℕ) (r : Item) (F : GapChannel → List What) (f g : ℕ → GapChannel) → f k ≡ g k → on_channel k (stamp e (Some c) r (F (g c))) ≡ on_channel k (stamp e (Some c) r (F (f c)))
stamp_same k e c r F f g h = at (c == k) refl
  where
    at : (b : Bool) → (c == k) ≡ b → on_channel k (stamp e (Some c) r (F (g c))) ≡ on_channel k (stamp e (Some c) r (F (f c)))
    at true e' = ap (λ a. on_channel k (stamp e (Some c) r (F a))) (sym (subst (λ j. f j ≡ g j) (sym (eqb-true c k e')) h))
    at false e' = other_stamp k e c r (F (g c)) e' ∙ sym (other_stamp k e c r (F (f c)) e')

closes_same : (k e : ℕ) (r : Item) (f g : ℕ → GapChannel) → f k ≡ g k → (cs : List ℕ) → on_channel k (flat_map (λ c. stamp e (Some c) r (epoch_end (g c) r)) cs) ≡ on_channel k (flat_map (λ c. stamp e (Some c) r (epoch_end (f c) r)) cs)
closes_same k e r f g h [] = refl
closes_same k e r f g h (c ∷ cs) =
    on_append k (stamp e (Some c) r (epoch_end (g c) r)) (flat_map (λ c. stamp e (Some c) r (epoch_end (g c) r)) cs)
    ∙ (λ j. stamp_same k e c r (λ a. epoch_end a r) f g h j ++ closes_same k e r f g h cs j)
    ∙ sym (on_append k (stamp e (Some c) r (epoch_end (f c) r)) (flat_map (λ c. stamp e (Some c) r (epoch_end (f c) r)) cs))

closed_same : (i : Interface) (k e : ℕ) (l : GapInterfaceState) (r : Item) (f g : ℕ → GapChannel) → f k ≡ g k → (b c : Bool) → on_channel k (closed_events (x25 i) (at_level e l g) r b c) ≡ on_channel k (closed_events (x25 i) (at_level e l f) r b c)
closed_same i k e l r f g h true false = closes_same k e r f g h (x25 i).channels
closed_same i k e l r f g h true true = refl
closed_same i k e l r f g h false c = refl

ended_same : (i : Interface) (k e : ℕ) (l : GapInterfaceState) (r : Item) (f g : ℕ → GapChannel) → f k ≡ g k → (b : Bool) → on_channel k (ended_events (x25 i) (at_level e l g) r b) ≡ on_channel k (ended_events (x25 i) (at_level e l f) r b)
ended_same i k e l r f g h true = closed_same i k e l r f g h true false
ended_same i k e l r f g h false = closed_same i k e l r f g h _ _

level_same : (i : Interface) (k e : ℕ) (l : GapInterfaceState) (r : Item) (f g : ℕ → GapChannel) → f k ≡ g k → LevelRow i (at_level e l f) r → LevelRow i (at_level e l g) r
    → on_channel k (row_events (x25 i) (at_level e l g) r) ≡ on_channel k (row_events (x25 i) (at_level e l f) r)
level_same i k e l r f g h lf lg =
    let found = stamp e None r (route_found r (routing l r).route) in
    let b = renewed (x25 i) l r in
    ap (on_channel k) lg.events
    ∙ on_append k found (ended_events (x25 i) (at_level e l g) r b)
    ∙ ap (λ us. on_channel k found ++ us) (ended_same i k e l r f g h b)
    ∙ sym (on_append k found (ended_events (x25 i) (at_level e l f) r b))
    ∙ sym (ap (on_channel k) lf.events)

-- ---- both walks

abbrev Walks : Interface → ℕ → Observer GapInterfaceState GapChannel → List Item → List Event
Walks i k o rs = on_channel k (walk_events (x25 i) o rs)

-- a row and what comes after it
row_and_rest : (i : Interface) (k : ℕ) (o p o' p' : Observer GapInterfaceState GapChannel) (r : Item) (ys xs : List Item) → on_channel k (row_events (x25 i) o r) ≡ on_channel k (row_events (x25 i) p r)
    → after (x25 i) o r ≡ o' → after (x25 i) p r ≡ p' → Walks i k o' ys ≡ Walks i k p' xs → Walks i k o (r ∷ ys) ≡ Walks i k p (r ∷ xs)
row_and_rest i k o p o' p' r ys xs rows e f rest =
    on_append k (row_events (x25 i) o r) (walk_events (x25 i) (after (x25 i) o r) ys)
    ∙ (λ j. rows j ++ (ap (λ o. Walks i k o ys) e ∙ rest ∙ sym (ap (λ o. Walks i k o xs) f)) j)
    ∙ sym (on_append k (row_events (x25 i) p r) (walk_events (x25 i) (after (x25 i) p r) xs))

moved_same : (i : Interface) (k e : ℕ) (f g : ℕ → GapChannel) (m : LevelMove) → f k ≡ g k → moved_states i e f m k ≡ moved_states i e g m k
moved_same i k e f g Stays h = h
moved_same i k e f g (Leaves x) h = h
moved_same i k e f g Enters h = refl

stepped_same : (i : Interface) (k c : ℕ) (r : Item) (f g : ℕ → GapChannel) → f k ≡ g k → with_state f c (gap_channel_step i c (f c) r).after k ≡ with_state g c (gap_channel_step i c (g c) r).after k
stepped_same i k c r f g h = at (k == c) refl
  where
    at : (b : Bool) → (k == c) ≡ b → cond b (gap_channel_step i c (f c) r).after (f k) ≡ cond b (gap_channel_step i c (g c) r).after (g k)
    at true e = ap (λ a. (gap_channel_step i c a r).after) (subst (λ j. f j ≡ g j) (eqb-true k c e) h)
    at false e = h

other_state : {A : Type 0} (f : ℕ → A) (k c : ℕ) (a : A) → (c == k) ≡ false → with_state f c a k ≡ f k
other_state f k c a h = at (k == c) refl
  where
    at : (b : Bool) → (k == c) ≡ b → cond b a (f k) ≡ f k
    at true e = absurd (false≢true (sym h ∙ subst (λ j. (c == j) ≡ true) (sym (eqb-true k c e)) (eq-eqb c c refl)))
    at false e = refl

-- ---- rows

data IsPacket (i : Interface) (r : Item) : Type 0 where
  OnChannel : (c : ℕ) → IsOn c r → IsPacket i r
  OnNone : LevelPacket i r → IsPacket i r

is_packet : (i : Interface) (nr : ℕ) (x : Side) (p : Packet) (len : ℕ) (os : List ℕ) → gap_of p ≡ None → IsPacket i (record { number = nr; side = x; packet = p; length = len; octets = os })
is_packet i nr x (packet.TheVariants.Channel c k) len os h = OnChannel c (record { form = k; is = refl; no_gap = h })
is_packet i nr x packet.TheVariants.GapOfAll len os h = cc
is_packet i nr x p len os h = OnNone (level_packet i nr x p len os refl)

are_packets : (i : Interface) (rs : List Item) → AllByRecursion (λ r. gap_of r.packet ≡ None) rs → AllByRecursion (IsPacket i) rs
are_packets i [] h = tt
are_packets i (r ∷ rs) (h, rest) = (is_packet i r.number r.side r.packet r.length r.octets h, are_packets i rs rest)

-- both walks after a row that stays
record Kept (i : Interface) (k e : ℕ) (s : RState) (f g : ℕ → GapChannel) (r : Item) (xs : List Item) : Type 0 where
  epoch : ℕ
  state : RState
  whole : ℕ → GapChannel
  other : ℕ → GapChannel
  same : whole k ≡ other k
  silent : Silent i (at_level epoch (whole_level state) whole) xs
  back : (ys : List Item) → Walks i k (at_level epoch (whole_level state) other) ys ≡ Walks i k (at_level epoch (whole_level state) whole) xs → Walks i k (at_level e (whole_level s) g) (r ∷ ys) ≡ Walks i k (at_level e (whole_level s) f) (r ∷ xs)

kept_level : (i : Interface) (k e : ℕ) (s : RState) (f g : ℕ → GapChannel) (r : Item) (xs : List Item) → f k ≡ g k → LevelPacket i r → Silent i (at_level e (whole_level s) f) (r ∷ xs) → Kept i k e s f g r xs
kept_level i k e s f g r xs same t h =
    let w = moves_level i e s f r xs t h in
    let m : LevelMove = w.step.move in
    record {
      epoch = moved_epoch e m;
      state = moved_state s m;
      whole = moved_states i e f m;
      other = moved_states i e g m;
      same = moved_same i k e f g m same;
      silent = w.silent;
      back = λ ys rest. row_and_rest i k (at_level e (whole_level s) g) (at_level e (whole_level s) f) (moved i e s g m) (moved i e s f m) r ys xs
          (level_same i k e (whole_level s) r f g same (t.row (whole_level s) e f) (t.row (whole_level s) e g)) ((t.row (whole_level s) e g).after ∙ w.step.whole e g) ((t.row (whole_level s) e f).after ∙ w.step.whole e f) rest;
    }

-- a packet on a channel while a side restarts
stays_waiting : (i : Interface) (e c : ℕ) (y : Side) (f : ℕ → GapChannel) (r : Item) → IsOn c r → silent (route_found r (routing (whole_level (restarting_state y)) r).route) ≡ true
    → stepped i (at_level e (whole_level (restarting_state y)) f) (routing (whole_level (restarting_state y)) r) ≡ at_level e (whole_level (restarting_state y)) f
stays_waiting i e c y f r on q = ap (stepped i (at_level e (whole_level (restarting_state y)) f)) (waited_out y c r on q).passes ∙ stays_so i (restarting_state y) e f

kept_waiting : (i : Interface) (k e c : ℕ) (y : Side) (f g : ℕ → GapChannel) (r : Item) (xs : List Item) → f k ≡ g k → IsOn c r → Silent i (at_level e (whole_level (restarting_state y)) f) (r ∷ xs) → Kept i k e (restarting_state y) f g r xs
kept_waiting i k e c y f g r xs same on h =
    let l : GapInterfaceState = whole_level (restarting_state y) in
    let lf = waiting_row i e y f c r on in
    let lg = waiting_row i e y g c r on in
    let first = level_first i (at_level e l f) r xs lf h in
    record {
      epoch = e;
      state = restarting_state y;
      whole = f;
      other = g;
      same = same;
      silent = subst (λ o. Silent i o xs) (stays_waiting i e c y f r on first.0) first.1;
      back = λ ys rest. row_and_rest i k (at_level e l g) (at_level e l f) (at_level e l g) (at_level e l f) r ys xs (level_same i k e l r f g same lf lg)
          (lg.after ∙ stays_waiting i e c y g r on first.0) (lf.after ∙ stays_waiting i e c y f r on first.0) rest;
    }

kept_in_r1 : (i : Interface) (k e c : ℕ) (f g : ℕ → GapChannel) (r : Item) (xs : List Item) → f k ≡ g k → IsOn c r → Silent i (at_level e (whole_level restart.TheVariants.R1) f) (r ∷ xs) → Kept i k e restart.TheVariants.R1 f g r xs
kept_in_r1 i k e c f g r xs same on h =
    let l : GapInterfaceState = whole_level restart.TheVariants.R1 in
    let sf = steps_one i e false f c r on in
    let sg = steps_one i e false g c r on in
    let whole : ℕ → GapChannel = with_state f c (gap_channel_step i c (f c) r).after in
    let other : ℕ → GapChannel = with_state g c (gap_channel_step i c (g c) r).after in
    record {
      epoch = e;
      state = restart.TheVariants.R1;
      whole = whole;
      other = other;
      same = stepped_same i k c r f g same;
      silent = (first_row i e false f c r xs on h).1;
      back = λ ys rest. row_and_rest i k (at_level e l g) (at_level e l f) (at_level e l other) (at_level e l whole) r ys xs
          (ap (on_channel k) sg.events ∙ stamp_same k e c r (λ a. (gap_channel_step i c a r).reported) f g same ∙ sym (ap (on_channel k) sf.events)) sg.after sf.after rest;
    }

kept_row : (i : Interface) (k e : ℕ) (s : RState) (f g : ℕ → GapChannel) (r : Item) (xs : List Item) → f k ≡ g k → IsPacket i r → Silent i (at_level e (whole_level s) f) (r ∷ xs) → Kept i k e s f g r xs
kept_row i k e s f g r xs same (OnNone t) h = kept_level i k e s f g r xs same t h
kept_row i k e restart.TheVariants.R1 f g r xs same (OnChannel c on) h = kept_in_r1 i k e c f g r xs same on h
kept_row i k e restart.TheVariants.R2 f g r xs same (OnChannel c on) h = kept_waiting i k e c T f g r xs same on h
kept_row i k e restart.TheVariants.R3 f g r xs same (OnChannel c on) h = kept_waiting i k e c N f g r xs same on h

-- ---- rows of another channel that were taken out

record Skipped (i : Interface) (k e : ℕ) (s : RState) (f : ℕ → GapChannel) (run rest : List Item) : Type 0 where
  states : ℕ → GapChannel
  same : states k ≡ f k
  silent : Silent i (at_level e (whole_level s) states) rest
  events : Walks i k (at_level e (whole_level s) f) (run ++ rest) ≡ Walks i k (at_level e (whole_level s) states) rest

-- a row without an event of the channel
no_row : (i : Interface) (k : ℕ) (o o' : Observer GapInterfaceState GapChannel) (r : Item) (rs : List Item) → on_channel k (row_events (x25 i) o r) ≡ [] → after (x25 i) o r ≡ o' → Walks i k o (r ∷ rs) ≡ Walks i k o' rs
no_row i k o o' r rs none e = on_append k (row_events (x25 i) o r) (walk_events (x25 i) (after (x25 i) o r) rs) ∙ (λ j. none j ++ Walks i k (e j) rs)

never_renewed : (u b c : Bool) → b ≡ false → (u && (b && c)) ≡ false
never_renewed u true c e = absurd (false≢true (sym e))
never_renewed true false c e = refl
never_renewed false false c e = refl

closed_none : (i : Interface) (k : ℕ) (o : Observer GapInterfaceState GapChannel) (r : Item) (b c : Bool) → b ≡ false → on_channel k (closed_events (x25 i) o r b c) ≡ []
closed_none i k o r true c e = absurd (false≢true (sym e))
closed_none i k o r false c e = refl

still_none : (i : Interface) (k e : ℕ) (l : GapInterfaceState) (f : ℕ → GapChannel) (r : Item) → LevelRow i (at_level e l f) r → is_ready l ≡ false → routing l r ≡ level_stays l → on_channel k (row_events (x25 i) (at_level e l f) r) ≡ []
still_none i k e l f r row u same =
    ap (on_channel k) row.events
    ∙ on_append k (stamp e None r (route_found r (routing l r).route)) (ended_events (x25 i) (at_level e l f) r (renewed (x25 i) l r))
    ∙ (λ j. on_channel k (stamp e None r (route_found r (same j).route)) ++ ended j)
  where
    ended : on_channel k (ended_events (x25 i) (at_level e l f) r (renewed (x25 i) l r)) ≡ []
    ended =
        ap (λ b. on_channel k (ended_events (x25 i) (at_level e l f) r b)) (never_renewed (is_renewal (routing l r).route) (is_ready l) (is_ready (routing l r).after) u)
        ∙ closed_none i k (at_level e l f) r (is_ready l) (is_ready (routing l r).after) u

waiting_none : (i : Interface) (k e c : ℕ) (y : Side) (f : ℕ → GapChannel) (r : Item) → IsOn c r → silent (route_found r (routing (whole_level (restarting_state y)) r).route) ≡ true
    → on_channel k (row_events (x25 i) (at_level e (whole_level (restarting_state y)) f) r) ≡ []
waiting_none i k e c y f r on q = still_none i k e (whole_level (restarting_state y)) f r (waiting_row i e y f c r on) (unready y) (waited_out y c r on q).passes

-- one of them
record Passed (i : Interface) (k e : ℕ) (s : RState) (f : ℕ → GapChannel) (r : Item) (rs : List Item) : Type 0 where
  states : ℕ → GapChannel
  same : states k ≡ f k
  silent : Silent i (at_level e (whole_level s) states) rs
  events : Walks i k (at_level e (whole_level s) f) (r ∷ rs) ≡ Walks i k (at_level e (whole_level s) states) rs

passed_waiting : (i : Interface) (k e c : ℕ) (y : Side) (f : ℕ → GapChannel) (r : Item) (rs : List Item) → IsOn c r → Silent i (at_level e (whole_level (restarting_state y)) f) (r ∷ rs) → Passed i k e (restarting_state y) f r rs
passed_waiting i k e c y f r rs on h =
    let l : GapInterfaceState = whole_level (restarting_state y) in
    let lf = waiting_row i e y f c r on in
    let first = level_first i (at_level e l f) r rs lf h in
    record {
      states = f;
      same = refl;
      silent = subst (λ o. Silent i o rs) (stays_waiting i e c y f r on first.0) first.1;
      events = no_row i k (at_level e l f) (at_level e l f) r rs (waiting_none i k e c y f r on first.0) (lf.after ∙ stays_waiting i e c y f r on first.0);
    }

passed_row : (i : Interface) (k e c : ℕ) (s : RState) (f : ℕ → GapChannel) (r : Item) (rs : List Item) → (c == k) ≡ false → IsOn c r → Silent i (at_level e (whole_level s) f) (r ∷ rs) → Passed i k e s f r rs
passed_row i k e c restart.TheVariants.R2 f r rs apart on h = passed_waiting i k e c T f r rs on h
passed_row i k e c restart.TheVariants.R3 f r rs apart on h = passed_waiting i k e c N f r rs on h
passed_row i k e c restart.TheVariants.R1 f r rs apart on h =
    let sf = steps_one i e false f c r on in
    let states : ℕ → GapChannel = with_state f c (gap_channel_step i c (f c) r).after in
    record {
      states = states;
      same = other_state f k c (gap_channel_step i c (f c) r).after apart;
      silent = (first_row i e false f c r rs on h).1;
      events = no_row i k (at_level e (whole_level restart.TheVariants.R1) f) (at_level e (whole_level restart.TheVariants.R1) states) r rs
          (ap (on_channel k) sf.events ∙ other_stamp k e c r (gap_channel_step i c (f c) r).reported apart) sf.after;
    }

skipped : (i : Interface) (k e c : ℕ) (s : RState) (f : ℕ → GapChannel) (run rest : List Item) → (c == k) ≡ false → AllByRecursion (IsPacket i) run → AllByRecursion (λ r. own_channel r.packet ≡ Some c) run
    → Silent i (at_level e (whole_level s) f) (run ++ rest) → Skipped i k e s f run rest
skipped i k e c s f [] rest apart rows own h = record { states = f; same = refl; silent = h; events = refl }
skipped i k e c s f (r ∷ run) rest apart (OnNone t, rows) (own, more) h = absurd (none_some (sym t.none ∙ own))
  where
    none_some : None ≡ Some c → ⊥
    none_some e = cc
skipped i k e c s f (r ∷ run) rest apart (OnChannel d on, rows) (own, more) h =
    let same : d ≡ c = same_some (sym (ap (λ p. own_channel p) on.is) ∙ own) in
    let w = passed_row i k e d s f r (run ++ rest) (ap (λ d. d == k) same ∙ apart) on h in
    let z = skipped i k e c s w.states run rest apart rows more w.silent in
    record { states = z.states; same = z.same ∙ w.same; silent = z.silent; events = w.events ∙ z.events }

-- the gap itself changes another channel alone
record GapPassed (i : Interface) (k e : ℕ) (s : RState) (g : ℕ → GapChannel) (y : Item) : Type 0 where
  states : ℕ → GapChannel
  same : states k ≡ g k
  events : (ys : List Item) → Walks i k (at_level e (whole_level s) g) (y ∷ ys) ≡ Walks i k (at_level e (whole_level s) states) ys

gap_passed : (i : Interface) (k e c : ℕ) (s : RState) (g : ℕ → GapChannel) (nr : ℕ) (x : Side) (len : ℕ) (os : List ℕ) → (c == k) ≡ false
    → GapPassed i k e s g (record { number = nr; side = x; packet = packet.TheVariants.Channel c kind.TheVariants.Gap; length = len; octets = os })
gap_passed i k e c restart.TheVariants.R1 g nr x len os apart = record { states = with_state g c (gap_step i c false (g c)); same = other_state g k c (gap_step i c false (g c)) apart; events = λ ys. refl }
gap_passed i k e c restart.TheVariants.R2 g nr x len os apart = record { states = g; same = refl; events = λ ys. refl }
gap_passed i k e c restart.TheVariants.R3 g nr x len os apart = record { states = g; same = refl; events = λ ys. refl }

-- ---- the law

abbrev HasGap : Interface → ℕ → ℕ → RState → (ℕ → GapChannel) → (ℕ → GapChannel) → Item → List Item → List Item → Type 0
HasGap i k e s f g y run rest = GapPassed i k e s g y × Skipped i k e s f run rest

gapped : (i : Interface) (k e : ℕ) (s : RState) (f g : ℕ → GapChannel) (nr : ℕ) (x : Side) (p : Packet) (len : ℕ) (os : List ℕ) (run rest : List Item) → may_miss k p ≡ false → Covers (gap_of p) run → AllByRecursion (IsPacket i) run
    → Silent i (at_level e (whole_level s) f) (run ++ rest) → HasGap i k e s f g (record { number = nr; side = x; packet = p; length = len; octets = os }) run rest
gapped i k e s f g nr x (packet.TheVariants.Channel c kind.TheVariants.Gap) len os run rest apart covers rows h = (gap_passed i k e c s g nr x len os apart, skipped i k e c s f run rest apart rows covers h)
gapped i k e s f g nr x packet.TheVariants.GapOfAll len os run rest apart covers rows h = absurd (false≢true (sym apart))
gapped i k e s f g nr x p len os run rest apart covers rows h = absurd covers

same_events : (i : Interface) (k e : ℕ) (s : RState) (f g : ℕ → GapChannel) (ys xs : List Item) → f k ≡ g k → AllByRecursion (IsPacket i) xs → IsThinned xs ys → AllByRecursion (λ r. may_miss k r.packet ≡ false) ys
    → Silent i (at_level e (whole_level s) f) xs → Walks i k (at_level e (whole_level s) g) ys ≡ Walks i k (at_level e (whole_level s) f) xs
same_events i k e s f g [] xs same rows thin whole h = sym (ap (Walks i k (at_level e (whole_level s) f)) thin)
same_events i k e s f g (y ∷ ys) xs same rows (inl (rest, is, thin)) (none, whole) h =
    let kept = subst (λ l. AllByRecursion (IsPacket i) l) is rows in
    let w = kept_row i k e s f g y rest same kept.0 (subst (λ l. Silent i (at_level e (whole_level s) f) l) is h) in
    w.back ys (same_events i k w.epoch w.state w.whole w.other ys rest w.same kept.1 thin whole w.silent) ∙ sym (ap (Walks i k (at_level e (whole_level s) f)) is)
same_events i k e s f g (y ∷ ys) xs same rows (inr (run, rest, is, covers, thin)) (none, whole) h =
    let parts = rows_after (IsPacket i) run rest (subst (λ l. AllByRecursion (IsPacket i) l) is rows) in
    let w = gapped i k e s f g y.number y.side y.packet y.length y.octets run rest none covers parts.0 (subst (λ l. Silent i (at_level e (whole_level s) f) l) is h) in
    w.0.events ys
    ∙ same_events i k e s w.1.states w.0.states ys rest (w.1.same ∙ same ∙ sym w.0.same) parts.1 thin whole w.1.silent
    ∙ sym w.1.events ∙ sym (ap (Walks i k (at_level e (whole_level s) f)) is)

pub same_events_law : SameEventsLaw
same_events_law i k xs ys join packets whole thin h =
    let begins = starts_restarted i join in
    ap (λ o. Walks i k o ys) begins
    ∙ same_events i k 1 restart.TheVariants.R1 (fresh_at i Restarted 1) (fresh_at i Restarted 1) ys xs refl (are_packets i xs packets) thin whole (subst (λ o. Silent i o xs) begins (all_silent (walk_events (x25 i) (start i) xs) h))
    ∙ sym (ap (λ o. Walks i k o xs) begins)
