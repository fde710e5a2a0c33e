-- Thinning: a row that stays steps both observers, and one that was taken out steps the observer of the whole walk alone.
use Rattle.std.proofs.Common.{◌≡◌, inl, inr, ◌==◌, ℕ, Bool, true, false, cond, refl, sym, ◌∙◌, ap, subst, List, [], ◌∷◌, ◌++◌, Option, Some, None, eq-eqb}
use Rattle.std.specs.Prelude.{not, ◌&&◌, ◌||◌}
use Rattle.std.specs.List.{AllByRecursion}
use Rattle.std.proofs.lemmas.Bool.{false≢true, eqb-true}
use Rattle.line_model.specs.declared.gap.EpochStart.TheVariants.{Drifting}
use Rattle.line_model.specs.declared.event.What.{What}
use Rattle.line_model.specs.declared.interface.Interface.{Interface}
use Rattle.line_model.specs.declared.packet.Packet.{Packet}
use Rattle.line_model.specs.declared.packet.Packet as packet
use Rattle.line_model.specs.declared.packet.PacketKind as kind
use Rattle.line_model.specs.declared.state.Side.{Side}
use Rattle.line_model.specs.declared.state.DState as transfer
use Rattle.line_model.specs.basics.Records.{Item}
use Rattle.line_model.specs.packets.Says.{gap_of}
use Rattle.line_model.specs.channels.Channels.{channel_in, fresh_state, is_open, is_in_transfer, is_permanent}
use Rattle.line_model.specs.channels.ChannelStep.{channel_step, entering}
use Rattle.line_model.specs.channels.Gaps.{GapChannel, certain, drifting, fresh_at, gap_step, idle_name, of_both, owed_at_gap, with_largest_terms}
use Rattle.line_model.specs.channels.GapRestart.{start_with}
use Rattle.line_model.specs.channels.GapStep.{gap_channel_step}
use Rattle.line_model.specs.channels.RestartMachine.{level_in_r1}
use Rattle.line_model.specs.observer.Machine.{after, with_state}
use Rattle.line_model.specs.observer.MachineEvents.{RowEvent, stamp, walk_events}
use Rattle.line_model.specs.observer.Observer.{event_of, events, start, x25}
use Rattle.gap_laws.specs.Thinned.{AccusesNobody, Covers, IsPart, IsThinned, RestartedLaw, own_channel, restarted}
use Rattle.gap_laws.proofs.Circuits.{Circuit, IsOrdered, channel_of, idle, no_terms, silent}
use Rattle.gap_laws.proofs.Fits.{Fits, Takes, adrift_at, certain_at, settled_at}
use Rattle.gap_laws.proofs.Fits.Fits.{FitsAll, FitsAnyAfter, FitsSome}
use Rattle.gap_laws.proofs.Parts.{part_after, part_append, part_map}
use Rattle.gap_laws.proofs.DataSteps.{FollowsBy, adrift_fits, none_seen}
use Rattle.gap_laws.proofs.ResetSteps.{idle_ordered}
use Rattle.gap_laws.proofs.Observers.{IsOn, Silent, all_silent, observer, silent_events, silent_stamp, stamp_silent, steps_one}

-- ---- pairs of channels

-- a channel in the whole walk, and in the other one
pub record Pair (i : Interface) (Valid : Circuit → Type 0) (a g : GapChannel) : Type 0 where
  pub whole : Circuit
  pub is : a ≡ certain (channel_of whole)
  pub valid : Valid whole
  pub ordered : (y : Side) → IsOrdered i.modulus whole y
  pub fits : Fits i whole g

-- the same of all permanent circuits
abbrev pub Pairs : Interface → (Circuit → Type 0) → (ℕ → GapChannel) → (ℕ → GapChannel) → Type 0
Pairs i Valid f g = (k : ℕ) → is_permanent i k ≡ true → Pair i Valid (f k) (g k)

-- what a row does to a circuit on which nothing is a finding, and to every channel that fits it
pub record Step (i : Interface) (Valid : Circuit → Type 0) (Said : List What → List What → Type 0) (k : ℕ) (r : Item) (q : Circuit) : Type 0 where
  pub whole : Circuit
  pub valid : Valid whole
  pub takes : Takes i no_terms k r q whole
  pub follows : (g : GapChannel) → Fits i q g → FollowsBy i whole (gap_channel_step i k g r)
  pub said : (g : GapChannel) → Fits i q g → Said (channel_step i k (channel_of q) r).reported (gap_channel_step i k g r).reported

-- rows of permanent circuits that keep the order
pub record Keeps (i : Interface) (Valid : Circuit → Type 0) (Said : List What → List What → Type 0) (r : Item) : Type 0 where
  pub channel : ℕ
  pub on : IsOn channel r
  pub permanent : is_permanent i channel ≡ true
  pub steps : (q : Circuit) → Valid q → ((y : Side) → IsOrdered i.modulus q y) → silent (channel_step i channel (channel_of q) r).reported ≡ true → Step i Valid Said channel r q

-- ---- gaps

-- a permanent circuit right after a gap
after_gap : (i : Interface) (k : ℕ) (all : Bool) (g : GapChannel) → is_permanent i k ≡ true
    → gap_step i k all g
    ≡ record { channel = entering (idle_name true g.channel.opening) false g.channel; restarting = g.restarting || all; certainty = drifting (owed_at_gap g.certainty g.channel) false }
after_gap i k all g p =
    ap (λ b. record {
      channel = with_largest_terms (not b && is_open g.channel) i (entering (idle_name (b || is_in_transfer g.channel) g.channel.opening) false g.channel);
      restarting = g.restarting || all;
      certainty = drifting (owed_at_gap g.certainty g.channel) (not b && is_open g.channel);
    }) p

-- whatever is known of it, after a gap it is adrift, and nothing was seen since
pub gap_opens : (i : Interface) (k : ℕ) (all : Bool) (q : Circuit) (g : GapChannel) → is_permanent i k ≡ true → Fits i q g → (b : Bool) × (gap_step i k all g ≡ adrift_at transfer.TheVariants.D1 b (of_both None))
gap_opens i k all q g p (FitsAll b e) = (b || all, ap (λ g. gap_step i k all g) e ∙ after_gap i k all (certain_at b q) p)
gap_opens i k all q g p (FitsAnyAfter f) = (f.restarting || all, ap (λ g. gap_step i k all g) f.is ∙ after_gap i k all (adrift_at f.state f.restarting f.last) p)
gap_opens i k all q g p (FitsSome f) = (f.restarting || all, ap (λ g. gap_step i k all g) f.is ∙ after_gap i k all (settled_at f.restarting f.numbers f.interrupts f.sequences f.settled) p)

-- such a channel fits every circuit
pub open_fits : (i : Interface) (q : Circuit) (b : Bool) (g : GapChannel) → g ≡ adrift_at transfer.TheVariants.D1 b (of_both None) → Fits i q g
open_fits i q b g e = subst (Fits i q) (sym e) (adrift_fits i q transfer.TheVariants.D1 b (of_both None) (none_seen i.modulus q (of_both None) refl) tt)

-- the channels of some numbers are such
abbrev Open : Interface → (ℕ → Type 0) → (ℕ → GapChannel) → Type 0
Open i C g = (k : ℕ) → C k → is_permanent i k ≡ true → (b : Bool) × (g k ≡ adrift_at transfer.TheVariants.D1 b (of_both None))

-- ---- one row

pub with_one : {A : Type 0} (P : ℕ → A → Type 0) (f : ℕ → A) (k : ℕ) (a : A) → P k a → (j : ℕ) → P j (f j) → P j (with_state f k a j)
with_one P f k a own j other = at (j == k) refl
  where
    at : (b : Bool) → (j == k) ≡ b → P j (cond b a (f j))
    at true e = subst (λ n. P n a) (sym (eqb-true j k e)) own
    at false e = other

-- two at once
pub with_two : {A : Type 0} (P : ℕ → A → A → Type 0) (f g : ℕ → A) (k : ℕ) (a b : A) → P k a b → (j : ℕ) → P j (f j) (g j) → P j (with_state f k a j) (with_state g k b j)
with_two P f g k a b own j other = at (j == k) refl
  where
    at : (c : Bool) → (j == k) ≡ c → P j (cond c a (f j)) (cond c b (g j))
    at true e = subst (λ n. P n a b) (sym (eqb-true j k e)) own
    at false e = other

-- the first row of a walk without a finding
pub first_row : (i : Interface) (e : ℕ) (b : Bool) (f : ℕ → GapChannel) (k : ℕ) (r : Item) (rs : List Item) → IsOn k r → Silent i (observer e b f) (r ∷ rs)
    → (silent (gap_channel_step i k (f k) r).reported ≡ true) × Silent i (observer e b (with_state f k (gap_channel_step i k (f k) r).after)) rs
first_row i e b f k r rs on h =
    let one = steps_one i e b f k r on in
    let said = silent_stamp e (Some k) r (gap_channel_step i k (f k) r).reported (walk_events (x25 i) (after (x25 i) (observer e b f) r) rs)
    (subst (λ l. silent_events (l ++ walk_events (x25 i) (after (x25 i) (observer e b f) r) rs) ≡ true) one.events h) in
    (said.0, subst (λ o. Silent i o rs) one.after said.1)

pub row_first : (i : Interface) (e : ℕ) (b : Bool) (f : ℕ → GapChannel) (k : ℕ) (r : Item) (rs : List Item) → IsOn k r → silent (gap_channel_step i k (f k) r).reported ≡ true
    → Silent i (observer e b (with_state f k (gap_channel_step i k (f k) r).after)) rs → Silent i (observer e b f) (r ∷ rs)
row_first i e b f k r rs on h rest =
    let one = steps_one i e b f k r on in
    subst (λ l. silent_events (l ++ walk_events (x25 i) (after (x25 i) (observer e b f) r) rs) ≡ true) (sym one.events)
    (stamp_silent e (Some k) r (gap_channel_step i k (f k) r).reported (walk_events (x25 i) (after (x25 i) (observer e b f) r) rs) h (subst (λ o. Silent i o rs) (sym one.after) rest))

-- the events of a walk, by those of its first row
events_first : (i : Interface) (e : ℕ) (b : Bool) (f : ℕ → GapChannel) (k : ℕ) (r : Item) (rs : List Item) → IsOn k r
    → walk_events (x25 i) (observer e b f) (r ∷ rs) ≡ stamp e (Some k) r (gap_channel_step i k (f k) r).reported ++ walk_events (x25 i) (observer e b (with_state f k (gap_channel_step i k (f k) r).after)) rs
events_first i e b f k r rs on = let one = steps_one i e b f k r on in (λ j. one.events j ++ walk_events (x25 i) (one.after j) rs)

-- what the whole walk takes
pub whole_silent : (i : Interface) (k : ℕ) (r : Item) (a : GapChannel) (q : Circuit) → a ≡ certain (channel_of q) → silent (gap_channel_step i k a r).reported ≡ true → silent (channel_step i k (channel_of q) r).reported ≡ true
whole_silent i k r a q e h = subst (λ a. silent (gap_channel_step i k a r).reported ≡ true) e h

pub whole_after : (i : Interface) (k : ℕ) (r : Item) (a : GapChannel) (q w : Circuit) → a ≡ certain (channel_of q) → (channel_step i k (channel_of q) r).after ≡ channel_of w → (gap_channel_step i k a r).after ≡ certain (channel_of w)
whole_after i k r a q w e h = ap (λ a. (gap_channel_step i k a r).after) e ∙ ap (λ c. certain c) h

-- a row that stays
stays : (i : Interface) (Valid : Circuit → Type 0) (Said : List What → List What → Type 0) (r : Item) (t : Keeps i Valid Said r) (f g : ℕ → GapChannel) → Pairs i Valid f g → silent (gap_channel_step i t.channel (f t.channel) r).reported ≡ true
    → (silent (gap_channel_step i t.channel (g t.channel) r).reported ≡ true)
    × Said (gap_channel_step i t.channel (f t.channel) r).reported (gap_channel_step i t.channel (g t.channel) r).reported
    × Pairs i Valid (with_state f t.channel (gap_channel_step i t.channel (f t.channel) r).after) (with_state g t.channel (gap_channel_step i t.channel (g t.channel) r).after)
stays i Valid Said r t f g pairs h =
    let k : ℕ = t.channel in
    let p : Pair i Valid (f k) (g k) = pairs k t.permanent in
    let s : Step i Valid Said k r p.whole = t.steps p.whole p.valid p.ordered (whole_silent i k r (f k) p.whole p.is h) in
    let o : FollowsBy i s.whole (gap_channel_step i k (g k) r) = s.follows (g k) p.fits in (
      o.0,
      subst (λ a. Said (gap_channel_step i k a r).reported (gap_channel_step i k (g k) r).reported) (sym p.is) (s.said (g k) p.fits),
      λ j perm. with_two (λ j a g. Pair i Valid a g) f g k (gap_channel_step i k (f k) r).after (gap_channel_step i k (g k) r).after
          (record { whole = s.whole; is = whole_after i k r (f k) p.whole s.whole p.is s.takes.after; valid = s.valid; ordered = s.takes.ordered; fits = o.1 }) j (pairs j perm),
    )

-- a row that was taken out
taken_out : (i : Interface) (Valid : Circuit → Type 0) (Said : List What → List What → Type 0) (r : Item) (t : Keeps i Valid Said r) (C : ℕ → Type 0) (f g : ℕ → GapChannel) → C t.channel → Open i C g → Pairs i Valid f g
    → silent (gap_channel_step i t.channel (f t.channel) r).reported ≡ true
    → Pairs i Valid (with_state f t.channel (gap_channel_step i t.channel (f t.channel) r).after) g
taken_out i Valid Said r t C f g covered opened pairs h j perm =
    let k : ℕ = t.channel in
    let p : Pair i Valid (f k) (g k) = pairs k t.permanent in
    let s : Step i Valid Said k r p.whole = t.steps p.whole p.valid p.ordered (whole_silent i k r (f k) p.whole p.is h) in
    let adrift = opened k covered t.permanent in
    with_one (λ j a. Pair i Valid a (g j)) f k (gap_channel_step i k (f k) r).after
    (record { whole = s.whole; is = whole_after i k r (f k) p.whole s.whole p.is s.takes.after; valid = s.valid; ordered = s.takes.ordered; fits = open_fits i s.whole adrift.0 (g k) adrift.1 }) j (pairs j perm)

-- a run of rows that were taken out
record Absorbed (i : Interface) (Valid : Circuit → Type 0) (e : ℕ) (b : Bool) (g : ℕ → GapChannel) (rest : List Item) (events : List (RowEvent Item What)) : Type 0 where
  states : ℕ → GapChannel
  pairs : Pairs i Valid states g
  silent : Silent i (observer e b states) rest
  later : (us : List (RowEvent Item What)) → IsPart us (walk_events (x25 i) (observer e b states) rest) → IsPart us events

absorbed : (i : Interface) (Valid : Circuit → Type 0) (Said : List What → List What → Type 0) (e : ℕ) (b : Bool) (C : ℕ → Type 0) (g : ℕ → GapChannel) → Open i C g → (run rest : List Item) (f : ℕ → GapChannel)
    → AllByRecursion (λ r. (t : Keeps i Valid Said r) × C t.channel) run → Pairs i Valid f g → Silent i (observer e b f) (run ++ rest) → Absorbed i Valid e b g rest (walk_events (x25 i) (observer e b f) (run ++ rest))
absorbed i Valid Said e b C g opened [] rest f rows pairs h = record { states = f; pairs = pairs; silent = h; later = λ us k. k }
absorbed i Valid Said e b C g opened (r ∷ run) rest f (t, rows) pairs h =
    let k : ℕ = t.0.channel in
    let first = first_row i e b f k r (run ++ rest) t.0.on h in
    let more = absorbed i Valid Said e b C g opened run rest (with_state f k (gap_channel_step i k (f k) r).after) rows (taken_out i Valid Said r t.0 C f g t.1 opened pairs first.0) first.1 in
    record {
      states = more.states;
      pairs = more.pairs;
      silent = more.silent;
      later = λ us part. subst (λ l. IsPart us l) (sym (events_first i e b f k r (run ++ rest) t.0.on))
          (part_after us (stamp e (Some k) r (gap_channel_step i k (f k) r).reported) (walk_events (x25 i) (observer e b (with_state f k (gap_channel_step i k (f k) r).after)) (run ++ rest)) (more.later us part));
    }

-- ---- a gap

-- the channels of a gap
abbrev IsCovered : Option ℕ → ℕ → Type 0
IsCovered None k = Unit {0}
IsCovered (Some c) k = k ≡ c

-- what a gap row comes to: which channels are adrift then, and that no channel has another order
record Gapped (i : Interface) (Valid : Circuit → Type 0) (Said : List What → List What → Type 0) (e : ℕ) (b : Bool) (f g : ℕ → GapChannel) (y : Item) (run ys : List Item) : Type 0 where
  covered : Option ℕ
  adrift : Bool
  states : ℕ → GapChannel
  rows : AllByRecursion (λ r. (t : Keeps i Valid Said r) × IsCovered covered t.channel) run
  opened : Open i (IsCovered covered) states
  pairs : Pairs i Valid f states
  same : walk_events (x25 i) (observer e b g) (y ∷ ys) ≡ walk_events (x25 i) (observer e adrift states) ys

all_rows : (i : Interface) (Valid : Circuit → Type 0) (Said : List What → List What → Type 0) (run : List Item) → AllByRecursion (Keeps i Valid Said) run → AllByRecursion (λ r. (t : Keeps i Valid Said r) × Unit {0}) run
all_rows i Valid Said [] h = tt
all_rows i Valid Said (r ∷ run) (h, rest) = ((h, tt), all_rows i Valid Said run rest)

pub same_some : {c k : ℕ} → Some c ≡ Some k → c ≡ k
same_some e = cc

own_rows : (i : Interface) (Valid : Circuit → Type 0) (Said : List What → List What → Type 0) (c : ℕ) (run : List Item) → AllByRecursion (Keeps i Valid Said) run → AllByRecursion (λ r. own_channel r.packet ≡ Some c) run
    → AllByRecursion (λ r. (t : Keeps i Valid Said r) × (t.channel ≡ c)) run
own_rows i Valid Said c [] h same = tt
own_rows i Valid Said c (r ∷ run) (h, rest) (same, more) = ((h, same_some (sym (ap (λ p. own_channel p) h.on.is) ∙ same)), own_rows i Valid Said c run rest more)

gapped : (i : Interface) (Valid : Circuit → Type 0) (Said : List What → List What → Type 0) (e : ℕ) (b : Bool) (f g : ℕ → GapChannel) (nr : ℕ) (x : Side) (p : Packet) (len : ℕ) (os : List ℕ) (run ys : List Item)
    → AllByRecursion (Keeps i Valid Said) run → Covers (gap_of p) run → Pairs i Valid f g
    → Gapped i Valid Said e b f g (record { number = nr; side = x; packet = p; length = len; octets = os }) run ys
gapped i Valid Said e b f g nr x packet.TheVariants.GapOfAll len os run ys rows covers pairs = record {
  covered = None;
  adrift = true;
  states = λ k. gap_step i k true (g k);
  rows = all_rows i Valid Said run rows;
  opened = λ k c perm. gap_opens i k true (pairs k perm).whole (g k) perm (pairs k perm).fits;
  pairs = λ k perm.
      let p = pairs k perm in
      let w = gap_opens i k true p.whole (g k) perm p.fits in
      record { whole = p.whole; is = p.is; valid = p.valid; ordered = p.ordered; fits = open_fits i p.whole w.0 (gap_step i k true (g k)) w.1 };
  same = refl;
}
gapped i Valid Said e b f g nr x (packet.TheVariants.Channel c kind.TheVariants.Gap) len os run ys rows covers pairs = record {
  covered = Some c;
  adrift = b;
  states = with_state g c (gap_step i c false (g c));
  rows = own_rows i Valid Said c run rows covers;
  opened = λ k same perm. subst (λ n. is_permanent i n ≡ true → (b : Bool) × (with_state g c (gap_step i c false (g c)) n ≡ adrift_at transfer.TheVariants.D1 b (of_both None))) (sym same) own perm;
  pairs = λ k perm. with_one (λ j s. is_permanent i j ≡ true → Pair i Valid (f j) s) g c (gap_step i c false (g c))
      (λ perm.
      let p = pairs c perm in
      let w = gap_opens i c false p.whole (g c) perm p.fits in
      record { whole = p.whole; is = p.is; valid = p.valid; ordered = p.ordered; fits = open_fits i p.whole w.0 (gap_step i c false (g c)) w.1 })
      k (λ perm. pairs k perm) perm;
  same = refl;
}
  where
    own : is_permanent i c ≡ true → (b : Bool) × (with_state g c (gap_step i c false (g c)) c ≡ adrift_at transfer.TheVariants.D1 b (of_both None))
    own perm =
        let p = pairs c perm in
        let w = gap_opens i c false p.whole (g c) perm p.fits in
        (w.0, ap (λ t. cond t (gap_step i c false (g c)) (g c)) (eq-eqb c c refl) ∙ w.1)
gapped i Valid Said e b f g nr x p len os run ys rows covers pairs = absurd covers

-- ---- the law

pub rows_after : (P : Item → Type 0) (run rest : List Item) → AllByRecursion P (run ++ rest) → AllByRecursion P run × AllByRecursion P rest
rows_after P [] rest h = (tt, h)
rows_after P (r ∷ run) rest (h, more) = let both = rows_after P run rest more in ((h, both.0), both.1)

-- where each row says no more than in the whole walk, so does the recording
pub thinned_part : (i : Interface) (Valid : Circuit → Type 0) (e : ℕ) (b c : Bool) (ys xs : List Item) (f g : ℕ → GapChannel) → AllByRecursion (Keeps i Valid (λ ws us. IsPart us ws)) xs → IsThinned xs ys → Pairs i Valid f g
    → Silent i (observer e b f) xs → IsPart (walk_events (x25 i) (observer e c g) ys) (walk_events (x25 i) (observer e b f) xs)
thinned_part i Valid e b c [] xs f g rows thin pairs h = tt
thinned_part i Valid e b c (y ∷ ys) xs f g rows (inl (rest, same, thin)) pairs h =
    let kept = subst (λ l. AllByRecursion (Keeps i Valid (λ ws us. IsPart us ws)) l) same rows in
    let k : ℕ = kept.0.channel in
    let first = first_row i e b f k y rest kept.0.on (subst (λ l. Silent i (observer e b f) l) same h) in
    let next = stays i Valid (λ ws us. IsPart us ws) y kept.0 f g pairs first.0 in
    let whole : ℕ → GapChannel = with_state f k (gap_channel_step i k (f k) y).after in
    let other : ℕ → GapChannel = with_state g k (gap_channel_step i k (g k) y).after in
    subst (λ l. IsPart (walk_events (x25 i) (observer e c g) (y ∷ ys)) (walk_events (x25 i) (observer e b f) l)) (sym same)
    (subst (λ l. IsPart l (walk_events (x25 i) (observer e b f) (y ∷ rest))) (sym (events_first i e c g k y ys kept.0.on))
    (subst (λ l. IsPart (stamp e (Some k) y (gap_channel_step i k (g k) y).reported ++ walk_events (x25 i) (observer e c other) ys) l) (sym (events_first i e b f k y rest kept.0.on))
    (part_append (stamp e (Some k) y (gap_channel_step i k (g k) y).reported) (stamp e (Some k) y (gap_channel_step i k (f k) y).reported) (walk_events (x25 i) (observer e c other) ys) (walk_events (x25 i) (observer e b whole) rest)
    (part_map (λ w. record { epoch = e; channel = Some k; row = y; what = w }) (gap_channel_step i k (g k) y).reported (gap_channel_step i k (f k) y).reported next.1)
    (thinned_part i Valid e b c ys rest whole other kept.1 thin next.2 first.1))))
thinned_part i Valid e b c (y ∷ ys) xs f g rows (inr (run, rest, same, covers, thin)) pairs h =
    let parts = rows_after (Keeps i Valid (λ ws us. IsPart us ws)) run rest (subst (λ l. AllByRecursion (Keeps i Valid (λ ws us. IsPart us ws)) l) same rows) in
    let gap = gapped i Valid (λ ws us. IsPart us ws) e c f g y.number y.side y.packet y.length y.octets run ys parts.0 covers pairs in
    let gone = absorbed i Valid (λ ws us. IsPart us ws) e b (IsCovered gap.covered) gap.states gap.opened run rest f gap.rows gap.pairs (subst (λ l. Silent i (observer e b f) l) same h) in
    subst (λ l. IsPart (walk_events (x25 i) (observer e c g) (y ∷ ys)) (walk_events (x25 i) (observer e b f) l)) (sym same)
    (subst (λ l. IsPart l (walk_events (x25 i) (observer e b f) (run ++ rest))) (sym gap.same)
    (gone.later (walk_events (x25 i) (observer e gap.adrift gap.states) ys) (thinned_part i Valid e b gap.adrift ys rest gone.states gap.states parts.1 thin gone.pairs gone.silent)))

-- ---- how a recording begins

abbrev fresh : Interface → ℕ → GapChannel
fresh i k = certain (channel_in (fresh_state false (is_permanent i k)))

-- an interface that has just restarted
restarted_is : (i : Interface) → (i.join && not i.gaps) ≡ false → restarted i ≡ observer 1 false (λ k. certain (channel_in (fresh_state false (is_permanent i k))))
restarted_is i h = ap (λ j. observer 1 false (λ k. certain (channel_in (fresh_state j (is_permanent i k))))) (joined i.join i.gaps h)
  where
    joined : (j g : Bool) → (j && not g) ≡ false → (j && (not g && (1 == 1))) ≡ false
    joined true true h = refl
    joined true false h = absurd (false≢true (sym h))
    joined false g h = refl

pub starts_restarted : RestartedLaw
starts_restarted i h =
    ap (λ j. record { epoch = 1; level = record { level = level_in_r1 (j && not i.gaps); adrift = j && i.gaps; owed_before = false }; states = fresh_at i (start_with (j && i.gaps) false) 1 }) h

-- one that begins in the middle
pub joined_is : (i : Interface) → i.join ≡ true → i.gaps ≡ true → start i ≡ observer 1 true (fresh_at i (Drifting false) 1)
joined_is i h k =
    (λ n. record { epoch = 1; level = record { level = level_in_r1 (h n && not (k n)); adrift = h n && k n; owed_before = false }; states = fresh_at i (start_with (h n && k n) false) 1 })

fresh_is : (i : Interface) (k : ℕ) → is_permanent i k ≡ true → certain (channel_in (fresh_state false (is_permanent i k))) ≡ certain (channel_of (idle transfer.TheVariants.D1))
fresh_is i k perm = ap (λ b. certain (channel_in (fresh_state false b))) perm

pub counts_recorded : (i : Interface) (Valid : Circuit → Type 0) (xs ys : List Item) → i.join ≡ false → Valid (idle transfer.TheVariants.D1) → AllByRecursion (Keeps i Valid (λ ws us. IsPart us ws)) xs → IsThinned xs ys → AccusesNobody i xs → IsPart (events i ys) (events i xs)
counts_recorded i Valid xs ys join valid rows thin h =
    part_map event_of (walk_events (x25 i) (start i) ys) (walk_events (x25 i) (start i) xs)
    (subst (λ o. IsPart (walk_events (x25 i) o ys) (walk_events (x25 i) o xs)) (sym begins)
    (thinned_part i Valid 1 false false ys xs (fresh i) (fresh i) rows thin pairs
    (subst (λ o. Silent i o xs) begins (all_silent (walk_events (x25 i) (start i) xs) h))))
  where
    begins : start i ≡ observer 1 false (fresh i)
    begins = starts_restarted i join ∙ restarted_is i (ap (λ j. j && not i.gaps) join)

    pairs : Pairs i Valid (fresh i) (fresh i)
    pairs k perm = record { whole = idle transfer.TheVariants.D1; is = fresh_is i k perm; valid = valid; ordered = idle_ordered i transfer.TheVariants.D1; fits = FitsAll false (fresh_is i k perm) }
