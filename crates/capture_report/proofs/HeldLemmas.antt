-- What a receiver holds, and what it shows, is of the frames that were read.
use Rattle.std.proofs.Common.{◌≡◌, refl, ℕ, ◌-◌, ◌&&◌, ◌||◌, Bool, true, false, not, cond, List, [], ◌∷◌, ◌++◌, length, Option, None, Some}
use Rattle.std.specs.Prelude.{filter, slice_set, ◌==◌, nat_lt, nat_le, if◌then◌else◌}
use Rattle.std.specs.List.{AllByRecursion}
use Rattle.hex.specs.Hex.{IsBytes}
use Rattle.line_model.specs.declared.state.Side.{Side}
use Rattle.lapb_link.proofs.GivenLemmas.{OfHeld, given_all}
use Rattle.lapb_link.specs.Frames.{IFrame, held_of, is_held, is_kept, is_late, is_repeated, placed, recent_of, run_from}
use Rattle.lapb_link.specs.Numbers.{after, ahead}
use Rattle.lapb_link.specs.Receiving.{Read, Step, accepted, acknowledged, all_passed, behind, caught_up, count_shown, expected, first_acknowledged, first_shown, freed, gap_if, given, held_shown, informed, is_beyond, is_inside, is_number, is_passed, is_repeated_number, known_acknowledged, known_informed, lost_if, new_frame, passed_over, progress_of, reached, recall_of, refused, rejected, supervised, supervised_by, way_of, widened}
use Rattle.lapb_link.specs.declared.control.Supervisory.{Supervisory}
use Rattle.lapb_link.specs.declared.control.Supervisory.TheVariants as supervisory
use Rattle.lapb_link.specs.declared.control.SupervisoryField.{SupervisoryField}
use Rattle.lapb_link.specs.declared.frames.HeldFrame.{HeldFrame}
use Rattle.lapb_link.specs.declared.frames.Place.{Place}
use Rattle.lapb_link.specs.declared.frames.Reading.{Reading}
use Rattle.lapb_link.specs.declared.modulus.Modulus.{Modulus}
use Rattle.lapb_link.specs.declared.receiver.Fate.TheVariants as fate
use Rattle.lapb_link.specs.declared.receiver.Receiver.{Receiver}
use Rattle.lapb_link.specs.declared.receiver.Shown.{Shown}
use Rattle.lapb_link.specs.declared.receiver.Shown.TheVariants as shown
use Rattle.capture_report.specs.TraceRows.{IsPlace}

pub both : {X : Type 0} (P : X → Type 0) (xs ys : List X) → AllByRecursion P xs → AllByRecursion P ys → AllByRecursion P (xs ++ ys)
both P [] ys h k = k
both P (x ∷ xs) ys h k = (h.0, both P xs ys h.1 k)

filtered : {X : Type 0} (P : X → Type 0) (test : X → Bool) (xs : List X) → AllByRecursion P xs → AllByRecursion P (filter test xs)
filtered P test [] h = tt
filtered P test (x ∷ xs) h = at (test x) (filtered P test xs h.1)
  where
    at : (b : Bool) → AllByRecursion P (filter test xs) → AllByRecursion P (cond b (x ∷ filter test xs) (filter test xs))
    at true later = (h.0, later)
    at false later = later

pub record IsHeld (h : HeldFrame) : Type 0 where
  pub place : IsPlace h.place
  pub octets : IsBytes h.octets

abbrev pub AreHeld : List HeldFrame → Type 0
AreHeld hs = AllByRecursion IsHeld hs

abbrev pub IsShown : Shown → Type 0
IsShown (shown.Gap g) = IsPlace g.place
IsShown (shown.Accepted h) = IsHeld h
IsShown (shown.Lost s count to) = Unit {0}
IsShown (shown.Refused count) = Unit {0}

abbrev pub AreShown : List Shown → Type 0
AreShown xs = AllByRecursion IsShown xs

abbrev pub both_shown : (xs ys : List Shown) → AreShown xs → AreShown ys → AreShown (xs ++ ys)
both_shown = both IsShown

pub record IsStep (s : Step) : Type 0 where
  pub held : AreHeld s.after.held
  pub shown : AreShown s.shown

pub record IsRead (r : Read) : Type 0 where
  pub held : AreHeld r.after.held
  pub shown : AreShown r.shown

-- ---- what is shown

pub gap_shown : (b : Bool) (since : ℕ) (p : Place) → IsPlace p → AreShown (gap_if b since p)
gap_shown true since p h = (h, tt)
gap_shown false since p h = tt

count_are_shown : (n : ℕ) → AreShown (count_shown n)
count_are_shown n = at (nat_lt 0 n)
  where
    at : (b : Bool) → AreShown (if b then shown.Refused n ∷ [] else [])
    at true = (tt, tt)
    at false = tt

pub held_are_shown : (r : Receiver) → AreShown (held_shown r)
held_are_shown r = count_are_shown (length r.held)

lost_shown : (s : Side) (count to : ℕ) → AreShown (lost_if s count to)
lost_shown s count to = at (nat_lt 0 count)
  where
    at : (b : Bool) → AreShown (if b then shown.Lost s count to ∷ [] else [])
    at true = (tt, tt)
    at false = tt

each_held : (hs : List HeldFrame) → AreHeld hs → AllByRecursion (OfHeld IsShown) hs
each_held [] h = tt
each_held (f ∷ hs) h = ((h.0, λ since. h.0.place), each_held hs h.1)

passed_over_held : (m : Modulus) (from to : ℕ) (r : Receiver) (hs : List HeldFrame) → AreHeld hs → AreHeld (passed_over m (way_of from to r) hs)
passed_over_held m from to r [] h = tt
passed_over_held m from to r (f ∷ hs) h = at (is_passed m (way_of from to r) f) (passed_over_held m from to r hs h.1)
  where
    at : (b : Bool) → AreHeld (passed_over m (way_of from to r) hs) → AreHeld (if b then passed_over m (way_of from to r) hs else f ∷ hs)
    at true later = later
    at false later = h

placed_held : (m : Modulus) (next : ℕ) (f : HeldFrame) (hs : List HeldFrame) → IsHeld f → AreHeld hs → AreHeld (placed m next f hs)
placed_held m next f [] new h = (new, tt)
placed_held m next f (x ∷ hs) new h = at (nat_le (ahead m next x.send) (ahead m next f.send)) (placed_held m next f hs new h.1)
  where
    at : (b : Bool) → AreHeld (placed m next f hs) → AreHeld (if b then x ∷ placed m next f hs else f ∷ x ∷ hs)
    at true later = (h.0, later)
    at false later = (new, h)

-- ---- N(R)

caught_up_step : (g : Reading) (from to : ℕ) (r : Receiver) → IsPlace g.place → AreHeld r.held → IsStep (caught_up g from to r)
caught_up_step g from to r place h =
    let w = way_of from to r in
    let p = progress_of g from r in
    let count = ahead g.modulus from to - (length r.held - length (passed_over g.modulus w r.held)) in
    record {
      held = passed_over_held g.modulus from to r r.held h;
      shown = both_shown (given g w p r.held) (lost_if g.side count to) (given_all IsShown g w p r.held (λ since. place) (each_held r.held h)) (lost_shown g.side count to);
    }

first_are_shown : (g : Reading) (receive since : ℕ) (o : Option ℕ) → IsPlace g.place → AreShown (first_shown g receive since o)
first_are_shown g receive since None place = tt
first_are_shown g receive since (Some a) place = at (a == receive)
  where
    at : (b : Bool) → AreShown (if b then [] else shown.Gap (record { since = since; place = g.place }) ∷ shown.Lost g.side (ahead g.modulus a receive) receive ∷ [])
    at true = tt
    at false = (place, (tt, tt))

known_step : (g : Reading) (proves : Bool) (receive next : ℕ) (r : Receiver) → IsPlace g.place → AreHeld r.held → IsStep (known_acknowledged g proves receive next r)
known_step g proves receive next r place h = at (is_inside g.modulus receive next r) (proves && is_beyond g.modulus receive r)
  where
    at : (inside beyond : Bool) → IsStep (if inside then record { after = record r { acknowledged = Some receive }; shown = [] } else if beyond then caught_up g next receive r else record { after = r; shown = [] })
    at true beyond = record { held = h; shown = tt }
    at false true = caught_up_step g next receive r place h
    at false false = record { held = h; shown = tt }

acknowledged_step : (g : Reading) (proves : Bool) (receive : ℕ) (r : Receiver) → IsPlace g.place → AreHeld r.held → IsStep (acknowledged g proves receive r)
acknowledged_step g proves receive r place h = at r.next
  where
    at : (o : Option ℕ) → IsStep (elim o as (λ _. Step) [ None ↦ first_acknowledged g receive r | Some next ↦ known_acknowledged g proves receive next r ])
    at None = record { held = h; shown = first_are_shown g receive r.since r.acknowledged place }
    at (Some next) = known_step g proves receive next r place h

refused_step : (receive : ℕ) (r : Receiver) → AreHeld r.held → IsStep (refused receive r)
refused_step receive r h = at (is_number r.next receive)
  where
    at : (b : Bool) → IsStep (if b then record { after = record r { held = []; doubtful = false; rejects = true }; shown = held_shown r } else record { after = r; shown = [] })
    at true = record { held = tt; shown = held_are_shown r }
    at false = record { held = h; shown = tt }

rejected_step : (g : Reading) (proves : Bool) (receive : ℕ) (r : Receiver) → IsPlace g.place → AreHeld r.held → IsStep (rejected g proves receive r)
rejected_step g proves receive r place h = at r.acknowledged
  where
    s : IsStep (refused receive r)
    s = refused_step receive r h

    t : IsStep (acknowledged g proves receive (refused receive r).after)
    t = acknowledged_step g proves receive (refused receive r).after place s.held

    at : (o : Option ℕ) → IsStep (elim o as (λ _. Step) [
      | None ↦ record { after = record r { acknowledged = Some receive }; shown = [] }
      | Some _ ↦ record { after = (acknowledged g proves receive (refused receive r).after).after; shown = (refused receive r).shown ++ (acknowledged g proves receive (refused receive r).after).shown }
    ])
    at None = record { held = h; shown = tt }
    at (Some a) = record { held = t.held; shown = both_shown (refused receive r).shown (acknowledged g proves receive (refused receive r).after).shown s.shown t.shown }

pub supervised_step : (g : Reading) (c : SupervisoryField) (proves : Bool) (r : Receiver) → IsPlace g.place → AreHeld r.held → IsStep (supervised g c proves r)
supervised_step g c proves r place h = at c.kind
  where
    at : (k : Supervisory) → IsStep (supervised_by k g proves c.receive r)
    at supervisory.Rej = rejected_step g proves c.receive r place h
    at supervisory.Srej = acknowledged_step g proves c.receive r place h
    at supervisory.Rr = acknowledged_step g proves c.receive r place h
    at supervisory.Rnr = acknowledged_step g proves c.receive r place h

-- ---- I frames

pub record IsIFrame (f : IFrame) : Type 0 where
  pub place : IsPlace f.place
  pub octets : IsBytes f.octets

accepted_read : (g : Reading) (f : IFrame) (r : Receiver) → IsIFrame f → AreHeld r.held → IsRead (accepted g f r)
accepted_read g f r new h =
    let is_gap = nat_lt 0 (length r.held) in
    let refused = length r.held - length (filter (is_kept f.send true false) r.held) in
    record {
      held = filtered IsHeld (is_kept f.send true false) r.held h;
      shown = both_shown (gap_if is_gap r.since f.place) (count_shown refused) (gap_shown is_gap r.since f.place new.place) (count_are_shown refused);
    }

expected_read : (g : Reading) (next : ℕ) (f : IFrame) (r : Receiver) → IsIFrame f → AreHeld r.held → IsRead (expected g next f r)
expected_read g next f r new h = at (f.send == next)
  where
    at : (b : Bool) → IsRead (if b then accepted g f r else record { after = record r { doubtful = r.doubtful || is_late g.modulus next f.send r.held; held = placed g.modulus next (held_of g r.rejects f) r.held; recent = slice_set r.recent f.send (recent_of f) }; shown = []; fate = fate.Held })
    at true = accepted_read g f r new h
    at false = record { held = placed_held g.modulus next (held_of g r.rejects f) r.held (record { place = new.place; octets = new.octets }) h; shown = tt }

behind_read : (xs : List Shown) (r : Read) → AreShown xs → IsRead r → IsRead (behind xs r)
behind_read xs r h k = record { held = k.held; shown = both_shown xs r.shown h k.shown }

new_read : (g : Reading) (next : ℕ) (f : IFrame) (r : Receiver) → IsPlace g.place → IsIFrame f → AreHeld r.held → IsRead (new_frame g next f r)
new_read g next f r place new h = at (after g.modulus f.send 1 == next)
  where
    at : (b : Bool) → IsRead (if b then reached g next f r else expected g next f (widened g.modulus next f.send r))
    at true =
        let to = run_from g.modulus (after g.modulus next 1) r.held in
        let s = caught_up_step g next to r place h in
        behind_read (caught_up g next to r).shown (expected g to f (caught_up g next to r).after) s.shown (expected_read g to f (caught_up g next to r).after new s.held)
    at false = expected_read g next f (widened g.modulus next f.send r) new h

all_passed_step : (g : Reading) (next send : ℕ) (r : Receiver) → IsPlace g.place → AreHeld r.held → IsStep (all_passed g next send r)
all_passed_step g next send r place h = at (not (is_held send r.held))
  where
    s : Step
    s = caught_up g next (after g.modulus send 1) r

    t : Step
    t = caught_up g (after g.modulus send 1) send s.after

    at : (b : Bool) → IsStep (if b then caught_up g next send r else record { after = t.after; shown = s.shown ++ t.shown })
    at true = caught_up_step g next send r place h
    at false =
        let first = caught_up_step g next (after g.modulus send 1) r place h in
        let second = caught_up_step g (after g.modulus send 1) send s.after place first.held in
        record { held = second.held; shown = both_shown s.shown t.shown first.shown second.shown }

-- a frame that is new, one that was accepted before, or one whose number was accepted before
known_read : (g : Reading) (next : ℕ) (f : IFrame) (r : Receiver) → IsPlace g.place → IsIFrame f → AreHeld r.held → IsRead (known_informed g next f r (recall_of g.modulus next f r))
known_read g next f r place new h = at ((f.send == next) || (not (is_held f.send r.held) && not (is_repeated_number g.modulus next f.send r))) (is_repeated r.set_up f r.recent) refl refl
  where
    s : IsStep (all_passed g next f.send r)
    s = all_passed_step g next f.send r place h

    at : (is_new again : Bool) → ((f.send == next) || (not (is_held f.send r.held) && not (is_repeated_number g.modulus next f.send r))) ≡ is_new → is_repeated r.set_up f r.recent ≡ again
        → IsRead (known_informed g next f r (recall_of g.modulus next f r))
    at true again e k = rw e (new_read g next f r place new h)
    at false true e k = rw (e, k) (record { held = h; shown = tt })
    at false false e k = rw (e, k) (behind_read (all_passed g next f.send r).shown (accepted g f (all_passed g next f.send r).after) s.shown (accepted_read g f (all_passed g next f.send r).after new s.held))

freed_step : (next : ℕ) (f : IFrame) (r : Receiver) → AreHeld r.held → IsStep (freed next f r)
freed_step next f r h =
    let test = is_kept f.send (is_held f.send r.held && is_repeated r.set_up f r.recent) (r.rejects && (f.send == next)) in
    record { held = filtered IsHeld test r.held h; shown = count_are_shown (length r.held - length (filter test r.held)) }

pub informed_read : (g : Reading) (f : IFrame) (r : Receiver) → IsPlace g.place → IsIFrame f → AreHeld r.held → IsRead (informed g f r)
informed_read g f r place new h = at r.next
  where
    known : (next : ℕ) → Read
    known next = known_informed g next f (freed next f r).after (recall_of g.modulus next f (freed next f r).after)

    at : (o : Option ℕ) → IsRead (elim o as (λ _. Read) [ None ↦ accepted g f r | Some next ↦ behind (freed next f r).shown (known next) ])
    at None = accepted_read g f r new h
    at (Some next) =
        let s = freed_step next f r h in
        behind_read (freed next f r).shown (known next) s.shown (known_read g next f (freed next f r).after place new s.held)
