-- The receiver of one direction (X.25 clause 2.4), as far as the recorded frames show it.
use Rattle.std.specs.Prelude.{ℕ, ◌+◌, ◌-◌, ◌/◌, ◌==◌, ◌&&◌, ◌||◌, nat_lt, nat_le, Bool, true, false, not, List, [], ◌∷◌, ◌++◌, filter, length, slice_set, Option, Some, None, is_some, if◌then◌else◌}
use Rattle.line_model.specs.declared.state.Side.{Side}
use Rattle.lapb_link.specs.Numbers.{after, ahead, before, size}
use Rattle.lapb_link.specs.Frames.{IFrame, held_of, is_held, is_kept, is_late, is_repeated, no_frames, placed, recent_of, run_from}
use Rattle.lapb_link.specs.declared.modulus.Modulus.{Modulus}
use Rattle.lapb_link.specs.declared.frames.Place.{Place}
use Rattle.lapb_link.specs.declared.frames.HeldFrame.{HeldFrame}
use Rattle.lapb_link.specs.declared.control.Supervisory.{Supervisory}
use Rattle.lapb_link.specs.declared.control.Supervisory.TheVariants as supervisory
use Rattle.lapb_link.specs.declared.control.SupervisoryField.{SupervisoryField}
use Rattle.lapb_link.specs.declared.receiver.Shown.{Shown}
use Rattle.lapb_link.specs.declared.receiver.Shown.TheVariants as shown
use Rattle.lapb_link.specs.declared.receiver.Fate.{Fate}
use Rattle.lapb_link.specs.declared.receiver.Fate.TheVariants as fate
use Rattle.lapb_link.specs.declared.receiver.Recall.{Recall}
use Rattle.lapb_link.specs.declared.receiver.Recall.TheVariants as recall
use Rattle.lapb_link.specs.declared.frames.Reading.{Reading}
use Rattle.lapb_link.specs.declared.receiver.Receiver.{Receiver}
use Rattle.lapb_link.specs.declared.receiver.Way.{Way}
use Rattle.lapb_link.specs.declared.receiver.Progress.{Progress}

-- what a frame does: the receiver after it, and what it shows of frames before it
pub record Step : Type 0 where
  pub after : Receiver
  pub shown : List Shown

-- the same of an I frame, and what becomes of it
pub record Read : Type 0 where
  pub after : Receiver
  pub shown : List Shown
  pub fate : Fate

abbrev pub behind : List Shown → Read → Read
behind xs r = record r { shown = xs ++ r.shown }

abbrev pub unknown : Receiver
unknown = record { next = None; acknowledged = None; set_up = false; doubtful = false; rejects = false; since = 0; held = []; recent = no_frames }

abbrev pub gap_if : Bool → (since : ℕ) → Place → List Shown
gap_if b since place = if b then shown.Gap (record { since = since; place = place }) ∷ [] else []

-- held frames whose numbers a way passes were accepted: each is given out, behind a gap where numbers before it are missing
abbrev pub is_passed : Modulus → Way → HeldFrame → Bool
is_passed m w h = nat_lt (ahead m w.from h.send) (ahead m w.from w.to)

abbrev pub ends_here : Modulus → Way → List HeldFrame → Bool
ends_here m w [] = true
ends_here m w (h ∷ hs) = not (is_passed m w h)

abbrev pub is_gap_before : Progress → HeldFrame → Bool
is_gap_before p h = p.doubtful || not (h.send == p.next) || nat_lt p.last_gap h.last_gap

-- where the place of held frames is uncertain, whatever is missing was sent after the frame before all of them
abbrev pub past : Modulus → Way → Progress → HeldFrame → Progress
past m w p h = record { since = if w.doubtful then p.since else h.place.frame; next = after m h.send 1; doubtful = false; last_gap = h.last_gap }

abbrev pub passing : Modulus → Way → Progress → List HeldFrame → Progress
passing m w p [] = p
passing m w p (h ∷ hs) = if is_passed m w h then passing m w (past m w p h) hs else p

abbrev pub given : Reading → Way → Progress → List HeldFrame → List Shown
given g w p [] = gap_if (w.doubtful || not (p.next == w.to)) p.since g.place
given g w p (h ∷ hs) = if is_passed g.modulus w h then gap_if (is_gap_before p h) p.since h.place ++ shown.Accepted h ∷ given g w (past g.modulus w p h) hs
    else gap_if (w.doubtful || not (p.next == w.to)) p.since g.place

abbrev pub passed_over : Modulus → Way → List HeldFrame → List HeldFrame
passed_over m w [] = []
passed_over m w (h ∷ hs) = if is_passed m w h then passed_over m w hs else h ∷ hs

-- frames before a number were accepted; those that are not held were not recorded
abbrev pub lost_if : Side → (count to : ℕ) → List Shown
lost_if side count to = if nat_lt 0 count then shown.Lost side count to ∷ [] else []

abbrev pub way_of : (from to : ℕ) → Receiver → Way
way_of from to r = record { from = from; to = to; doubtful = r.doubtful }

abbrev pub progress_of : Reading → ℕ → Receiver → Progress
progress_of g from r = record { since = r.since; next = from; doubtful = r.doubtful; last_gap = g.last_gap }

-- what is missing was sent after the last frame before those that are held
abbrev pub since_if : List HeldFrame → (held settled : ℕ) → ℕ
since_if hs held settled = if nat_lt 0 (length hs) then held else settled

abbrev pub caught_up : Reading → (from to : ℕ) → Receiver → Step
caught_up g from to r =
    let rest = passed_over g.modulus (way_of from to r) r.held in
    record {
      after = record r { next = Some to; acknowledged = Some to; since = since_if rest (passing g.modulus (way_of from to r) (progress_of g from r) r.held).since g.place.frame; doubtful = r.doubtful && nat_lt 0 (length rest); held = rest };
      shown = given g (way_of from to r) (progress_of g from r) r.held ++ lost_if g.side (ahead g.modulus from to - (length r.held - length rest)) to;
    }

-- an N(R): inside the frames that were recorded, or beyond them
abbrev pub is_inside : Modulus → (receive next : ℕ) → Receiver → Bool
is_inside m receive next r = elim r.acknowledged [
  | Some a ↦ nat_le (ahead m a receive) (ahead m a next)
  | None ↦ not (is_held (before m receive) r.held) && nat_le (ahead m receive next) (size m / 2)
]

abbrev pub is_beyond : Modulus → ℕ → Receiver → Bool
is_beyond m receive r = is_some r.acknowledged || is_held (before m receive) r.held

abbrev pub first_shown : Reading → ℕ → ℕ → Option ℕ → List Shown
first_shown g receive since None = []
first_shown g receive since (Some a) = if a == receive then [] else shown.Gap (record { since = since; place = g.place }) ∷ shown.Lost g.side (ahead g.modulus a receive) receive ∷ []

abbrev pub first_acknowledged : Reading → ℕ → Receiver → Step
first_acknowledged g receive r = record { after = record r { acknowledged = Some receive; since = g.place.frame }; shown = first_shown g receive r.since r.acknowledged }

abbrev pub known_acknowledged : Reading → Bool → (receive next : ℕ) → Receiver → Step
known_acknowledged g proves receive next r = if is_inside g.modulus receive next r then record { after = record r { acknowledged = Some receive }; shown = [] }
    else if proves && is_beyond g.modulus receive r then caught_up g next receive r else record { after = r; shown = [] }

abbrev pub acknowledged : Reading → Bool → ℕ → Receiver → Step
acknowledged g proves receive r = elim r.next [
  | None ↦ first_acknowledged g receive r
  | Some next ↦ known_acknowledged g proves receive next r
]

abbrev pub count_shown : ℕ → List Shown
count_shown n = if nat_lt 0 n then shown.Refused n ∷ [] else []

-- a frame is accepted: what is held then may be of numbers that all have passed, and its own number is no longer waited for
abbrev pub accepted : Reading → IFrame → Receiver → Read
accepted g f r =
    let is_gap = nat_lt 0 (length r.held) in
    let kept = filter (is_kept f.send true false) r.held in
    record {
      after = record r { next = Some (after g.modulus f.send 1); doubtful = r.doubtful || is_gap; since = since_if kept r.since f.place.frame; held = kept; recent = slice_set r.recent f.send (recent_of f) };
      shown = gap_if is_gap r.since f.place ++ count_shown (length r.held - length kept);
      fate = fate.Accepted;
    }

-- a number that was accepted: it is not acknowledged, or just before those, where no window reaches
abbrev pub is_repeated_number : Modulus → (next send : ℕ) → Receiver → Bool
is_repeated_number m next send r = elim r.acknowledged [
  | Some a ↦ nat_lt (ahead m a send) (ahead m a next) || not (is_held (before m send) r.held) && ahead m a send == size m - 1
  | None ↦ not (is_held (before m send) r.held) && nat_le (ahead m send next) (size m / 2)
]

abbrev pub recall_of : Modulus → (next : ℕ) → IFrame → Receiver → Recall
recall_of m next f r = if f.send == next || (not (is_held f.send r.held) && not (is_repeated_number m next f.send r)) then recall.New
    else if is_repeated r.set_up f r.recent then recall.Same else recall.Other

-- all numbers have passed
abbrev pub all_passed : Reading → (next send : ℕ) → Receiver → Step
all_passed g next send r = if not (is_held send r.held) then caught_up g next send r
    else let s = caught_up g next (after g.modulus send 1) r in
    let t = caught_up g (after g.modulus send 1) send s.after in
    record { after = t.after; shown = s.shown ++ t.shown }

-- the sender had an N(R) that lets a window reach the number
abbrev pub widened : Modulus → (next send : ℕ) → Receiver → Receiver
widened m next send r = record r {
  acknowledged = elim r.acknowledged [
    | Some a ↦ if nat_lt (size m) (ahead m next send + 2 + ahead m a next) then Some (after m send 2) else Some a
    | None ↦ None
  ];
}

-- the frame with the next number is accepted, and another is held
abbrev pub expected : Reading → (next : ℕ) → IFrame → Receiver → Read
expected g next f r = if f.send == next then accepted g f r
    else record { after = record r { doubtful = r.doubtful || is_late g.modulus next f.send r.held; held = placed g.modulus next (held_of g r.rejects f) r.held; recent = slice_set r.recent f.send (recent_of f) }; shown = []; fate = fate.Held }

-- no window reaches all numbers, so the frame before the next one shows that the next one was accepted
abbrev pub reached : Reading → (next : ℕ) → IFrame → Receiver → Read
reached g next f r =
    let to = run_from g.modulus (after g.modulus next 1) r.held in
    let s = caught_up g next to r in behind s.shown (expected g to f s.after)

abbrev pub new_frame : Reading → (next : ℕ) → IFrame → Receiver → Read
new_frame g next f r = if after g.modulus f.send 1 == next then reached g next f r else expected g next f (widened g.modulus next f.send r)

-- held frames that were refused, as a frame shows that comes
abbrev pub freed : (next : ℕ) → IFrame → Receiver → Step
freed next f r =
    let comes = f.send == next in
    let kept = filter (is_kept f.send (is_held f.send r.held && is_repeated r.set_up f r.recent) (r.rejects && comes)) r.held in
    record {
      after = record r { held = kept; rejects = r.rejects && not comes; doubtful = r.doubtful && nat_lt 0 (length kept) };
      shown = count_shown (length r.held - length kept);
    }

-- an I frame
abbrev pub known_informed : Reading → (next : ℕ) → IFrame → Receiver → Recall → Read
known_informed g next f r recall.New = new_frame g next f r
known_informed g next f r recall.Same = record { after = r; shown = []; fate = fate.Repeated }
known_informed g next f r recall.Other = let s = all_passed g next f.send r in behind s.shown (accepted g f s.after)

abbrev pub informed : Reading → IFrame → Receiver → Read
informed g f r = elim r.next [
  | None ↦ accepted g f r
  | Some next ↦ let s = freed next f r in behind s.shown (known_informed g next f s.after (recall_of g.modulus next f s.after))
]

abbrev pub is_holding : Receiver → Bool
is_holding r = nat_lt 0 (length r.held)

abbrev pub held_shown : Receiver → List Shown
held_shown r = count_shown (length r.held)

-- a REJ: the held frames were refused
abbrev pub is_number : Option ℕ → ℕ → Bool
is_number None n = false
is_number (Some k) n = k == n

abbrev pub refused : ℕ → Receiver → Step
refused receive r = if is_number r.next receive then record { after = record r { held = []; doubtful = false; rejects = true }; shown = held_shown r }
    else record { after = r; shown = [] }

abbrev pub rejected : Reading → Bool → ℕ → Receiver → Step
rejected g proves receive r = elim r.acknowledged [
  | None ↦ record { after = record r { acknowledged = Some receive }; shown = [] }
  | Some _ ↦ let s = refused receive r in let t = acknowledged g proves receive s.after in record { after = t.after; shown = s.shown ++ t.shown }
]

-- a SABM, SABME or UA: the numbers begin anew
abbrev pub set_up_again : Reading → Receiver → Step
set_up_again g r = record {
  after = record r { next = Some 0; acknowledged = Some 0; set_up = true; doubtful = false; rejects = false; since = g.place.frame; held = []; recent = no_frames };
  shown = held_shown r;
}

-- a supervisory frame, or the N(R) of an I frame
abbrev pub supervised_by : Supervisory → Reading → Bool → ℕ → Receiver → Step
supervised_by supervisory.Rej = rejected
supervised_by k = acknowledged

abbrev pub supervised : Reading → SupervisoryField → Bool → Receiver → Step
supervised g c proves r = supervised_by c.kind g proves c.receive r

-- frames that were read may have been of the other direction
abbrev pub first_number : Bool → Option ℕ
first_number set_up = if set_up then Some 0 else None

abbrev pub forgotten : Receiver → Receiver
forgotten r = record unknown { next = first_number r.set_up; acknowledged = first_number r.set_up; set_up = r.set_up; since = r.since }
