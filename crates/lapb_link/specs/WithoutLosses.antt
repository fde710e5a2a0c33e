-- What a receiver does where no frame is missing.
use Rattle.std.specs.Prelude.{◌≡◌, ◌⊎◌, ℕ, ◌==◌, ◌++◌, Bool, true, false, List, [], ◌∷◌, Some}
use Rattle.lapb_link.specs.Numbers.{after}
use Rattle.lapb_link.specs.Frames.{IFrame, is_repeated}
use Rattle.lapb_link.specs.Receiving.{Read, Step, acknowledged, informed, is_inside, is_repeated_number}
use Rattle.lapb_link.specs.declared.frames.Reading.{Reading}
use Rattle.lapb_link.specs.declared.receiver.Fate.{Fate}
use Rattle.lapb_link.specs.declared.receiver.Fate.TheVariants.{Accepted, Repeated}
use Rattle.lapb_link.specs.declared.receiver.Receiver.{Receiver}
use Rattle.lapb_link.specs.declared.receiver.Shown.{Shown}

-- a frame was accepted, and the number after it is the next one
pub record IsAccepted (g : Reading) (f : IFrame) (x : Read) : Type 0 where
  pub fate : x.fate ≡ Accepted
  pub shown : x.shown ≡ []
  pub next : x.after.next ≡ Some (after g.modulus f.send 1)
  pub held : x.after.held ≡ []

-- a frame was left out
pub record IsRepeated (r : Receiver) (x : Read) : Type 0 where
  pub fate : x.fate ≡ Repeated
  pub shown : x.shown ≡ []
  pub next : x.after.next ≡ r.next
  pub held : x.after.held ≡ []
  pub recent : x.after.recent ≡ r.recent

-- an N(R) acknowledges recorded frames
pub record IsInside (receive : ℕ) (r : Receiver) (x : Step) : Type 0 where
  pub shown : x.shown ≡ []
  pub after : x.after ≡ record r { acknowledged = Some receive }

-- what a recorder sees of a direction: an I frame, or an N(R) of its receiver
pub data Seen : Type 0 where
  Sent : Reading → IFrame → Seen
  Received : Reading → (proves : Bool) → (receive : ℕ) → Seen

abbrev pub after_seen : Seen → Receiver → Receiver
after_seen (Sent g f) r = (informed g f r).after
after_seen (Received g proves receive) r = (acknowledged g proves receive r).after

abbrev pub shown_of : Seen → Receiver → List Shown
shown_of (Sent g f) r = (informed g f r).shown
shown_of (Received g proves receive) r = (acknowledged g proves receive r).shown

abbrev pub frames_if : Fate → Reading → IFrame → List (Reading × IFrame)
frames_if Accepted g f = (g, f) ∷ []
frames_if x g f = []

abbrev pub frames_of : Seen → Receiver → List (Reading × IFrame)
frames_of (Sent g f) r = frames_if (informed g f r).fate g f
frames_of (Received g proves receive) r = []

-- a frame repeats one that was accepted and is not acknowledged, with its packet
pub record Repeats (g : Reading) (f : IFrame) (r : Receiver) : Type 0 where
  pub next : ℕ
  pub known : r.next ≡ Some next
  pub other : (f.send == next) ≡ false
  pub number : is_repeated_number g.modulus next f.send r ≡ true
  pub packet : is_repeated r.set_up f r.recent ≡ true

-- an N(R) is of a frame that was recorded
pub record Acknowledges (g : Reading) (receive : ℕ) (r : Receiver) : Type 0 where
  pub next : ℕ
  pub known : r.next ≡ Some next
  pub inside : is_inside g.modulus receive next r ≡ true

-- no frame is missing: each is the next one or repeats one, and each N(R) is of a frame that was recorded
abbrev pub IsWhole : Seen → Receiver → Type 0
IsWhole (Sent g f) r = (r.next ≡ Some f.send) ⊎ Repeats g f r
IsWhole (Received g proves receive) r = Acknowledges g receive r

abbrev pub AreWhole : List Seen → Receiver → Type 0
AreWhole [] r = Unit {0}
AreWhole (s ∷ ss) r = IsWhole s r × AreWhole ss (after_seen s r)

-- what is shown, and the frames that are accepted
abbrev pub all_shown : List Seen → Receiver → List Shown
all_shown [] r = []
all_shown (s ∷ ss) r = shown_of s r ++ all_shown ss (after_seen s r)

abbrev pub all_frames : List Seen → Receiver → List (Reading × IFrame)
all_frames [] r = []
all_frames (s ∷ ss) r = frames_of s r ++ all_frames ss (after_seen s r)

-- frames have the numbers from one on, each once
abbrev pub AreNumbered : (number : ℕ) → List (Reading × IFrame) → Type 0
AreNumbered n [] = Unit {0}
AreNumbered n (x ∷ xs) = (x.1.send ≡ n) × AreNumbered (after x.0.modulus x.1.send 1) xs
