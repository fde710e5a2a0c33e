-- What the frames of a capture show of frames before them, for a second reading.
use Rattle.std.specs.Prelude.{◌≡◌, ℕ, ◌==◌, Bool, List, [], ◌∷◌}
use Rattle.std.specs.List.{flat_map, list_any}
use Rattle.lapb_link.specs.declared.receiver.Shown.{Shown}
use Rattle.lapb_link.specs.declared.receiver.Shown.TheVariants as shown
use Rattle.capture_report.specs.Gaps.{is_in}
use Rattle.capture_report.specs.declared.gaps.LostRange.{LostRange}

-- before which packets others may be missing, by ranges of frames, and which held frames were accepted
pub record Plan : Type 0 where
  pub ranges : List LostRange
  pub accepted : List ℕ

abbrev pub is_doubtful : Plan → (frame : ℕ) → Bool
is_doubtful plan frame = is_in plan.ranges frame

abbrev pub has_frame : (frame : ℕ) → List ℕ → Bool
has_frame frame frames = list_any (λ f. f == frame) frames

abbrev pub is_accepted : Plan → (frame : ℕ) → Bool
is_accepted plan frame = has_frame frame plan.accepted

-- packets were lost after one frame and up to another, so each packet between may be the first one after them
abbrev pub range_of : Shown → List LostRange
range_of (shown.Gap g) = record { since = g.since; to = g.place.frame } ∷ []
range_of x = []

abbrev pub accepted_of : Shown → List ℕ
accepted_of (shown.Accepted h) = h.place.frame ∷ []
accepted_of x = []

abbrev pub plan_of : List Shown → Plan
plan_of xs = record { ranges = flat_map range_of xs; accepted = flat_map accepted_of xs }

-- plans that say the same of each frame
pub record AreSame (plan other : Plan) : Type 0 where
  pub doubtful : (frame : ℕ) → is_doubtful plan frame ≡ is_doubtful other frame
  pub accepted : (frame : ℕ) → is_accepted plan frame ≡ is_accepted other frame
