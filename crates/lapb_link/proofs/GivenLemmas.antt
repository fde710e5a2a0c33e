-- What holds of the held frames and of the frame that is read holds of what is given out.
use Rattle.std.specs.Prelude.{ℕ, ◌==◌, ◌||◌, Bool, true, false, not, List, [], ◌∷◌, ◌++◌, if◌then◌else◌}
use Rattle.std.specs.List.{AllByRecursion}
use Rattle.lapb_link.specs.Receiving.{gap_if, given, is_gap_before, is_passed, past}
use Rattle.lapb_link.specs.declared.frames.HeldFrame.{HeldFrame}
use Rattle.lapb_link.specs.declared.frames.Place.{Place}
use Rattle.lapb_link.specs.declared.frames.Reading.{Reading}
use Rattle.lapb_link.specs.declared.receiver.Progress.{Progress}
use Rattle.lapb_link.specs.declared.receiver.Shown.{Shown}
use Rattle.lapb_link.specs.declared.receiver.Shown.TheVariants as shown
use Rattle.lapb_link.specs.declared.receiver.Way.{Way}

-- what holds of each gap before a place
abbrev pub OfGaps : (Shown → Type 0) → Place → Type 0
OfGaps P place = (since : ℕ) → P (shown.Gap (record { since = since; place = place }))

abbrev pub OfHeld : (Shown → Type 0) → HeldFrame → Type 0
OfHeld P h = P (shown.Accepted h) × OfGaps P h.place

gap_all : (P : Shown → Type 0) (b : Bool) (since : ℕ) (place : Place) → OfGaps P place → AllByRecursion P (gap_if b since place)
gap_all P true since place gap = (gap since, tt)
gap_all P false since place gap = tt

behind_gap : (P : Shown → Type 0) (b : Bool) (since : ℕ) (place : Place) (xs : List Shown) → OfGaps P place → AllByRecursion P xs → AllByRecursion P (gap_if b since place ++ xs)
behind_gap P true since place xs gap rest = (gap since, rest)
behind_gap P false since place xs gap rest = rest

pub given_all : (P : Shown → Type 0) (g : Reading) (w : Way) (p : Progress) (hs : List HeldFrame) → OfGaps P g.place → AllByRecursion (OfHeld P) hs → AllByRecursion P (given g w p hs)
given_all P g w p [] gap held = gap_all P (w.doubtful || not (p.next == w.to)) p.since g.place gap
given_all P g w p (h ∷ hs) gap held = at (is_passed g.modulus w h) (given_all P g w (past g.modulus w p h) hs gap held.1)
  where
    at : (b : Bool) → AllByRecursion P (given g w (past g.modulus w p h) hs)
        → AllByRecursion P (if b then gap_if (is_gap_before p h) p.since h.place ++ shown.Accepted h ∷ given g w (past g.modulus w p h) hs else gap_if (w.doubtful || not (p.next == w.to)) p.since g.place)
    at true rest = behind_gap P (is_gap_before p h) p.since h.place (shown.Accepted h ∷ given g w (past g.modulus w p h) hs) held.0.1 (held.0.0, rest)
    at false rest = gap_all P (w.doubtful || not (p.next == w.to)) p.since g.place gap
