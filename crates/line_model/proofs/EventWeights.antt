-- Sums over events, by their contents.
use Rattle.std.proofs.Common.{◌≡◌, ℕ, ◌+◌, ◌/◌, ◌≤◌, List, [], ◌∷◌, ◌++◌, length, map, refl, ap, arith}
use Rattle.std.specs.Prelude.{sum, sum_by}
use Rattle.std.proofs.lemmas.List.Sums.{sum_by-cons}
use Rattle.line_model.specs.declared.state.Side.TheVariants.{T, N}
use Rattle.line_model.specs.declared.event.What.{What}
use Rattle.line_model.specs.declared.event.What.TheVariants.{Found, Data}
use Rattle.line_model.specs.declared.event.Event.{Event}
use Rattle.line_model.specs.observer.MachineEvents.{RowEvent}
use Rattle.line_model.specs.observer.Observer.{event_by}
use Rattle.line_model.specs.observer.Calls.{lengths_from, all_lengths, segments_of}
use Rattle.line_model.specs.observer.Report.{findings_of}

abbrev pub total : {X : Type 0} → (X → ℕ) → List X → ℕ
total f [] = 0
total f (x ∷ xs) = f x + total f xs

pub total-append : {X : Type 0} (f : X → ℕ) (xs ys : List X) → total f (xs ++ ys) ≡ total f xs + total f ys
total-append f [] ys = omega arith
total-append f (x ∷ xs) ys = let more = total-append f xs ys in omega arith

pub total-sum_by : {X : Type 0} (f : X → ℕ) (xs : List X) → sum_by f xs ≡ total f xs
total-sum_by f [] = refl
total-sum_by f (x ∷ xs) = omega (arith, sum_by-cons f x xs, total-sum_by f xs)

-- a finding weighs a, a data packet what its octets do, and calls and settings nothing
abbrev pub weighing : ℕ → (ℕ → ℕ) → What → ℕ
weighing a f (Found x s c) = a
weighing a f (Data x n) = f n
weighing a f w = 0

-- findings alone, each by one; and data packets alone, by their octets
abbrev pub found_by : What → ℕ
found_by w = weighing 1 (λ n. 0) w

abbrev pub accepted_by : (ℕ → ℕ) → What → ℕ
accepted_by q w = weighing 0 q w

abbrev pub octets_by : ℕ → ℕ
octets_by n = n

abbrev pub segments_by : ℕ → ℕ
segments_by n = (n + 63) / 64

-- the weight of events
abbrev pub weight : (What → ℕ) → List Event → ℕ
weight f es = total (λ e. f e.what) es

-- events of rows, and as they are reported
pub row_weight : {X : Type 0} → (number : X → ℕ) (f : What → ℕ) (vs : List (RowEvent X What)) → weight f (map (event_by number) vs) ≡ total (λ v. f v.what) vs
row_weight number f [] = refl
row_weight number f (v ∷ vs) = ap (λ n. f v.what + n) (row_weight number f vs)

pub findings_weight : (es : List Event) → length (findings_of es) ≡ weight found_by es
findings_weight [] = refl
findings_weight (e ∷ es) = at e.what (findings_weight es)
  where
    at : (w : What) → length (findings_of es) ≡ weight found_by es
        → length (findings_of (record { epoch = e.epoch; channel = e.channel; packet = e.packet; what = w } ∷ es)) ≡ found_by w + weight found_by es
    at (Found x s c) h = omega arith
    at w h = omega arith

pub packets_weight : (es : List Event) → length (all_lengths es) ≡ weight (accepted_by (λ n. 1)) es
packets_weight [] = refl
packets_weight (e ∷ es) = at e.what (packets_weight es)
  where
    at : (w : What) → length (all_lengths es) ≡ weight (accepted_by (λ n. 1)) es
        → length (all_lengths (record { epoch = e.epoch; channel = e.channel; packet = e.packet; what = w } ∷ es)) ≡ accepted_by (λ n. 1) w + weight (accepted_by (λ n. 1)) es
    at (Data x n) h = omega arith
    at w h = omega arith

pub octets_weight : (es : List Event) → sum (all_lengths es) ≡ weight (accepted_by octets_by) es
octets_weight [] = refl
octets_weight (e ∷ es) = at e.what (octets_weight es)
  where
    at : (w : What) → sum (all_lengths es) ≡ weight (accepted_by octets_by) es
        → sum (all_lengths (record { epoch = e.epoch; channel = e.channel; packet = e.packet; what = w } ∷ es)) ≡ accepted_by octets_by w + weight (accepted_by octets_by) es
    at (Data x n) h = omega (arith, sum_by-cons (λ (k : ℕ). k) n (all_lengths es))
    at w h = omega arith

pub segments_weight : (es : List Event) → segments_of (all_lengths es) ≡ weight (accepted_by segments_by) es
segments_weight [] = refl
segments_weight (e ∷ es) = at e.what (segments_weight es)
  where
    at : (w : What) → segments_of (all_lengths es) ≡ weight (accepted_by segments_by) es
        → segments_of (all_lengths (record { epoch = e.epoch; channel = e.channel; packet = e.packet; what = w } ∷ es)) ≡ accepted_by segments_by w + weight (accepted_by segments_by) es
    at (Data x n) h = omega (arith, sum_by-cons (λ (k : ℕ). k) ((n + 63) / 64) (map (λ k. (k + 63) / 64) (all_lengths es)))
    at w h = omega arith

pub sides_weight : (es : List Event) → sum (lengths_from T es) + sum (lengths_from N es) ≡ weight (accepted_by octets_by) es
sides_weight [] = refl
sides_weight (e ∷ es) = at e.what (sides_weight es)
  where
    at : (w : What) → sum (lengths_from T es) + sum (lengths_from N es) ≡ weight (accepted_by octets_by) es
        → sum (lengths_from T (record { epoch = e.epoch; channel = e.channel; packet = e.packet; what = w } ∷ es)) + sum (lengths_from N (record { epoch = e.epoch; channel = e.channel; packet = e.packet; what = w } ∷ es))
        ≡ accepted_by octets_by w + weight (accepted_by octets_by) es
    at (Data T n) h = omega (arith, sum_by-cons (λ (k : ℕ). k) n (lengths_from T es))
    at (Data N n) h = omega (arith, sum_by-cons (λ (k : ℕ). k) n (lengths_from N es))
    at w h = omega arith

-- a segment has an octet at least
pub fewer_segments : (es : List Event) → weight (accepted_by segments_by) es ≤ weight (accepted_by octets_by) es
fewer_segments [] = omega arith
fewer_segments (e ∷ es) = at e.what (fewer_segments es)
  where
    at : (w : What) → weight (accepted_by segments_by) es ≤ weight (accepted_by octets_by) es → accepted_by segments_by w + weight (accepted_by segments_by) es ≤ accepted_by octets_by w + weight (accepted_by octets_by) es
    at (Data x n) h = omega arith
    at w h = omega arith
