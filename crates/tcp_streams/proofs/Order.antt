-- Pieces that wait stay in order.
use Rattle.std.proofs.Common.{◌≡◌, inl, inr, sym, subst, ℕ, ◌+◌, ◌-◌, ◌<◌, ◌≤◌, max, min, Bool, true, false, List, [], ◌∷◌, ◌++◌, length, take, drop, arith}
use Rattle.std.proofs.lemmas.Bool.{cases_lt}
use Rattle.std.proofs.lemmas.List.{length-take, length-drop}
use Rattle.tcp_streams.specs.Numbers.{fin_numbers}
use Rattle.tcp_streams.specs.Pieces.{after, before, inserted, some_of}
use Rattle.tcp_streams.specs.Tiles.{AreOrdered, IsPlaced}
use Rattle.tcp_streams.specs.declared.piece.Piece.{Piece}
use Rattle.tcp_streams.proofs.Copies.{inserted_under, none_there, some_there}
use Rattle.tcp_streams.proofs.Passing.{inserted_over}

-- the octets of a piece lie at its places
abbrev pub Fits : Piece → Type 0
Fits p = p.at < p.until → p.at + length p.octets + fin_numbers p.is_end ≤ p.until

fin_below : (b : Bool) → fin_numbers b ≤ 1
fin_below true = omega arith
fin_below false = omega arith

fits_before : (place : ℕ) (s : Piece) → Fits (before place s)
fits_before place s h = let e : length (take (place - s.at) s.octets) ≡ min (place - s.at) (length s.octets) = length-take (place - s.at) s.octets in omega (arith, e, h)

pub fits_after : (place : ℕ) (s : Piece) → Fits s → Fits (after place s)
fits_after place s f h =
    let e : length (drop (place - s.at) s.octets) ≡ length s.octets - (place - s.at) = length-drop (place - s.at) s.octets in
    let b = fin_below s.is_end in
    let k : max s.at place < s.until = h in
    let g = f (omega (arith, k)) in omega (arith, e, b, k, g)

-- a piece with a place, before others
ordered_some : (n : ℕ) (s p : Piece) (ps : List Piece) → n ≤ s.at → Fits s → s.until ≤ p.at → IsPlaced n p → AreOrdered p.until ps → AreOrdered n (some_of s ++ p ∷ ps)
ordered_some n s p ps h f k placed o = elim (cases_lt s.at s.until) [
  | inl some ↦ (let P : List Piece → Type 0 = λ l. AreOrdered n (l ++ p ∷ ps) in
      subst P (sym (some_there s some)) (record { begins = h; some = some; octets = f some }, (record { begins = k; some = placed.some; octets = placed.octets }, o)))
  | inr none ↦ (let P : List Piece → Type 0 = λ l. AreOrdered n (l ++ p ∷ ps) in subst P (sym (none_there s none)) (placed, o))
]

ordered_one : (n : ℕ) (s : Piece) → n ≤ s.at → Fits s → AreOrdered n (some_of s)
ordered_one n s h f = elim (cases_lt s.at s.until) [
  | inl some ↦ (let P : List Piece → Type 0 = λ l. AreOrdered n l in subst P (sym (some_there s some)) (record { begins = h; some = some; octets = f some }, tt))
  | inr none ↦ (let P : List Piece → Type 0 = λ l. AreOrdered n l in subst P (sym (none_there s none)) tt)
]

pub inserted_ordered : (n : ℕ) (s : Piece) (ps : List Piece) → n ≤ s.at → Fits s → AreOrdered n ps → AreOrdered n (inserted s ps)
inserted_ordered n s [] h f o = ordered_one n s h f
inserted_ordered n s (p ∷ ps) h f o = let P : List Piece → Type 0 = λ l. AreOrdered n l in elim (cases_lt p.at s.until) [
  | inl over ↦ subst P (sym (inserted_over s p ps over))
      (ordered_some n (before p.at s) p (inserted (after p.until s) ps) h (fits_before p.at s) (omega arith) o.0
      (inserted_ordered p.until (after p.until s) ps (omega arith) (fits_after p.until s f) o.1))
  | inr under ↦ subst P (sym (inserted_under s p ps under)) (ordered_some n s p ps h f under o.0 o.1)
]
