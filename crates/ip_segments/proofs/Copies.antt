-- Pieces have the first copy of each octet.
use Rattle.std.proofs.Common.{◌≡◌, ◌∙◌, inl, inr, refl, sym, ap, subst, ℕ, ◌+◌, ◌-◌, ◌<◌, ◌≤◌, max, min, List, [], ◌∷◌, ◌++◌, length, take, drop, slice_index, Option, Some, None, arith}
use Rattle.std.proofs.lemmas.Bool.{cases_lt}
use Rattle.std.proofs.lemmas.Grind.{common_steps}
use Rattle.std.proofs.lemmas.List.{length-take, length-drop}
use Rattle.ip_segments.specs.FirstCopies.{AreOrdered, copy_at, octet_at, or_later}
use Rattle.ip_segments.specs.Pieces.{after, before, inserted, some_of}
use Rattle.ip_segments.specs.declared.pieces.Piece.{Piece}
use Rattle.ip_segments.proofs.Passing.{inserted_over}

-- a place before a piece, or after it, is none of its places
pub none_below : (q : ℕ) (p : Piece) → q < p.at → octet_at q p ≡ None
none_below q p h = grind (arith, h)

pub none_above : (q : ℕ) (p : Piece) → p.until ≤ q → octet_at q p ≡ None
none_above q p h = grind (arith, h)

pub some_inside : (q : ℕ) (p : Piece) → p.at ≤ q → q < p.until → octet_at q p ≡ Some (slice_index p.octets (q - p.at))
some_inside q p h k = grind (arith, h, k)

-- the parts of a piece have what it has
before_same : (q place : ℕ) (s : Piece) → q < place → place < s.until → octet_at q (before place s) ≡ octet_at q s
before_same q place s h k = grind (arith, common_steps, h, k)

pub after_same : (q place : ℕ) (s : Piece) → place ≤ q → octet_at q (after place s) ≡ octet_at q s
after_same q place s h = grind (arith, common_steps, h)

-- the first copy of three
pub or_none : (m : Option ℕ) → or_later m None ≡ m
or_none None = refl
or_none (Some m) = refl

pub or_assoc : (a b c : Option ℕ) → or_later (or_later a b) c ≡ or_later a (or_later b c)
or_assoc None b c = refl
or_assoc (Some m) b c = refl

copy_append : (q : ℕ) (xs ys : List Piece) → copy_at q (xs ++ ys) ≡ or_later (copy_at q xs) (copy_at q ys)
copy_append q [] ys = refl
copy_append q (x ∷ xs) ys = ap (or_later (octet_at q x)) (copy_append q xs ys) ∙ sym (or_assoc (octet_at q x) (copy_at q xs) (copy_at q ys))

-- a piece that may have no place
some_there : (p : Piece) → p.at < p.until → some_of p ≡ p ∷ []
some_there p h = grind (arith, h)

none_there : (p : Piece) → p.until ≤ p.at → some_of p ≡ []
none_there p h = grind (arith, h)

some_copy : (q : ℕ) (p : Piece) → copy_at q (some_of p) ≡ octet_at q p
some_copy q p = elim (cases_lt p.at p.until) [
  | inl some ↦ ap (copy_at q) (some_there p some) ∙ or_none (octet_at q p)
  | inr none ↦ ap (copy_at q) (none_there p none) ∙ (elim (cases_lt q p.at) [
    | inl below ↦ sym (none_below q p below)
    | inr above ↦ sym (none_above q p (omega (arith, none, above)))
  ])
]

copy_some : (q : ℕ) (p : Piece) (ps : List Piece) → copy_at q (some_of p ++ ps) ≡ or_later (octet_at q p) (copy_at q ps)
copy_some q p ps = copy_append q (some_of p) ps ∙ ap (λ m. or_later m (copy_at q ps)) (some_copy q p)

-- no piece has a place before them
pub none_before : (n q : ℕ) (ps : List Piece) → AreOrdered n ps → q < n → copy_at q ps ≡ None
none_before n q [] o h = refl
none_before n q (p ∷ ps) o h =
    let begins = o.0.begins in
    let some = o.0.some in
    ap (λ m. or_later m (copy_at q ps)) (none_below q p (omega (arith, h, begins)))
    ∙ none_before p.until q ps o.1 (omega (arith, h, begins, some))

-- how a piece is inserted before another one
inserted_under : (s p : Piece) (ps : List Piece) → s.until ≤ p.at → inserted s (p ∷ ps) ≡ some_of s ++ p ∷ ps
inserted_under s p ps h = grind (arith, h)

join_below : (b p c a s : Option ℕ) → b ≡ s → p ≡ None → c ≡ None → a ≡ None → or_later b (or_later p (or_later c a)) ≡ or_later (or_later p c) s
join_below b p c a s e f g h = rw (e, f, g, h) (or_none s)

join_at : (b p c a s : Option ℕ) (m : ℕ) → b ≡ None → p ≡ Some m → or_later b (or_later p (or_later c a)) ≡ or_later (or_later p c) s
join_at b p c a s m e f = rw (e, f) refl

join_above : (b p c a s : Option ℕ) → b ≡ None → p ≡ None → a ≡ s → or_later b (or_later p (or_later c a)) ≡ or_later (or_later p c) s
join_above b p c a s e f g = rw (e, f, g) refl

join_under : (b w : Option ℕ) → b ≡ None → or_later b w ≡ or_later w b
join_under b w e = rw e (sym (or_none w))

join_free : (b w : Option ℕ) → w ≡ None → or_later b w ≡ or_later w b
join_free b w e = rw e (or_none b)

-- what is inserted adds the copies of places that none had
pub inserted_copies : (n q : ℕ) (s : Piece) (ps : List Piece) → AreOrdered n ps → copy_at q (inserted s ps) ≡ or_later (copy_at q ps) (octet_at q s)
inserted_copies n q s [] o = some_copy q s
inserted_copies n q s (p ∷ ps) o = elim (cases_lt p.at s.until) [
  | inl over ↦
      ap (copy_at q) (inserted_over s p ps over) ∙ copy_some q (before p.at s) (p ∷ inserted (after p.until s) ps)
      ∙ ap (λ m. or_later (octet_at q (before p.at s)) (or_later (octet_at q p) m)) (inserted_copies p.until q (after p.until s) ps o.1)
      ∙ (elim (cases_lt q p.at) [
        | inl below ↦ (let some = o.0.some in join_below _ (octet_at q p) (copy_at q ps) _ (octet_at q s) (before_same q p.at s below over) (none_below q p below)
            (none_before p.until q ps o.1 (omega (arith, below, some))) (none_below q (after p.until s) (omega (arith, below, some))))
        | inr from ↦ elim (cases_lt q p.until) [
          | inl within ↦ join_at _ (octet_at q p) (copy_at q ps) _ (octet_at q s) (slice_index p.octets (q - p.at)) (none_above q (before p.at s) from) (some_inside q p from within)
          | inr past ↦ join_above _ (octet_at q p) (copy_at q ps) _ (octet_at q s) (none_above q (before p.at s) from) (none_above q p past) (after_same q p.until s past)
        ]
      ])
  | inr under ↦
      ap (copy_at q) (inserted_under s p ps under) ∙ copy_some q s (p ∷ ps)
      ∙ (elim (cases_lt q p.at) [
        | inl below ↦ (let some = o.0.some in join_free _ _ (none_before p.at q (p ∷ ps) (record { begins = omega arith; some = some; octets = o.0.octets }, o.1) below))
        | inr from ↦ join_under _ _ (none_above q s (omega (arith, under, from)))
      ])
]

-- the octets of a piece lie at its places
abbrev pub Fits : Piece → Type 0
Fits p = p.at < p.until → p.at + length p.octets ≡ p.until

fits_before : (place : ℕ) (s : Piece) → place ≤ s.until → Fits s → Fits (before place s)
fits_before place s k f h = let e : length (take (place - s.at) s.octets) ≡ min (place - s.at) (length s.octets) = length-take (place - s.at) s.octets in
    let below : s.at < place = h in
    let g = f (omega (arith, below, k)) in omega (arith, e, g, k, below)

fits_after : (place : ℕ) (s : Piece) → Fits s → Fits (after place s)
fits_after place s f h =
    let e : length (drop (place - s.at) s.octets) ≡ length s.octets - (place - s.at) = length-drop (place - s.at) s.octets in
    let k : max s.at place < s.until = h in
    let g = f (omega (arith, k)) in omega (arith, e, k, g)

-- a piece with a place, before others
ordered_some : (n : ℕ) (s p : Piece) (ps : List Piece) → n ≤ s.at → Fits s → s.until ≤ p.at → p.at < p.until → n ≤ p.at → p.at + length p.octets ≡ p.until → AreOrdered p.until ps → AreOrdered n (some_of s ++ p ∷ ps)
ordered_some n s p ps h f k placed from sized o = elim (cases_lt s.at s.until) [
  | inl some ↦ (let P : List Piece → Type 0 = λ l. AreOrdered n (l ++ p ∷ ps) in
      subst P (sym (some_there s some)) (record { begins = h; some = some; octets = f some }, (record { begins = k; some = placed; octets = sized }, o)))
  | inr none ↦ (let P : List Piece → Type 0 = λ l. AreOrdered n (l ++ p ∷ ps) in
      subst P (sym (none_there s none)) (record { begins = from; some = placed; octets = sized }, o))
]

ordered_one : (n : ℕ) (s : Piece) → n ≤ s.at → Fits s → AreOrdered n (some_of s)
ordered_one n s h f = elim (cases_lt s.at s.until) [
  | inl some ↦ (let P : List Piece → Type 0 = λ l. AreOrdered n l in subst P (sym (some_there s some)) (record { begins = h; some = some; octets = f some }, tt))
  | inr none ↦ (let P : List Piece → Type 0 = λ l. AreOrdered n l in subst P (sym (none_there s none)) tt)
]

pub inserted_ordered : (n : ℕ) (s : Piece) (ps : List Piece) → n ≤ s.at → Fits s → AreOrdered n ps → AreOrdered n (inserted s ps)
inserted_ordered n s [] h f o = ordered_one n s h f
inserted_ordered n s (p ∷ ps) h f o = let P : List Piece → Type 0 = λ l. AreOrdered n l in elim (cases_lt p.at s.until) [
  | inl over ↦ subst P (sym (inserted_over s p ps over))
      (ordered_some n (before p.at s) p (inserted (after p.until s) ps) h (fits_before p.at s (omega (arith, over)) f) (omega arith) o.0.some o.0.begins o.0.octets
      (inserted_ordered p.until (after p.until s) ps (omega arith) (fits_after p.until s f) o.1))
  | inr under ↦ subst P (sym (inserted_under s p ps under)) (ordered_some n s p ps h f under o.0.some o.0.begins o.0.octets o.1)
]
