-- Pieces that wait have the first copy of each place.
use Rattle.std.proofs.Common.{◌≡◌, ◌∙◌, inl, inr, refl, sym, ap, ℕ, ◌<◌, ◌≤◌, List, [], ◌∷◌, ◌++◌, Option, Some, None, arith}
use Rattle.std.proofs.lemmas.Bool.{cases_lt}
use Rattle.std.proofs.lemmas.Grind.{common_steps}
use Rattle.tcp_streams.specs.Pieces.{Mark, after, before, copy_at, inserted, mark_at, mark_in, or_later, some_of}
use Rattle.tcp_streams.specs.Tiles.{AreOrdered}
use Rattle.tcp_streams.specs.declared.piece.Piece.{Piece}
use Rattle.tcp_streams.proofs.Passing.{inserted_over}

-- a place before a piece, or after it, is none of its places
pub none_below : (q : ℕ) (p : Piece) → q < p.at → mark_at q p ≡ None
none_below q p h = grind (arith, h)

pub none_above : (q : ℕ) (p : Piece) → p.until ≤ q → mark_at q p ≡ None
none_above q p h = grind (arith, h)

pub some_inside : (q : ℕ) (p : Piece) → p.at ≤ q → q < p.until → mark_at q p ≡ Some (mark_in q p)
some_inside q p h k = grind (arith, h, k)

-- the parts of a segment have what it has
before_same : (q place : ℕ) (s : Piece) → q < place → place < s.until → mark_at q (before place s) ≡ mark_at q s
before_same q place s h k = grind (arith, common_steps, h, k)

pub after_same : (q place : ℕ) (s : Piece) → place ≤ q → mark_at q (after place s) ≡ mark_at q s
after_same q place s h = grind (arith, common_steps, h)

-- the first copy of three
pub or_none : (m : Option Mark) → or_later m None ≡ m
or_none None = refl
or_none (Some m) = refl

or_assoc : (a b c : Option Mark) → or_later (or_later a b) c ≡ or_later a (or_later b c)
or_assoc None b c = refl
or_assoc (Some m) b c = refl

pub copy_append : (q : ℕ) (xs ys : List Piece) → copy_at q (xs ++ ys) ≡ or_later (copy_at q xs) (copy_at q ys)
copy_append q [] ys = refl
copy_append q (x ∷ xs) ys = ap (or_later (mark_at q x)) (copy_append q xs ys) ∙ sym (or_assoc (mark_at q x) (copy_at q xs) (copy_at q ys))

pub copy_push : (q : ℕ) (xs : List Piece) (p : Piece) → copy_at q (xs ++ p ∷ []) ≡ or_later (copy_at q xs) (mark_at q p)
copy_push q xs p = copy_append q xs (p ∷ []) ∙ ap (or_later (copy_at q xs)) (or_none (mark_at q p))

-- a piece that may have no place
pub some_there : (p : Piece) → p.at < p.until → some_of p ≡ p ∷ []
some_there p h = grind (arith, h)

pub none_there : (p : Piece) → p.until ≤ p.at → some_of p ≡ []
none_there p h = grind (arith, h)

some_copy : (q : ℕ) (p : Piece) → copy_at q (some_of p) ≡ mark_at q p
some_copy q p = elim (cases_lt p.at p.until) [
  | inl some ↦ ap (copy_at q) (some_there p some) ∙ or_none (mark_at q p)
  | inr none ↦ ap (copy_at q) (none_there p none) ∙ (elim (cases_lt q p.at) [
    | inl below ↦ sym (none_below q p below)
    | inr above ↦ sym (none_above q p (omega (arith, none, above)))
  ])
]

copy_some : (q : ℕ) (p : Piece) (ps : List Piece) → copy_at q (some_of p ++ ps) ≡ or_later (mark_at q p) (copy_at q ps)
copy_some q p ps = copy_append q (some_of p) ps ∙ ap (λ m. or_later m (copy_at q ps)) (some_copy q p)

-- no piece that waits has a place before them
pub none_before : (n q : ℕ) (ps : List Piece) → AreOrdered n ps → q < n → copy_at q ps ≡ None
none_before n q [] o h = refl
none_before n q (p ∷ ps) o h =
    let begins = o.0.begins in
    let some = o.0.some in
    ap (λ m. or_later m (copy_at q ps)) (none_below q p (omega (arith, h, begins)))
    ∙ none_before p.until q ps o.1 (omega (arith, h, begins, some))

-- how a segment is inserted before a piece
pub inserted_under : (s p : Piece) (ps : List Piece) → s.until ≤ p.at → inserted s (p ∷ ps) ≡ some_of s ++ p ∷ ps
inserted_under s p ps h = grind (arith, h)

join_below : (b p c a s : Option Mark) → b ≡ s → p ≡ None → c ≡ None → a ≡ None → or_later b (or_later p (or_later c a)) ≡ or_later (or_later p c) s
join_below b p c a s e f g h = rw (e, f, g, h) (or_none s)

join_at : (b p c a s : Option Mark) (m : Mark) → b ≡ None → p ≡ Some m → or_later b (or_later p (or_later c a)) ≡ or_later (or_later p c) s
join_at b p c a s m e f = rw (e, f) refl

join_above : (b p c a s : Option Mark) → b ≡ None → p ≡ None → a ≡ s → or_later b (or_later p (or_later c a)) ≡ or_later (or_later p c) s
join_above b p c a s e f g = rw (e, f, g) refl

join_under : (b w : Option Mark) → b ≡ None → or_later b w ≡ or_later w b
join_under b w e = rw e (sym (or_none w))

join_free : (b w : Option Mark) → w ≡ None → or_later b w ≡ or_later w b
join_free b w e = rw e (or_none b)

-- what is inserted adds the copies of places that none had which waits
pub inserted_copies : (n q : ℕ) (s : Piece) (ps : List Piece) → AreOrdered n ps → copy_at q (inserted s ps) ≡ or_later (copy_at q ps) (mark_at q s)
inserted_copies n q s [] o = some_copy q s
inserted_copies n q s (p ∷ ps) o = elim (cases_lt p.at s.until) [
  | inl over ↦
      ap (copy_at q) (inserted_over s p ps over) ∙ copy_some q (before p.at s) (p ∷ inserted (after p.until s) ps)
      ∙ ap (λ m. or_later (mark_at q (before p.at s)) (or_later (mark_at q p) m)) (inserted_copies p.until q (after p.until s) ps o.1)
      ∙ (elim (cases_lt q p.at) [
        | inl below ↦ (let some = o.0.some in join_below _ (mark_at q p) (copy_at q ps) _ (mark_at q s) (before_same q p.at s below over) (none_below q p below)
            (none_before p.until q ps o.1 (omega (arith, below, some))) (none_below q (after p.until s) (omega (arith, below, some))))
        | inr from ↦ elim (cases_lt q p.until) [
          | inl within ↦ join_at _ (mark_at q p) (copy_at q ps) _ (mark_at q s) (mark_in q p) (none_above q (before p.at s) from) (some_inside q p from within)
          | inr past ↦ join_above _ (mark_at q p) (copy_at q ps) _ (mark_at q s) (none_above q (before p.at s) from) (none_above q p past) (after_same q p.until s past)
        ]
      ])
  | inr under ↦
      ap (copy_at q) (inserted_under s p ps under) ∙ copy_some q s (p ∷ ps)
      ∙ (elim (cases_lt q p.at) [
        | inl below ↦ (let some = o.0.some in join_free _ _ (none_before p.at q (p ∷ ps) (record { begins = omega arith; some = some; octets = o.0.octets }, o.1) below))
        | inr from ↦ join_under _ _ (none_above q s (omega (arith, under, from)))
      ])
]
