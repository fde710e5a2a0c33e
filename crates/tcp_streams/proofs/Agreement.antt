-- What is given out is a function of what was recorded.
use Rattle.std.proofs.Common.{◌≡◌, ◌∙◌, inl, inr, refl, sym, subst, ℕ, ◌<◌, ◌≤◌, List, [], ◌∷◌, Option, Some, None, arith}
use Rattle.std.proofs.lemmas.Bool.{cases_lt}
use Rattle.std.proofs.lemmas.List.Elements.{Contains-append_cases, Contains-append_right, Contains-push_cases}
use Rattle.std.proofs.lemmas.Option.{none-some, same_Some}
use Rattle.std.specs.List.{Contains}
use Rattle.tcp_streams.specs.Pieces.{Mark, copy_at, mark_at, or_later}
use Rattle.tcp_streams.specs.Runs.{IsGiven}
use Rattle.tcp_streams.specs.Tiles.{AreConsistent, AreTiles, Given, IsTile, Tile}
use Rattle.tcp_streams.specs.declared.piece.Piece.{Piece}
use Rattle.tcp_streams.proofs.Copies.{none_above, none_below}

-- a place that a piece has lies between its ends
place_from : (q : ℕ) (p : Piece) (m : Mark) → mark_at q p ≡ Some m → p.at ≤ q
place_from q p m h = elim (cases_lt q p.at) [
  | inl below ↦ absurd (none-some m (sym (none_below q p below) ∙ h))
  | inr from ↦ from
]

place_below : (q : ℕ) (p : Piece) (m : Mark) → mark_at q p ≡ Some m → q < p.until
place_below q p m h = elim (cases_lt q p.until) [
  | inl below ↦ below
  | inr above ↦ absurd (none-some m (sym (none_above q p above) ∙ h))
]

tile_copy : (segments : List Piece) (from to q : ℕ) (p : Piece) (m : Mark) → IsTile segments from (Given p) to → mark_at q p ≡ Some m → copy_at q segments ≡ Some m
tile_copy segments from to q p m (at, until, octets, copies) same =
    let begun = place_from q p m same in
    let below = place_below q p m same in
    sym (copies q (omega (arith, at, begun)) (omega (arith, until, below))) ∙ same

-- what is given out at a place is the first copy
given_copy : (segments : List Piece) (from to q : ℕ) (ts : List Tile) (p : Piece) (m : Mark) → AreTiles segments from ts to → Contains ts (Given p) → mark_at q p ≡ Some m
    → copy_at q segments ≡ Some m
given_copy segments from to q [] p m e (k, below, there) same = absurd (omega (arith, below))
given_copy segments from to q (t ∷ ts) p m (mid, one, rest) there same = elim (Contains-append_cases (t ∷ []) ts (Given p) there) [
  | inl here ↦ elim (Contains-push_cases [] t (Given p) here) [
    | inl never ↦ absurd (let bad = never.1 in omega (arith, bad))
    | inr is ↦ (let P : Tile → Type 0 = λ u. IsTile segments from u mid in tile_copy segments from mid q p m (subst P is one) same)
  ]
  | inr later ↦ given_copy segments mid to q ts p m rest later same
]

pub agreed : (segments : List Piece) (first to first' to' q : ℕ) (ts us : List Tile) (m n : Mark) → AreTiles segments first ts to → AreTiles segments first' us to'
    → IsGiven ts q m → IsGiven us q n → m ≡ n
agreed segments first to first' to' q ts us m n t u x y =
    same_Some m n (sym (given_copy segments first to q ts x.piece m t x.there x.same) ∙ given_copy segments first' to' q us y.piece n u y.there y.same)

-- a copy is that of a segment
copy_of : (q : ℕ) (segments : List Piece) (m : Mark) → copy_at q segments ≡ Some m → (p : Piece) × Contains segments p × (mark_at q p ≡ Some m)
copy_of q [] m h = absurd (none-some m h)
copy_of q (p ∷ ps) m h = by (mark_at q p) refl h (λ e. copy_of q ps m e) where
  by : (o : Option Mark) → mark_at q p ≡ o → or_later o (copy_at q ps) ≡ Some m
      → ((copy_at q ps ≡ Some m) → (s : Piece) × Contains ps s × (mark_at q s ≡ Some m)) → (s : Piece) × Contains (p ∷ ps) s × (mark_at q s ≡ Some m)
  by (Some k) is e later = (p, (0, omega arith, refl), is ∙ e)
  by None is e later = let r = later e in (r.0, Contains-append_right (p ∷ []) ps r.0 r.1, r.2)

pub in_any_order : (segments others : List Piece) (first to first' to' q : ℕ) (ts us : List Tile) (m n : Mark) → AreConsistent segments
    → ((p : Piece) → Contains others p → Contains segments p) → AreTiles segments first ts to → AreTiles others first' us to'
    → IsGiven ts q m → IsGiven us q n → m ≡ n
in_any_order segments others first to first' to' q ts us m n same within t u x y =
    let a = copy_of q segments m (given_copy segments first to q ts x.piece m t x.there x.same) in
    let b = copy_of q others n (given_copy others first' to' q us y.piece n u y.there y.same) in
    same q a.0 b.0 m n a.1 (within b.0 b.1) a.2 b.2
