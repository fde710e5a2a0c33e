-- Rows whose numbers rise, as they are read one by one.
use Rattle.std.proofs.Common.{ℕ, suc, ◌+◌, ◌<◌, ◌≤◌, List, [], ◌∷◌, ◌++◌, map, length, arith}
use Rattle.std.specs.Prelude.{All, sum_by}
use Rattle.std.specs.List.Sorted.{IsStrictlyIncreasing}
use Rattle.std.proofs.lemmas.List.Elements.{All-nil, All-push}
use Rattle.std.proofs.lemmas.List.Sums.{sum_by_push}
use Rattle.line_model.specs.basics.Records.{Row}
use Rattle.line_model.proofs.Rising.{RisesFrom}
use Rattle.line_model.proofs.InOrder.{index-from_rises}

-- their numbers rise from above 0 to `last` at the most, and they have at most `most` octets
pub record RowsTo (last most : ℕ) (rs : List Row) : Type 0 where
  pub rising : RisesFrom 0 (map (λ r. r.number) rs)
  pub below : All (λ r. r.number ≤ last) rs
  pub octets : sum_by (λ r. length r.octets) rs ≤ most

pub rows_none : (last most : ℕ) → RowsTo last most []
rows_none last most = record { rising = tt; below = All-nil (λ r. r.number ≤ last); octets = omega arith }

rises_push : (b last : ℕ) (rs : List Row) (r : Row) → RisesFrom b (map (λ r. r.number) rs) → All (λ r. r.number ≤ last) rs → b ≤ last → last < r.number
    → RisesFrom b (map (λ r. r.number) (rs ++ r ∷ []))
rises_push b last [] r h below le lt = (omega (arith, le, lt), tt)
rises_push b last (x ∷ rs) r h below le lt = (h.0, rises_push x.number last rs r h.1 (λ k y in_rs. below (suc k) y (omega (arith, in_rs))) (below 0 x (omega arith)) lt)

pub rows_push : (last most : ℕ) (rs : List Row) (r : Row) → RowsTo last most rs → last < r.number → RowsTo r.number (most + length r.octets) (rs ++ r ∷ [])
rows_push last most rs r h lt =
    let before = h.octets in
    record {
      rising = rises_push 0 last rs r h.rising h.below (omega arith) lt;
      below = All-push (λ x. x.number ≤ r.number) rs r (λ k x in_rs. omega (arith, h.below k x in_rs, lt)) (omega arith);
      octets = omega (arith, before, sum_by_push (λ (x : Row). length x.octets) rs r);
    }

pub rows_rise : (last most : ℕ) (rs : List Row) → RowsTo last most rs → IsStrictlyIncreasing (0 ∷ map (λ r. r.number) rs)
rows_rise last most rs h = index-from_rises (0 ∷ map (λ r. r.number) rs) h.rising

pub rows_below : (last most limit : ℕ) (rs : List Row) → RowsTo last most rs → last ≤ limit → All (λ r. r.number ≤ limit) rs
rows_below last most limit rs h le = λ k r in_rs. omega (arith, h.below k r in_rs, le)
