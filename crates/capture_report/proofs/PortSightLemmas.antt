-- The weight of octets, packet by packet.
use Rattle.std.proofs.Common.{◌≡◌, ◌∙◌, ap, sym, arith, ◌<◌, ◌≤◌, refl, true≢false}
use Rattle.std.proofs.lemmas.Bool.{ne_eqb}
use Rattle.std.specs.Prelude.{ℕ, zero, suc, ◌+◌, ◌-◌, ◌==◌, max, true, false, List, [], ◌∷◌, length}
use Rattle.capture_report.specs.PortSights.{first_packet, weight_after, weight_from, weight_with}

one_fewer : (n k : ℕ) → k < n → n - k ≡ suc (n - (k + 1))
one_fewer n k less = omega (arith, less)

-- where none is left
pub weight_ends : (n k found : ℕ) (xs : List ℕ) → k < n → true ≡ (length xs == 0) → weight_from (n - k) found xs ≡ found
unfolding weight_from
weight_ends n k found [] less empty = ap (λ b. weight_from b found []) (one_fewer n k less)
weight_ends n k found (x ∷ xs) less empty = absurd (true≢false (empty ∙ ne_eqb (length (x ∷ xs)) 0 (λ e. absurd (omega (arith, e)))))

-- the first of them, and then the others
pub weight_goes_on : (n k found : ℕ) (xs : List ℕ) → k < n → false ≡ (length xs == 0) → weight_from (n - k) found xs ≡ weight_after (weight_from (n - (k + 1))) found (first_packet xs)
unfolding weight_from
weight_goes_on n k found (x ∷ xs) less some = ap (λ b. weight_from b found (x ∷ xs)) (one_fewer n k less)
weight_goes_on n k found [] less some = absurd (true≢false (sym some))

pub with_none : (on : ℕ → List ℕ → ℕ) (found m : ℕ) (xs : List ℕ) → m ≡ 0 → weight_with on found m xs ≡ 0
with_none on found m xs none = ap (λ w. weight_with on found w xs) none

pub with_some : (on : ℕ → List ℕ → ℕ) (found m : ℕ) (xs : List ℕ) → (m ≡ 0 → ⊥) → weight_with on found m xs ≡ on (max found m) xs
with_some on found (suc m) xs some = refl
with_some on found zero xs some = absurd (some refl)

pub weight_none : (n k found : ℕ) (xs : List ℕ) → n ≤ k → 0 ≡ weight_from (n - k) found xs
unfolding weight_from
weight_none n k found xs more =
    let none : n - k ≡ 0 = omega (arith, more) in
    sym (ap (λ b. weight_from b found xs) none)
