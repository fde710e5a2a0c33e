-- Decimals that are written one after the other.
use Rattle.std.proofs.Common.{◌≡◌, ◌∙◌, ◌++◌, ◌+◌, ◌<◌, ◌≤◌, ℕ, List, [], ◌∷◌, Option, None, Some, ap, append_assoc, append-nil, drop, get_or, length, sym}
use Rattle.std.proofs.lemmas.List.{at_drop_more, drop_all}
use Rattle.capture_report.specs.Texts.{decimals, split_decimal}

pub decimals_more : (units : List ℕ) (i rest digit left : ℕ) (out new all : List ℕ) → i < length units → split_decimal rest (get_or units i 0) ≡ Some (digit, left) → new ≡ out ++ digit ∷ [] → out ++ decimals (drop i units) rest ≡ all
    → new ++ decimals (drop (i + 1) units) left ≡ all
decimals_more units i rest digit left out new all less split pushed so_far =
    let later = drop (i + 1) units in
    let step : decimals (drop i units) rest ≡ digit ∷ decimals later left =
    ap (λ us. decimals us rest) (at_drop_more (λ l. l) units i 0 less) ∙ ap (λ d. elim d [ None ↦ [] | Some p ↦ p.0 ∷ decimals later p.1 ]) split in
    ap (λ xs. xs ++ decimals later left) pushed ∙ (append_assoc out (digit ∷ []) (decimals later left) ∙ (ap (λ xs. out ++ xs) (sym step) ∙ so_far))

pub decimals_all : (units : List ℕ) (i rest : ℕ) (out all : List ℕ) → length units ≤ i → out ++ decimals (drop i units) rest ≡ all → out ≡ all
decimals_all units i rest out all enough so_far = sym (append-nil out) ∙ (ap (λ us. out ++ decimals us rest) (sym (drop_all i units enough)) ∙ so_far)
