-- What a read adds to a run of bytes.
use Rattle.std.proofs.Common.{◌≡◌, ◌∙◌, ap, ℕ, ◌+◌, ◌≤◌, List, ◌++◌, length, take, arith, length-take-le}
use Rattle.std.proofs.lemmas.List.{take-append-le}
use lib.Seq.{take-append-add}

-- the first n bytes were written after the first a
pub filled : (xs ys rest : List ℕ) (a n : ℕ) → a ≤ length xs → n ≤ length ys → take (a + n) (take a xs ++ (ys ++ rest)) ≡ take a xs ++ take n ys
filled xs ys rest a n there few =
    ap (λ (k : ℕ). take k (take a xs ++ (ys ++ rest))) (omega (arith, length-take-le a xs there)) ∙ take-append-add (take a xs) (ys ++ rest) n ∙ ap (λ zs. take a xs ++ zs) (take-append-le n ys rest few)
