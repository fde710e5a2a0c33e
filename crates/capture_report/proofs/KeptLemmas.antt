-- What is read of a file up to a limit that it does not reach is all that it has.
use Rattle.std.proofs.Common.{◌≡◌, ◌∙◌, ap, ℕ, ◌+◌, ◌≤◌, List, [], ◌++◌, Option, None, Some, arith, length, take}
use Rattle.std.specs.Prelude.{IfSome, min, option_map}
use Rattle.std.proofs.lemmas.List.{length-take, take_all}

pub all_kept : (limit : ℕ) (left : Option (List ℕ)) (kept : List ℕ) → IfSome (option_map (take limit) left) (λ bytes. kept ≡ [] ++ bytes) → length kept + 1 ≤ limit → (octets : List ℕ) → left ≡ Some octets → kept ≡ octets
all_kept limit None kept read few octets e = cc e
all_kept limit (Some bytes) kept read few octets e =
    let size : length kept ≡ min limit (length bytes) = ap (λ (xs : List ℕ). length xs) read ∙ length-take limit bytes in
    let same : bytes ≡ octets = cc e in
    read ∙ take_all limit bytes (omega (arith, few, size)) ∙ same
