-- Bytes that a list lacks.
use Rattle.std.specs.Prelude.{◌≡◌, ℕ, List, false, ◌==◌}
use Rattle.std.specs.List.{list_any}

-- the byte isn't there
abbrev pub Lacks : ℕ → List ℕ → Type 0
Lacks byte xs = list_any (λ b. b == byte) xs ≡ false
