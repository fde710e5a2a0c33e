-- The circle of the sequence numbers.
use Rattle.std.specs.Prelude.{ℕ, ◌+◌, ◌-◌, ◌%◌}
use Rattle.lapb_link.specs.declared.modulus.Modulus.{Modulus}
use Rattle.lapb_link.specs.declared.modulus.Modulus.TheVariants.{Basic, Extended}

abbrev pub size : Modulus → ℕ
size Basic = 8
size Extended = 128

-- how many steps lead from a number to another
abbrev pub ahead : Modulus → (from to : ℕ) → ℕ
ahead m from to = (to + 256 - from) % size m

-- the number that is some steps after another
abbrev pub after : Modulus → (number steps : ℕ) → ℕ
after m number steps = (number + steps) % size m

abbrev pub before : Modulus → ℕ → ℕ
before m n = after m n (size m - 1)
