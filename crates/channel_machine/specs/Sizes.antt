-- How long packets of data transfer can be.
use Rattle.std.specs.Prelude.{ℕ}

-- no packet of data transfer without fault of format is longer
abbrev pub largest_length : ℕ
largest_length = 65539
