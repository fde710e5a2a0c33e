-- The pairs of a message before the separator (X.29 clause 4.4).
use Rattle.std.specs.Prelude.{ℕ, Bool, not, List, take_while}
use Rattle.line_model.specs.channels.Pad as pad
use Rattle.pad.specs.declared.pairs.Pair.{Pair}

-- a pair, as the definitions have it
abbrev pub shown : Pair → pad.Pair
shown p = record { reference = p.reference; value = p.value }

-- the pairs before the separator, of octets after the code (X.29 clause 4.4.5.3)
abbrev pub pairs_before : (indication : Bool) → List ℕ → List pad.Pair
pairs_before indication octets = take_while (λ p. not (pad.is_separator indication p)) (pad.pairs_of octets)
