-- The line that writes a row.
use Rattle.std.specs.Prelude.{ℕ, List, [], ◌∷◌, ◌++◌, decimal}
use Rattle.hex.specs.Hex.{encode_upper}
use Rattle.line_model.specs.declared.state.Side.{Side}
use Rattle.line_model.specs.declared.state.Side.TheVariants.{T, N}
use Rattle.line_model.specs.basics.Records.{Row}

-- the letter of a side
abbrev pub side_letter : Side → ℕ
side_letter T = 84
side_letter N = 78

-- the word of a row's octets
abbrev pub octets_word : List ℕ → List ℕ
octets_word [] = 45 ∷ []
octets_word (o ∷ os) = encode_upper (o ∷ os)

-- the line that writes the row of a packet, with its LF
abbrev pub row_text : Row → List ℕ
row_text r = decimal r.number ++ 32 ∷ side_letter r.side ∷ 32 ∷ (octets_word r.octets ++ 10 ∷ [])
