-- How long a packet may be (X.25 clause 5 and Annex E; the order is profile).
use Rattle.std.specs.Prelude.{ℕ, [], ◌∷◌, nat_lt, Option}
use Rattle.line_model.specs.declared.diagnostic.TheConstants.{PACKET_TOO_SHORT, PACKET_TOO_LONG}
use Rattle.line_model.specs.basics.Choice.{first_fault}

-- a length that is too small, too great, or either
abbrev pub too_short : (least length : ℕ) → Option ℕ
too_short least n = first_fault ((nat_lt n least, PACKET_TOO_SHORT) ∷ [])

abbrev pub too_long : (most length : ℕ) → Option ℕ
too_long most n = first_fault ((nat_lt most n, PACKET_TOO_LONG) ∷ [])

abbrev pub outside : (least most length : ℕ) → Option ℕ
outside least most n = first_fault ((nat_lt n least, PACKET_TOO_SHORT) ∷ (nat_lt most n, PACKET_TOO_LONG) ∷ [])
