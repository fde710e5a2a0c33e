-- What the packets begun of a side show.
use Rattle.std.specs.Prelude.{ℕ, Bool, List, [], Option, Some, None}
use Rattle.data_transfer.specs.declared.begun.Joined.{Joined}
use Rattle.data_transfer.specs.declared.begun.KeptOctets.{KeptOctets}

-- their Q bit, if there are any
abbrev pub joined_qualified : {A : Type 0} → Option (Joined A) → Option Bool
joined_qualified None = None
joined_qualified (Some j) = Some j.qualified

-- octets that may be kept
abbrev pub octets_of : {A : Type 0} → Option (KeptOctets A) → List ℕ
octets_of None = []
octets_of (Some k) = k.octets.items

-- their octets that are kept
abbrev pub joined_octets : {A : Type 0} → Option (Joined A) → List ℕ
joined_octets None = []
joined_octets (Some j) = octets_of j.kept
