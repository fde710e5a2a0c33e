-- The packets of a stream (RFC 1613): each after a header of a version and a length, two octets each.
use Rattle.std.specs.Prelude.{◌≡◌, ℕ, ◌+◌, ◌*◌, ◌/◌, ◌%◌, ◌==◌, ◌<◌, List, [], ◌∷◌, ◌++◌, length, flat_map, if◌then◌else◌}
use Rattle.xot_circuits.specs.declared.header.Header.{Header}
use Rattle.xot_circuits.specs.declared.header.Header.TheVariants.{Cut, OtherVersion, Length}

-- a packet on the stream: version 0, its length, and the packet
abbrev pub xot : List ℕ → List ℕ
xot packet = 0 ∷ 0 ∷ length packet / 256 ∷ length packet % 256 ∷ packet

-- the header at the front of octets
abbrev pub header : List ℕ → Header
header (a ∷ b ∷ c ∷ d ∷ xs) = if a * 256 + b == 0 then Length (c * 256 + d) else OtherVersion (a * 256 + b)
header xs = Cut

-- less than a packet with its header, of version 0 as far as that is known
abbrev pub IsPartialBy : Header → (length : ℕ) → Type 0
IsPartialBy Cut n = Unit {0}
IsPartialBy (Length m) n = n < 4 + m
IsPartialBy (OtherVersion v) n = ⊥

abbrev pub IsPartial : List ℕ → Type 0
IsPartial octets = IsPartialBy (header octets) (length octets)

-- a stream is these packets, and then less than a whole one
pub record Splits (stream : List ℕ) (packets : List (List ℕ)) (rest : List ℕ) : Type 0 where
  pub whole : stream ≡ flat_map xot packets ++ rest
  pub partial : IsPartial rest

-- pieces that come after some octets, and the packets that each of them completes
abbrev pub Feeds : (before : List ℕ) → (pieces packets : List (List ℕ)) → (rest : List ℕ) → Type 0
Feeds before [] packets rest = (packets ≡ []) × (rest ≡ before)
Feeds before (piece ∷ pieces) packets rest = (first later : List (List ℕ)) × (between : List ℕ)
    × Splits (before ++ piece) first between × Feeds between pieces later rest × (packets ≡ first ++ later)

-- only one split of a stream is one
abbrev pub OneSplit : Type 0
OneSplit = (stream : List ℕ) (packets others : List (List ℕ)) (rest other : List ℕ)
    → Splits stream packets rest → Splits stream others other → (packets ≡ others) × (rest ≡ other)

-- however a stream was cut, its pieces complete the packets that it is
abbrev pub AnyPieces : Type 0
AnyPieces = (pieces packets : List (List ℕ)) (rest : List ℕ) → Feeds [] pieces packets rest → Splits (flat_map (λ piece. piece) pieces) packets rest
