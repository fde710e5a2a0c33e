-- What fragments have at the places of a datagram.
use Rattle.std.specs.Prelude.{ℕ, ◌-◌, ◌==◌, nat_lt, max, List, [], ◌∷◌, ◌++◌, take, drop, if◌then◌else◌}
use Rattle.ip_segments.specs.declared.pieces.Part.{Part}
use Rattle.ip_segments.specs.declared.pieces.Piece.{Piece}

abbrev pub part_view : Part → Piece
part_view p = record { at = p.at; until = p.until; octets = p.octets.now }

-- what a fragment has before a place, and from it on
abbrev pub before : (place : ℕ) → Piece → Piece
before place p = record p { until = place; octets = take (place - p.at) p.octets }

abbrev pub after : (place : ℕ) → Piece → Piece
after place p = record p { at = max p.at place; octets = drop (place - p.at) p.octets }

-- the piece, where it has a place
abbrev pub some_of : Piece → List Piece
some_of p = if nat_lt p.at p.until then p ∷ [] else []

-- pieces in the order of their places, with what a fragment has at places that none of them has
abbrev pub inserted : Piece → List Piece → List Piece
inserted s [] = some_of s
inserted s (p ∷ ps) = if nat_lt p.at s.until then some_of (before p.at s) ++ p ∷ inserted (after p.until s) ps else some_of s ++ p ∷ ps

-- the first place from one on that none of them has
abbrev pub reach : ℕ → List Piece → ℕ
reach n [] = n
reach n (p ∷ ps) = if p.at == n then reach p.until ps else n

abbrev pub all_octets : List Piece → List ℕ
all_octets [] = []
all_octets (p ∷ ps) = p.octets ++ all_octets ps
