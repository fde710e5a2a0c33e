-- A datagram that is put together, against its fragments.
use Rattle.std.specs.Prelude.{◌≡◌, ℕ, ◌+◌, ◌-◌, ◌==◌, ◌<◌, ◌≤◌, ◌||◌, nat_lt, not, List, [], ◌∷◌, ◌++◌, length, map, slice_index, Option, Some, None, if◌then◌else◌}
use Rattle.std.specs.List.{list_any}
use Rattle.ip_segments.specs.Gathering.{last_by, part_of, with_fragment}
use Rattle.ip_segments.specs.declared.datagram.Fragment.{Fragment}
use Rattle.ip_segments.specs.declared.gathered.Gathered.{Gathered}
use Rattle.ip_segments.specs.declared.gathered.Last.{Last}
use Rattle.ip_segments.specs.declared.pieces.Piece.{Piece}

-- a fragment, and its octets
pub record Part : Type 0 where
  pub fragment : Fragment
  pub octets : List ℕ

abbrev pub piece_of : Part → Piece
piece_of x = part_of x.fragment.place x.octets

-- fragments of a datagram that are added one after the other
abbrev pub gathered : List Part → Gathered → Gathered
gathered [] g = g
gathered (x ∷ xs) g = gathered xs (with_fragment x.fragment x.octets g)

-- of fragments at one place the first
abbrev pub kept : (seen : List ℕ) → List Part → List Part
kept seen [] = []
kept seen (x ∷ xs) = if list_any (λ n. n == x.fragment.place) seen then kept seen xs else x ∷ kept (seen ++ x.fragment.place ∷ []) xs

-- of their last fragments the one with the lowest place
abbrev pub last_of : Option Last → List Part → Option Last
last_of known [] = known
last_of known (x ∷ xs) = last_of (last_by x.fragment.is_last (piece_of x) known) xs

-- the octet that a piece has at a place, and the first copy of several
abbrev pub octet_at : (place : ℕ) → Piece → Option ℕ
octet_at q p = if nat_lt q p.at || not (nat_lt q p.until) then None else Some (slice_index p.octets (q - p.at))

abbrev pub or_later : Option ℕ → Option ℕ → Option ℕ
or_later (Some x) other = Some x
or_later None other = other

abbrev pub copy_at : (place : ℕ) → List Piece → Option ℕ
copy_at q [] = None
copy_at q (p ∷ ps) = or_later (octet_at q p) (copy_at q ps)

-- what pieces make: a datagram up to the end of the last one with the first copy of each octet, or none where an octet is missing
abbrev pub IsMade : List Piece → Option Last → Option (List ℕ) → Type 0
IsMade ps None r = r ≡ None
IsMade ps (Some l) (Some xs) = (length xs ≡ l.until) × ((q : ℕ) → q < l.until → copy_at q ps ≡ Some (slice_index xs q))
IsMade ps (Some l) None = (q : ℕ) × (q < l.until) × (copy_at q ps ≡ None)

abbrev pub IsMadeOf : List Part → Option (List ℕ) → Type 0
IsMadeOf xs r = IsMade (map piece_of xs) (last_of None xs) r

-- pieces in the order of their places, each with a place
pub record IsPlaced (from : ℕ) (p : Piece) : Type 0 where
  pub begins : from ≤ p.at
  pub some : p.at < p.until
  pub octets : p.at + length p.octets ≡ p.until

abbrev pub AreOrdered : (from : ℕ) → List Piece → Type 0
AreOrdered from [] = Unit {0}
AreOrdered from (p ∷ ps) = IsPlaced from p × AreOrdered p.until ps
