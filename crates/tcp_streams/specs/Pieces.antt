-- What segments have at the places of a direction.
use Rattle.std.specs.Prelude.{ℕ, ◌+◌, ◌-◌, ◌==◌, ◌&&◌, ◌||◌, nat_lt, min, max, not, Bool, false, List, [], ◌∷◌, ◌++◌, length, take, drop, slice_index, Option, Some, None, if◌then◌else◌}
use Rattle.std.specs.List.{list_any, slice_get}
use Rattle.std.specs.Option.{option_map}
use Rattle.std.specs.Str.{bytes_eq}
use Rattle.tcp_streams.specs.Numbers.{number_at}
use Rattle.tcp_streams.specs.declared.piece.Part.{Part}
use Rattle.tcp_streams.specs.declared.piece.Piece.{Piece}

abbrev pub part_view : Part → Piece
part_view p = record { at = p.at; until = p.until; octets = p.octets.now; is_end = p.is_end; acknowledged = p.acknowledged; recorded = p.recorded }

-- what a segment has at a place: an octet, one that the recorder cut off, or the end of its direction
pub data Mark : Type 0 where
  Octet : ℕ → Mark
  CutOff : Mark
  End : Mark

abbrev pub mark_in : (place : ℕ) → Piece → Mark
mark_in place p = if nat_lt (place - p.at) (length p.octets) then Octet (slice_index p.octets (place - p.at))
    else if p.is_end && place + 1 == p.until then End else CutOff

abbrev pub mark_at : (place : ℕ) → Piece → Option Mark
mark_at place p = if nat_lt place p.at || not (nat_lt place p.until) then None else Some (mark_in place p)

-- the first of two copies, and of some: they are in the order in which they were recorded, or have no place in common
abbrev pub or_later : Option Mark → Option Mark → Option Mark
or_later (Some m) other = Some m
or_later None other = other

abbrev pub copy_at : (place : ℕ) → List Piece → Option Mark
copy_at place [] = None
copy_at place (p ∷ ps) = or_later (mark_at place p) (copy_at place ps)

-- what a segment has before a place, and from it on
abbrev pub before : (place : ℕ) → Piece → Piece
before place p = record p { until = place; octets = take (place - p.at) p.octets; is_end = false }

abbrev pub after : (place : ℕ) → Piece → Piece
after place p = record p { at = max p.at place; octets = drop (place - p.at) p.octets }

-- the piece, where it has a place
abbrev pub some_of : Piece → List Piece
some_of p = if nat_lt p.at p.until then p ∷ [] else []

-- pieces that wait, in the order of their places, with what a segment has at places that none of them has
abbrev pub inserted : Piece → List Piece → List Piece
inserted s [] = some_of s
inserted s (p ∷ ps) = if nat_lt p.at s.until then some_of (before p.at s) ++ p ∷ inserted (after p.until s) ps else some_of s ++ p ∷ ps

-- whether two segments have different octets at a place, and one of some
abbrev pub are_different : List ℕ → List ℕ → Bool
are_different xs ys = not (bytes_eq (take (min (length xs) (length ys)) xs) (take (min (length xs) (length ys)) ys))

abbrev pub differs_from : Piece → Piece → Bool
differs_from s p = are_different (after s.at p).octets (after p.at s).octets

abbrev pub differs : Piece → List Piece → Bool
differs s ps = list_any (λ p. differs_from s p) ps

-- how much memory the pieces are counted for: 512 octets for each one, at most 2^64 - 1
abbrev pub cost_from : ℕ → List Piece → ℕ
cost_from n [] = n
cost_from n (p ∷ ps) = cost_from (min 0xFFFFFFFFFFFFFFFF (n + (length p.octets + 512))) ps

-- the number after the last octet of a piece, and of the last one
abbrev pub number_after : Piece → ℕ
number_after p = number_at (number_at p.at + length p.octets)

abbrev pub last_number : List Piece → Option ℕ
last_number ps = option_map number_after (slice_get ps (length ps - 1))
