-- The fragments of a datagram, and the datagram that they make.
use Rattle.std.specs.Prelude.{ℕ, ◌+◌, ◌==◌, ◌&&◌, nat_lt, Bool, true, List, [], ◌∷◌, ◌++◌, length, take, Option, Some, None, if◌then◌else◌}
use Rattle.std.specs.List.{list_any}
use Rattle.std.specs.Str.{bytes_eq}
use Rattle.ip_segments.specs.Datagrams.{Datagram}
use Rattle.ip_segments.specs.Pieces.{all_octets, inserted, reach}
use Rattle.ip_segments.specs.declared.datagram.Fragment.{Fragment}
use Rattle.ip_segments.specs.declared.gathered.Gathered.{Gathered}
use Rattle.ip_segments.specs.declared.gathered.GivenUp.{GivenUp}
use Rattle.ip_segments.specs.declared.gathered.Last.{Last}
use Rattle.ip_segments.specs.declared.pieces.Piece.{Piece}

-- the fragments of one datagram have its protocol, its addresses and its identification
abbrev pub is_of : (identification : ℕ) → Datagram → Gathered → Bool
is_of n d g = g.protocol == d.protocol && (g.identification == n && (bytes_eq g.source d.source && bytes_eq g.target d.target))

-- none of them came before this frame
abbrev pub begun : (frame identification : ℕ) → Datagram → Gathered
begun frame n d = record {
  protocol = d.protocol;
  source = d.source;
  target = d.target;
  identification = n;
  frame = frame;
  places = [];
  pieces = [];
  last = None;
}

-- the octets of a fragment, at its place
abbrev pub part_of : (place : ℕ) → List ℕ → Piece
part_of place xs = record { at = place; until = place + length xs; octets = xs }

-- a datagram ends where its last fragment ends; of several, that with the lowest place
abbrev pub is_below : ℕ → Option Last → Bool
is_below at None = true
is_below at (Some l) = nat_lt at l.at

abbrev pub last_by : (is_last : Bool) → Piece → Option Last → Option Last
last_by is_last p known = if is_last && is_below p.at known then Some (record { at = p.at; until = p.until }) else known

-- one more fragment: of two at one place the second is left out, and of two copies of an octet the first one counts
abbrev pub with_part : Fragment → Piece → Gathered → Gathered
with_part f p g = record g { places = g.places ++ f.place ∷ []; pieces = inserted p g.pieces; last = last_by f.is_last p g.last }

abbrev pub with_fragment : Fragment → List ℕ → Gathered → Gathered
with_fragment f xs g = if list_any (λ n. n == f.place) g.places then g else with_part f (part_of f.place xs) g

-- the octets up to the end, where all of them came
abbrev pub whole_by : Option Last → List Piece → Option (List ℕ)
whole_by None ps = None
whole_by (Some l) ps = if nat_lt (reach 0 ps) l.until then None else Some (take l.until (all_octets ps))

abbrev pub whole : Gathered → Option (List ℕ)
whole g = whole_by g.last g.pieces

-- what is said of a datagram of which not all fragments came
abbrev pub given_up : Gathered → GivenUp
given_up g = record { frame = g.frame; fragments = length g.places }
