-- Fragments put together, up to a limit.
--
-- The fragments of one datagram have one protocol, the same addresses and the same identification. Of two at one place the
-- second is left out, and of two copies of an octet the first one counts (Gathering). The fragment that makes a datagram whole
-- gives it the number and the time of its frame.
--
-- At most 64 datagrams wait, and of each at most 512 fragments with 65,535 octets. Of more than 64 the first one is given up.
-- One with more fragments is given up itself. Each one that is given up is said, with the number of its fragments.
use Rattle.std.specs.Prelude.{ℕ, ◌+◌, ◌==◌, ◌||◌, nat_lt, not, Bool, List, [], ◌∷◌, length, slice_get, Option, Some, None, if◌then◌else◌}
use Rattle.std.specs.List.{insert, position_or_len, remove}
use Rattle.ip_segments.specs.Datagrams.{Datagram}
use Rattle.ip_segments.specs.Gathering.{begun, given_up, is_of, whole, with_fragment}
use Rattle.ip_segments.specs.declared.datagram.Fragment.{Fragment}
use Rattle.ip_segments.specs.declared.fragments.Added.{Added}
use Rattle.ip_segments.specs.declared.fragments.Added.TheVariants.{GaveUp, LeftOut, Waits, Whole}
use Rattle.ip_segments.specs.declared.fragments.FragmentFault.{FragmentFault}
use Rattle.ip_segments.specs.declared.fragments.FragmentFault.TheVariants as fault
use Rattle.ip_segments.specs.declared.gathered.Gathered.{Gathered}

-- what becomes of a fragment, and the datagrams that wait then, in the order in which they began
pub record Outcome : Type 0 where
  pub added : Added
  pub waiting : List Gathered

-- fragments of TCP, of IPv4 and IPv6 in IP, and of GRE are put together
abbrev pub is_joined : (protocol : ℕ) → Bool
is_joined n = n == 4 || (n == 6 || (n == 41 || n == 47))

-- why a fragment is left out
abbrev pub fault_of : Fragment → Datagram → Option FragmentFault
fault_of f d = if not (is_joined d.protocol) then Some fault.OtherProtocol
    else if nat_lt (length d.payload.octets) d.payload.length then Some fault.Cut
    else if nat_lt 0xFFFF (f.place + length d.payload.octets) then Some fault.Long
    else None

-- where its datagram waits; where none does, after all that wait
abbrev pub place_of : (identification : ℕ) → Datagram → List Gathered → ℕ
place_of n d gs = position_or_len (is_of n d) gs

-- the datagram that waits at a place, or one that begins, and the others
abbrev pub gathered_at : Option Gathered → (frame identification : ℕ) → Datagram → Gathered
gathered_at (Some g) frame n d = g
gathered_at None frame n d = begun frame n d

abbrev pub without : ℕ → List Gathered → List Gathered
without k gs = if nat_lt k (length gs) then remove gs k else gs

-- the first of more than 64 is given up
abbrev pub first_given_up : List Gathered → Outcome
first_given_up [] = record { added = Waits; waiting = [] }
first_given_up (g ∷ gs) = record { added = GaveUp (given_up g); waiting = gs }

abbrev pub limited : List Gathered → Outcome
limited gs = if nat_lt 64 (length gs) then first_given_up gs else record { added = Waits; waiting = gs }

-- a datagram with one more fragment is whole, or has too many of them, or waits where it waited
abbrev pub settled_by : Option (List ℕ) → ℕ → Gathered → List Gathered → Outcome
settled_by (Some xs) k g gs = record { added = Whole xs; waiting = gs }
settled_by None k g gs = if nat_lt 512 (length g.places) then record { added = GaveUp (given_up g); waiting = gs } else limited (insert gs k g)

abbrev pub settled : ℕ → Gathered → List Gathered → Outcome
settled k g gs = settled_by (whole g) k g gs

abbrev pub added_at : ℕ → (frame : ℕ) → Fragment → Datagram → List Gathered → Outcome
added_at k frame f d gs = settled k (with_fragment f d.payload.octets (gathered_at (slice_get gs k) frame f.identification d)) (without k gs)

abbrev pub added_by : Option FragmentFault → (frame : ℕ) → Fragment → Datagram → List Gathered → Outcome
added_by (Some x) frame f d gs = record { added = LeftOut x; waiting = gs }
added_by None frame f d gs = added_at (place_of f.identification d gs) frame f d gs

abbrev pub added : (frame : ℕ) → Fragment → Datagram → List Gathered → Outcome
added frame f d gs = added_by (fault_of f d) frame f d gs
