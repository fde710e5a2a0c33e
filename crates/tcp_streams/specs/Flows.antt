-- One direction of a connection.
use Rattle.std.specs.Prelude.{ℕ, ◌+◌, ◌-◌, ◌==◌, ◌&&◌, ◌||◌, nat_lt, max, not, Bool, false, List, [], length, Option, Some, None, is_none, is_some, unwrap_or, if◌then◌else◌}
use Rattle.std.specs.Option.{option_map}
use Rattle.ip_segments.specs.Segments.{Segment}
use Rattle.tcp_streams.specs.Numbers.{fin_numbers, first_place, forward, next_number, place_near}
use Rattle.tcp_streams.specs.Pieces.{after, differs, inserted}
use Rattle.tcp_streams.specs.declared.flow.Flow.{Flow}
use Rattle.tcp_streams.specs.declared.flow.SegmentUse.{SegmentUse}
use Rattle.tcp_streams.specs.declared.flow.SegmentUse.TheVariants.{Repeated, Waits}
use Rattle.tcp_streams.specs.declared.piece.Piece.{Piece}
use Rattle.tcp_streams.specs.declared.piece.Recorded.{Recorded}

abbrev pub unknown : Flow
unknown = record { first = None; next = None; acknowledged = None; is_leaving = false; is_ended = false; waiting = [] }

-- the number of a segment's first octet: a SYN has one of its own before it
abbrev pub number_of : Segment → ℕ
number_of s = if s.is_syn then next_number s.sequence else s.sequence

abbrev pub is_empty : Segment → Bool
is_empty s = not s.is_fin && (length s.payload.octets == 0 && s.payload.length == 0)

-- what a segment has, where a direction expects a place
abbrev pub part_of : (next : ℕ) → Segment → Recorded → Piece
part_of next s r = record {
  at = place_near next (number_of s);
  until = place_near next (number_of s) + length s.payload.octets + (s.payload.length - length s.payload.octets) + fin_numbers s.is_fin;
  octets = s.payload.octets;
  is_end = s.is_fin;
  acknowledged = s.acknowledged;
  recorded = r;
}

-- a SYN, and the acknowledgement of one
abbrev pub opened : ℕ → Flow → Flow
opened n f = if is_none f.next then record f { first = Some n; next = Some (first_place n + 1) } else f

abbrev pub begun_at : Option ℕ → Flow → Flow
begun_at a f = if is_none f.next then record f { next = option_map first_place a } else f

abbrev pub is_first : Option ℕ → ℕ → Bool
is_first None n = false
is_first (Some first) n = next_number first == n

abbrev pub has_begun_before : ℕ → Flow → Bool
has_begun_before n f = is_first f.first n

-- octets that were not recorded, where some were: those between two numbers, without a FIN; how many is not known before the
-- first number, which is said as 0 where the direction of the other end was opened
abbrev pub gap_between : Option ℕ → (fin number : ℕ) → (opened : Option ℕ) → Option ℕ
gap_between (Some before) fin n first = if nat_lt fin (forward before n) then Some (forward before n) else None
gap_between None fin n first = option_map (λ k. 0) first

-- octets that the other end acknowledges, of a direction of which nothing was recorded
abbrev pub unsaid_gap : (by : Flow) → ℕ → Flow → Option ℕ
unsaid_gap by n f = if is_some f.next then None else gap_between f.acknowledged (fin_numbers by.is_leaving) n by.first

abbrev pub acknowledged_by : ℕ → Flow → Flow
acknowledged_by n f = record f { acknowledged = Some n }

-- octets before the first segment of a direction
abbrev pub opening_gap : (other : Flow) → ℕ → Flow → Option ℕ
opening_gap other n f = if is_some f.next then None else gap_between f.acknowledged 0 n other.first

-- a part that is held, and what becomes of it
abbrev pub part_held : Piece → Flow → Flow
part_held p f = record f { waiting = inserted p f.waiting }

abbrev pub part_use : Piece → Flow → SegmentUse
part_use p f = if length (inserted p f.waiting) == length f.waiting then Repeated else Waits

abbrev pub emptied : Flow → Flow
emptied f = record f { waiting = [] }

-- a segment that is held: the part of it from the next place on
abbrev pub part_from : (next : ℕ) → Segment → Recorded → Piece
part_from next s r = after next (part_of next s r)

abbrev pub is_place : ℕ → Bool
is_place next = nat_lt next 0x4000000000000000

abbrev pub held_at : Option ℕ → Segment → Recorded → Flow → Flow
held_at None s r f = f
held_at (Some next) s r f = if is_place next then part_held (part_from next s r) f else f

abbrev pub held : Segment → Recorded → Flow → Flow
held s r f = held_at f.next s r f

abbrev pub use_at : Option ℕ → Segment → Recorded → Flow → SegmentUse
use_at None s r f = Repeated
use_at (Some next) s r f = if is_place next then part_use (part_from next s r) f else Repeated

abbrev pub held_use : Segment → Recorded → Flow → SegmentUse
held_use s r f = use_at f.next s r f

abbrev pub differs_at : Option ℕ → Segment → Recorded → List Piece → Bool
differs_at None s r ps = false
differs_at (Some next) s r ps = is_place next && differs (part_from next s r) ps

abbrev pub held_differs : Segment → Recorded → Flow → Bool
held_differs s r f = differs_at f.next s r f.waiting

-- a piece is given out, and others wait after it
abbrev pub given_out : Piece → List Piece → Flow → Flow
given_out p ps f = record f { next = Some (max (unwrap_or f.next 0) p.until); is_ended = f.is_ended || p.is_end; waiting = ps }
