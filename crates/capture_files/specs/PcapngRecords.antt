-- What the blocks of a pcapng file give, one after the other. A block has its type, its length, its content, and its length
-- again, in the byte order of its section.
use Rattle.std.specs.Prelude.{ℕ, ◌+◌, ◌-◌, ◌*◌, ◌^◌, ◌||◌, Bool, true, false, List, [], ◌∷◌, ◌++◌, Option, None, Some, drop, length, min, nat_eq, nat_le, nat_lt, slice_get, slice_set, if◌then◌else◌}
use Rattle.capture_model.specs.Frames.{Frame}
use Rattle.capture_files.specs.BlockFrames.{block_frame, body_of, frame_direction, options_behind, placed_in, time_of}
use Rattle.capture_files.specs.BlockSteps.{first_snap}
use Rattle.capture_files.specs.Blocks.{is_numbered, is_whole, order_at}
use Rattle.capture_files.specs.Interfaces.{interface_in}
use Rattle.capture_files.specs.Numbers.{next_number, number, short_number}
use Rattle.capture_files.specs.Options.{BlockOption, count_of, drop_count, last_value, options_in}
use Rattle.capture_files.specs.Records.{Record}
use Rattle.capture_files.specs.declared.entry.Dropped.{Dropped}
use Rattle.capture_files.specs.declared.interface.Interface.{Interface}
use Rattle.capture_files.specs.declared.packet_block.Placed.{Placed}

-- what is known before a block: the byte order and the interfaces of its section, how many frames of each were dropped up
-- to its last statistics, the number of its first interface, and the number of the last frame
pub record Section : Type 0 where
  pub is_big : Bool
  pub interfaces : List Interface
  pub dropped : List ℕ
  pub first : ℕ
  pub last : ℕ

-- before the first block of a file, after the frame of the number `last`
abbrev pub no_section : (last : ℕ) → Section
no_section last = record { is_big = false; interfaces = []; dropped = []; first = 0; last = last }

-- what a block gives, and what is known after it
pub record Reading : Type 0 where
  pub gives : Record
  pub after : Section

-- a block that gives nothing
abbrev pub passed : Section → Reading
passed s = record { gives = record { dropped = None; frame = None }; after = s }

-- frames that are missing at this place, if there are some
abbrev pub missing : Dropped → Option Dropped
missing d = if nat_eq d.count 0 then None else Some d

-- ---- each type of block; a body has the type and the first length of its block

abbrev pub is_order : (magic : ℕ) → Bool
is_order magic = nat_eq magic 0x1A2B3C4D || nat_eq magic 0x4D3C2B1A

-- the next section has no interface yet; their numbers go on
abbrev pub begun : Section → Section
begun s = record s { interfaces = []; dropped = []; first = min (s.first + length s.interfaces) (2 ^ 32 - 1) }

-- it begins a section, of any length
abbrev pub begin_read : Section → List ℕ → Option Reading
begin_read s body = if is_order (number true (drop 8 body)) then Some (passed (begun s)) else None

-- it describes one more interface
abbrev pub interface_read : Section → List ℕ → Option Reading
interface_read s body = if nat_lt (length body) 16 || nat_eq (length s.interfaces) 65536 then None
    else Some (passed (record s { interfaces = s.interfaces ++ interface_in s.is_big body ∷ []; dropped = s.dropped ++ 0 ∷ [] }))

-- how many frames it says were dropped before its own: an obsolete one in a field, where 65,535 is an unknown number, and
-- an enhanced one in its options
abbrev pub placed_drops : Bool → (kind : ℕ) → List ℕ → (by_options : ℕ) → ℕ
placed_drops big kind body n = if nat_eq kind 2
    then (if nat_eq (short_number big (drop 10 body)) 65535 then 0 else short_number big (drop 10 body))
    else (if nat_eq kind 6 then n else 0)

abbrev pub dropped_before : (count : ℕ) → Frame → Option Dropped
dropped_before count f = missing (record { count = count; number = f.number; time = f.time; interface = f.interface })

abbrev pub with_drops : (count : ℕ) → Frame → Record
with_drops count f = record { dropped = dropped_before count f; frame = Some f }

-- its frame has the next number
abbrev pub frame_here : Section → Placed → Interface → List ℕ → Frame
frame_here s p i body = block_frame p i s.first (next_number s.last) (frame_direction s.is_big p body) body

abbrev pub frame_given : Section → (kind : ℕ) → List ℕ → Placed → Interface → Reading
frame_given s kind body p i = record {
  gives = with_drops (placed_drops s.is_big kind body (drop_count s.is_big (options_behind s.is_big p body))) (frame_here s p i body);
  after = record s { last = next_number s.last };
}

-- an interface with its number was described, and all octets are there that it says are kept
abbrev pub frame_of : Section → (kind : ℕ) → List ℕ → Placed → Option Interface → Option Reading
frame_of s kind body p None = None
frame_of s kind body p (Some i) = if nat_le p.kept (length body - p.from) then Some (frame_given s kind body p i) else None

abbrev pub frame_in : Section → (kind : ℕ) → List ℕ → Option Placed → Option Reading
frame_in s kind body None = None
frame_in s kind body (Some p) = frame_of s kind body p (slice_get s.interfaces p.which)

-- it has a frame
abbrev pub frame_read : Section → (kind : ℕ) → List ℕ → Option Reading
frame_read s kind body = frame_in s kind body (placed_in s.is_big kind (first_snap s.interfaces) body)

-- how many frames its options say were dropped so far: 5 by the interface, 7 by the system
abbrev pub dropped_so_far : Bool → List BlockOption → ℕ
dropped_so_far big os = min (count_of big (last_value 5 os) + count_of big (last_value 7 os)) (2 ^ 64 - 1)

abbrev pub stamp_in : Bool → List ℕ → ℕ
stamp_in big body = number big (drop 12 body) * 4294967296 + number big (drop 16 body)

-- that many more than at the last statistics of its interface
abbrev pub more_dropped : Section → (which : ℕ) → (now before : ℕ) → Interface → List ℕ → Reading
more_dropped s which now before i body = record {
  gives = record {
    dropped = missing (record { count = now - before; number = s.last; time = Some (time_of i (stamp_in s.is_big body)); interface = min (s.first + which) (2 ^ 32 - 1) });
    frame = None;
  };
  after = record s { dropped = slice_set s.dropped which now };
}

abbrev pub statistics_of : Section → (which : ℕ) → List ℕ → Option Interface → (before : Option ℕ) → Reading
statistics_of s which body None before = passed s
statistics_of s which body (Some i) None = passed s
statistics_of s which body (Some i) (Some before) = more_dropped s which (dropped_so_far s.is_big (options_in s.is_big (drop 20 body))) before i body

-- it has the statistics of an interface; those of none that was described are passed over
abbrev pub statistics_read : Section → List ℕ → Reading
statistics_read s body = if nat_lt (length body) 20 then passed s
    else statistics_of s (number s.is_big (drop 8 body)) body (slice_get s.interfaces (number s.is_big (drop 8 body))) (slice_get s.dropped (number s.is_big (drop 8 body)))

-- it has something else, and is passed over; some are numbered
abbrev pub other_read : Section → (kind : ℕ) → List ℕ → Reading
other_read s kind body = if nat_eq kind 5 then statistics_read s body
    else passed (if is_numbered kind then record s { last = next_number s.last } else s)

-- ---- a block

-- by its type: the first one begins a section, 1 describes an interface; 2 is an obsolete block with a frame, 3 a simple one
-- and 6 an enhanced one
abbrev pub content_read : Section → (kind : ℕ) → List ℕ → Option Reading
content_read s kind body =
    if nat_eq kind 0x0A0D0D0A then begin_read s body
    else (if nat_eq kind 1 then interface_read s body
    else (if nat_eq kind 2 || nat_eq kind 3 || nat_eq kind 6 then frame_read s kind body
    else Some (other_read s kind body)))

-- what is known of a block's section in the byte order from it on
abbrev pub ordered : Section → (block : List ℕ) → Section
ordered s block = record s { is_big = order_at s.is_big block }

abbrev pub whole_read : Section → List ℕ → Option Reading
whole_read s block = content_read s (number s.is_big block) (body_of s.is_big block)

-- octets that are one block, by its type; none where they are not, or the block is damaged
abbrev pub block_read : Section → List ℕ → Option Reading
block_read s block = if is_whole (order_at s.is_big block) block then whole_read (ordered s block) block else None
