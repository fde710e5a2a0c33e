-- The frames of the blocks of a pcapng file.
use Rattle.std.specs.Prelude.{ℕ, ◌+◌, ◌-◌, ◌*◌, ◌/◌, ◌^◌, ◌+ℤ◌, ◌*ℤ◌, Bool, List, Option, None, Some, drop, length, max, min, nat_eq, nat_lt, pos, take, if◌then◌else◌}
use Rattle.std.specs.Option.{option_map}
use Rattle.capture_model.specs.Frames.{Frame}
use Rattle.capture_model.specs.declared.time.Nanos.{Nanos}
use Rattle.capture_model.specs.declared.frame.Direction.{Direction}
use Rattle.capture_files.specs.declared.interface.Interface.{Interface}
use Rattle.capture_files.specs.declared.packet_block.Placed.{Placed}
use Rattle.capture_files.specs.Blocks.{block_length}
use Rattle.capture_files.specs.Numbers.{number, short_number}
use Rattle.capture_files.specs.Options.{BlockOption, direction_by, flags_in, options_in, padded}

-- the time that a timestamp says: the seconds of the offset, and a number of units
abbrev pub time_of : Interface → ℕ → Nanos
time_of i stamp = record { count = i.offset *ℤ pos 1000000000 +ℤ pos (stamp * 1000000000 / max i.units 1) }

-- a block without its second length, as far as it is there
abbrev pub body_of : Bool → List ℕ → List ℕ
body_of big octets = take (block_length big octets - 4) octets

-- where a simple block has its frame; there is none where it is too short
abbrev pub simple_in : Bool → (snap : ℕ) → List ℕ → Option Placed
simple_in big snap block = if nat_lt (length block) 12 then None else Some (record {
  which = 0;
  from = 12;
  kept = if nat_eq snap 0 then number big (drop 8 block) else min (number big (drop 8 block)) snap;
  length = number big (drop 8 block);
  stamp = None;
})

-- where an enhanced block has its frame, or an obsolete one of type 2
abbrev pub packet_in : Bool → (kind : ℕ) → List ℕ → Option Placed
packet_in big kind block = if nat_lt (length block) 28 then None else Some (record {
  which = if nat_eq kind 2 then short_number big (drop 8 block) else number big (drop 8 block);
  from = 28;
  kept = number big (drop 20 block);
  length = number big (drop 24 block);
  stamp = Some (number big (drop 12 block) * 4294967296 + number big (drop 16 block));
})

abbrev pub placed_in : Bool → (kind snap : ℕ) → List ℕ → Option Placed
placed_in big kind snap block = if nat_eq kind 3 then simple_in big snap block else packet_in big kind block

-- the options of a block, behind its frame
abbrev pub options_behind : Bool → Placed → List ℕ → List BlockOption
options_behind big p block = options_in big (drop (p.from + padded p.kept) block)

-- the direction that its flags say
abbrev pub frame_direction : Bool → Placed → List ℕ → Direction
frame_direction big p block = direction_by (flags_in big (options_behind big p block))

-- how many octets the frame had on the line, without its check sequence
abbrev pub frame_length : Placed → Interface → ℕ
frame_length p i = max p.kept p.length - i.check

-- the frame of a block: `first` is the number of the first interface of its section
abbrev pub block_frame : Placed → Interface → (first number : ℕ) → Direction → List ℕ → Frame
block_frame p i first n direction block = record {
  number = n;
  link = i.link;
  octets = take (frame_length p i) (take p.kept (drop p.from block));
  length = frame_length p i;
  direction = direction;
  interface = min (first + p.which) (2 ^ 32 - 1);
  time = option_map (time_of i) p.stamp;
}
