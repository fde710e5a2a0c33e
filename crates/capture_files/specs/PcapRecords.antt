-- The records of a pcap file.
use Rattle.std.specs.Prelude.{◌≡◌, ℕ, ◌+◌, ◌-◌, ◌*◌, ◌<◌, ◌≤◌, ◌||◌, Bool, false, List, Some, drop, get_or, length, max, nat_eq, nat_lt, pos, take, if◌then◌else◌}
use Rattle.capture_model.specs.Frames.{Frame}
use Rattle.capture_model.specs.declared.frame.Direction.{Direction}
use Rattle.capture_model.specs.declared.frame.Direction.TheVariants.{Unknown, Received, Sent}
use Rattle.capture_files.specs.declared.pcap.PcapForm.{PcapForm}
use Rattle.capture_files.specs.declared.pcap.RecordHeader.{RecordHeader}
use Rattle.capture_files.specs.declared.pcap.RecordHeader.TheVariants.{Plain, Nokia, Modified, Suse}
use Rattle.capture_files.specs.Numbers.{number}

-- how many octets the header of a record has
abbrev pub header_size : RecordHeader → ℕ
header_size Plain = 16
header_size Nokia = 20
header_size Modified = 24
header_size Suse = 28

-- how many octets of its frame the record at the front keeps
abbrev pub kept : PcapForm → List ℕ → ℕ
kept f file = number f.is_big (drop 8 file)

-- how many octets it says that its frame had on the line
abbrev pub said : PcapForm → List ℕ → ℕ
said f file = number f.is_big (drop 12 file)

-- no record says more octets than one may have, or a frame without octets
abbrev pub is_impossible : PcapForm → List ℕ → Bool
is_impossible f file = nat_lt f.largest (kept f file) || nat_eq (said f file) 0

-- how many octets that frame had on the line, without its check sequence
abbrev pub line_length : PcapForm → List ℕ → ℕ
line_length f file = max (kept f file) (said f file) - f.check

-- the nanoseconds of its time
abbrev pub nanoseconds : PcapForm → List ℕ → ℕ
nanoseconds f file = number f.is_big file * 1000000000 + number f.is_big (drop 4 file) * (if f.is_nano then 1 else 1000)

-- the direction by a packet type of Linux
abbrev pub direction_of_kind : ℕ → Direction
direction_of_kind kind = if nat_lt kind 3 then Received else (if nat_eq kind 4 then Sent else Unknown)

-- the modified forms have that type at octet 22 of the header
abbrev pub direction_in : RecordHeader → List ℕ → Direction
direction_in Plain octets = Unknown
direction_in Nokia octets = Unknown
direction_in Modified octets = direction_of_kind (get_or octets 22 0)
direction_in Suse octets = direction_of_kind (get_or octets 22 0)

-- the frame of a record, whole or its first octets
abbrev pub pcap_frame : PcapForm → (number : ℕ) → List ℕ → Frame
pcap_frame f n octets = record {
  number = n;
  link = f.link;
  octets = take (line_length f octets) (drop (header_size f.header) octets);
  length = line_length f octets;
  direction = direction_in f.header octets;
  interface = 0;
  time = Some (record { count = pos (nanoseconds f octets) });
}

-- a record begins at the front: its header is there, and says what a record may say
pub record Begins (f : PcapForm) (file : List ℕ) : Type 0 where
  pub head : header_size f.header ≤ length file
  pub fits : is_impossible f file ≡ false

-- octets that are one record
pub record IsRecord (f : PcapForm) (octets : List ℕ) : Type 0 where
  pub begins : Begins f octets
  pub whole : length octets ≡ header_size f.header + kept f octets

-- octets that are the beginning of a record
pub record IsCutRecord (f : PcapForm) (octets : List ℕ) : Type 0 where
  pub begins : Begins f octets
  pub cut : length octets < header_size f.header + kept f octets
