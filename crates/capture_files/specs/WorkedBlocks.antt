-- A pcapng file of two sections with a frame each, octet by octet.
use Rattle.std.specs.Prelude.{◌≡◌, pos, true, List, [], ◌∷◌, ◌++◌, ℕ, None, Some}
use Rattle.capture_model.specs.Frames.{Frame}
use Rattle.capture_model.specs.declared.frame.Direction.TheVariants.{Received, Unknown}
use Rattle.capture_files.specs.CaptureFiles.{records_of}
use Rattle.capture_files.specs.Records.{Record, frame_record}

-- little-endian, of unknown length
abbrev first_section : List ℕ
first_section = 0x0A ∷ 0x0D ∷ 0x0D ∷ 0x0A ∷ 0x1C ∷ 0 ∷ 0 ∷ 0 ∷ 0x4D ∷ 0x3C ∷ 0x2B ∷ 0x1A ∷ 1 ∷ 0 ∷ 0 ∷ 0 ∷ 0xFF ∷ 0xFF ∷ 0xFF ∷ 0xFF ∷ 0xFF ∷ 0xFF ∷ 0xFF ∷ 0xFF ∷ 0x1C ∷ 0 ∷ 0 ∷ 0 ∷ []

-- of link type 207, in nanoseconds
abbrev first_interface : List ℕ
first_interface = 1 ∷ 0 ∷ 0 ∷ 0 ∷ 0x20 ∷ 0 ∷ 0 ∷ 0 ∷ 0xCF ∷ 0 ∷ 0 ∷ 0 ∷ 0 ∷ 0 ∷ 0 ∷ 0 ∷ 9 ∷ 0 ∷ 1 ∷ 0 ∷ 9 ∷ 0 ∷ 0 ∷ 0 ∷ 0 ∷ 0 ∷ 0 ∷ 0 ∷ 0x20 ∷ 0 ∷ 0 ∷ 0 ∷ []

-- an enhanced block, after 5 seconds and 7 nanoseconds: three octets of three, received
abbrev enhanced : List ℕ
enhanced = 6 ∷ 0 ∷ 0 ∷ 0 ∷ 0x30 ∷ 0 ∷ 0 ∷ 0 ∷ 0 ∷ 0 ∷ 0 ∷ 0 ∷ 1 ∷ 0 ∷ 0 ∷ 0 ∷ 7 ∷ 0xF2 ∷ 5 ∷ 0x2A ∷ 3 ∷ 0 ∷ 0 ∷ 0 ∷ 3 ∷ 0 ∷ 0 ∷ 0 ∷ 1 ∷ 0x3F ∷ 0x10 ∷ 0 ∷ 2 ∷ 0 ∷ 4 ∷ 0 ∷ 1 ∷ 0 ∷ 0 ∷ 0 ∷ 0 ∷ 0 ∷ 0 ∷ 0 ∷ 0x30 ∷ 0 ∷ 0 ∷ 0 ∷ []

-- big-endian
abbrev second_section : List ℕ
second_section = 0x0A ∷ 0x0D ∷ 0x0D ∷ 0x0A ∷ 0 ∷ 0 ∷ 0 ∷ 0x1C ∷ 0x1A ∷ 0x2B ∷ 0x3C ∷ 0x4D ∷ 0 ∷ 1 ∷ 0 ∷ 0 ∷ 0xFF ∷ 0xFF ∷ 0xFF ∷ 0xFF ∷ 0xFF ∷ 0xFF ∷ 0xFF ∷ 0xFF ∷ 0 ∷ 0 ∷ 0 ∷ 0x1C ∷ []

-- of link type 207, with two octets of each frame
abbrev second_interface : List ℕ
second_interface = 0 ∷ 0 ∷ 0 ∷ 1 ∷ 0 ∷ 0 ∷ 0 ∷ 0x14 ∷ 0 ∷ 0xCF ∷ 0 ∷ 0 ∷ 0 ∷ 0 ∷ 0 ∷ 2 ∷ 0 ∷ 0 ∷ 0 ∷ 0x14 ∷ []

-- a simple block: two octets of five
abbrev simple : List ℕ
simple = 0 ∷ 0 ∷ 0 ∷ 3 ∷ 0 ∷ 0 ∷ 0 ∷ 0x14 ∷ 0 ∷ 0 ∷ 0 ∷ 5 ∷ 3 ∷ 0x73 ∷ 0 ∷ 0 ∷ 0 ∷ 0 ∷ 0 ∷ 0x14 ∷ []

abbrev first_frame : Frame
first_frame = record { number = 1; link = 207; octets = 1 ∷ 0x3F ∷ 0x10 ∷ []; length = 3; direction = Received; interface = 0; time = Some (record { count = pos 5000000007 }) }

abbrev second_frame : Frame
second_frame = record { number = 2; link = 207; octets = 3 ∷ 0x73 ∷ []; length = 5; direction = Unknown; interface = 1; time = None }

abbrev no_frame : Record
no_frame = record { dropped = None; frame = None }

abbrev pub WorkedBlocks : Type 0
WorkedBlocks = records_of true 0 (first_section ++ first_interface ++ enhanced ++ second_section ++ second_interface ++ simple)
    ≡ Some (no_frame ∷ no_frame ∷ frame_record first_frame ∷ no_frame ∷ no_frame ∷ frame_record second_frame ∷ [])
