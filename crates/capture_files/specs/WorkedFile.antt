-- A pcap file of two frames, octet by octet.
use Rattle.std.specs.Prelude.{◌≡◌, ℕ, pos, true, List, [], ◌∷◌, ◌++◌, Some}
use Rattle.capture_model.specs.Frames.{Frame}
use Rattle.capture_model.specs.declared.frame.Direction.TheVariants.{Unknown}
use Rattle.capture_files.specs.CaptureFiles.{records_of}
use Rattle.capture_files.specs.Records.{frame_record}

-- little-endian, in microseconds, of link type 207
abbrev header : List ℕ
header = 0xD4 ∷ 0xC3 ∷ 0xB2 ∷ 0xA1 ∷ 2 ∷ 0 ∷ 4 ∷ 0 ∷ 0 ∷ 0 ∷ 0 ∷ 0 ∷ 0 ∷ 0 ∷ 0 ∷ 0 ∷ 0xFF ∷ 0xFF ∷ 0 ∷ 0 ∷ 0xCF ∷ 0 ∷ 0 ∷ 0 ∷ []

-- 1 second and 2 microseconds, three octets of three
abbrev first : List ℕ
first = 1 ∷ 0 ∷ 0 ∷ 0 ∷ 2 ∷ 0 ∷ 0 ∷ 0 ∷ 3 ∷ 0 ∷ 0 ∷ 0 ∷ 3 ∷ 0 ∷ 0 ∷ 0 ∷ 1 ∷ 0x3F ∷ 0x10 ∷ []

-- 2 seconds, two octets of five
abbrev second : List ℕ
second = 2 ∷ 0 ∷ 0 ∷ 0 ∷ 0 ∷ 0 ∷ 0 ∷ 0 ∷ 2 ∷ 0 ∷ 0 ∷ 0 ∷ 5 ∷ 0 ∷ 0 ∷ 0 ∷ 3 ∷ 0x73 ∷ []

abbrev frame_of : (number : ℕ) (octets : List ℕ) (length time : ℕ) → Frame
frame_of n octets length time = record { number = n; link = 207; octets = octets; length = length; direction = Unknown; interface = 0; time = Some (record { count = pos time }) }

abbrev pub WorkedFile : Type 0
WorkedFile = records_of true 0 (header ++ first ++ second)
    ≡ Some (frame_record (frame_of 1 (1 ∷ 0x3F ∷ 0x10 ∷ []) 3 1000002000) ∷ frame_record (frame_of 2 (3 ∷ 0x73 ∷ []) 5 2000000000) ∷ [])
