-- What a reader of a capture file does next, in either format.
use Rattle.std.specs.Prelude.{◌≡◌, ℕ, List, [], Option, length}
use Rattle.capture_files.specs.declared.entry.Entry.{Entry}
use Rattle.capture_files.specs.declared.capture.CaptureFile.{CaptureFile}
use Rattle.capture_files.specs.declared.capture.CaptureFile.TheVariants.{Pcap, Pcapng}
use Rattle.capture_files.specs.BlockSteps.{IsBlockStep}
use Rattle.capture_files.specs.PcapHeaders.{IsHeader}
use Rattle.capture_files.specs.PcapSteps.{IsPcapStep}
use Rattle.capture_files.specs.Windows.{WindowView}

-- a file was opened, and its header was consumed: of a pcap file 24 octets, of a pcapng file none
abbrev pub IsOpened : ℕ → (header : List ℕ) → CaptureFile → Type 0
IsOpened number header (Pcap p) = IsHeader header p.form × (length header ≡ 24) × (p.number ≡ number)
IsOpened number header (Pcapng p) = (header ≡ []) × (p.interfaces.items ≡ []) × (p.number ≡ number)

-- the number of the last frame that a reader came to
abbrev pub number_of : CaptureFile → ℕ
number_of (Pcap p) = p.number
number_of (Pcapng p) = p.number

-- a step is one of the format
abbrev pub IsStep : (before after : CaptureFile) → WindowView → Option Entry → Type 0
IsStep (Pcap p) (Pcap q) w e = IsPcapStep p w e
IsStep (Pcapng p) (Pcapng q) w e = IsBlockStep p q w e
IsStep (Pcap p) (Pcapng q) w e = ⊥
IsStep (Pcapng p) (Pcap q) w e = ⊥
