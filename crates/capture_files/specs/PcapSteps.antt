-- What a reader of a pcap file does next.
use Rattle.std.specs.Prelude.{◌≡◌, ◌+◌, ◌<◌, ◌≤◌, ℕ, List, [], ◌++◌, Option, None, Some, true, IfSome, IsSome, length}
use Rattle.capture_files.specs.declared.entry.Entry.{Entry}
use Rattle.capture_files.specs.declared.pcap.PcapForm.{PcapForm}
use Rattle.capture_files.specs.declared.pcap_reader.Pcap.{Pcap}
use Rattle.capture_files.specs.declared.pcap_reader.RecordStart.{RecordStart}
use Rattle.capture_files.specs.declared.pcap_reader.RecordStart.TheVariants.{End, HeaderCut, Impossible, Record}
use Rattle.capture_files.specs.Entries.{frame_at}
use Rattle.capture_files.specs.Numbers.{next_number}
use Rattle.capture_files.specs.PcapRecords.{Begins, IsCutRecord, IsRecord, header_size, is_impossible, kept, pcap_frame}
use Rattle.capture_files.specs.Windows.{WindowView}

-- what begins at the front of a file
abbrev pub IsStart : PcapForm → List ℕ → RecordStart → Type 0
IsStart f file End = length file ≡ 0
IsStart f file (HeaderCut n) = (0 < length file) × (length file < header_size f.header)
IsStart f file (Impossible n) = (header_size f.header ≤ length file) × (is_impossible f file ≡ true)
IsStart f file (Record n) = Begins f file × (n ≡ header_size f.header + kept f file)

-- the entry of octets of the file, of which others are ahead
pub record IsPcapEntry (p : Pcap) (octets ahead : List ℕ) (e : Entry) : Type 0 where
  -- its frame is that of these octets, and has the next number
  pub frame : IfSome e.frame (λ h. (h.from + h.kept ≤ length octets) × (frame_at h octets ≡ pcap_frame p.form (next_number p.number) octets))
  -- they are one record, or the beginning of one
  pub whole : IsSome e.frame → e.damage ≡ None → IsRecord p.form octets
  pub cut : IsSome e.frame → IsSome e.damage → IsCutRecord p.form octets × (ahead ≡ [])
  -- there is no frame only in a search, or where no record begins
  pub none : p.search ≡ None → e.frame ≡ None → Begins p.form (octets ++ ahead) → ⊥

abbrev pub IsPcapStep : Pcap → WindowView → Option Entry → Type 0
IsPcapStep p w None = (p.search ≡ None) × (w.last ≡ []) × (w.ahead ≡ [])
IsPcapStep p w (Some e) = IsPcapEntry p w.last w.ahead e
