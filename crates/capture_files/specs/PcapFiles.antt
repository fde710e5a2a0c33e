-- What a pcap file has, by its octets.
use Rattle.std.specs.Prelude.{◌≡◌, ◌↔◌, ℕ, zero, suc, ◌+◌, Bool, true, false, List, [], ◌∷◌, ◌++◌, Option, None, Some, drop, length, nat_lt, take, if◌then◌else◌}
use Rattle.std.specs.Option.{option_and_then, option_map}
use Rattle.capture_files.specs.declared.pcap.PcapForm.{PcapForm}
use Rattle.capture_files.specs.declared.pcap_reader.Pcap.{Pcap}
use Rattle.capture_files.specs.declared.pcap_reader.Search.{Search}
use Rattle.capture_files.specs.Numbers.{next_number}
use Rattle.capture_files.specs.PcapRecords.{IsRecord, header_size, is_impossible, kept, pcap_frame}
use Rattle.capture_files.specs.Records.{Record, frame_record}

-- how many octets the record at the front has
abbrev pub record_size : PcapForm → List ℕ → ℕ
record_size f file = header_size f.header + kept f file

-- the record at the front cannot be, or is cut by the end of the file
abbrev pub is_damaged : PcapForm → List ℕ → Bool
is_damaged f file = if is_impossible f file then true else nat_lt (length file) (record_size f file)

-- the frame of the record at the front, after the one of this number
abbrev pub first_record : PcapForm → (last : ℕ) → List ℕ → Record
first_record f last file = frame_record (pcap_frame f (next_number last) (take (record_size f file) file))

-- records that follow each other up to the end of the file, at most this many; none where one is damaged, or there are more
abbrev pub records_within : (most : ℕ) → PcapForm → (last : ℕ) → List ℕ → Option (List Record)
records_within most f last [] = Some []
records_within zero f last (x ∷ xs) = None
records_within (suc most) f last (x ∷ xs) = elim (is_damaged f (x ∷ xs)) [
  | true ↦ None
  | false ↦ option_map (λ rs. first_record f last (x ∷ xs) ∷ rs) (records_within most f (next_number last) (drop (record_size f (x ∷ xs)) (x ∷ xs)))
]

abbrev pub pcap_records : PcapForm → (last : ℕ) → List ℕ → Option (List Record)
pcap_records f last file = records_within (length file) f last file

-- octets are records, one behind the other, with these frames
abbrev pub AreRecords : PcapForm → (last : ℕ) → List ℕ → List Record → Type 0
AreRecords f last octets [] = octets ≡ []
AreRecords f last octets (r ∷ rs) = (one rest : List ℕ) × (octets ≡ one ++ rest) × IsRecord f one × (r ≡ frame_record (pcap_frame f (next_number last) one)) × AreRecords f (next_number last) rest rs

-- a file has those records that its octets are
abbrev pub RecordsLaw : Type 0
RecordsLaw = (f : PcapForm) (last : ℕ) (octets : List ℕ) (records : List Record) → (pcap_records f last octets ≡ Some records) ↔ AreRecords f last octets records

-- those that a reader has left; in a search after a damage it is left open which they are
abbrev pub pcap_ahead : Option Search → PcapForm → (last : ℕ) → List ℕ → Option (List Record)
pcap_ahead None f last file = pcap_records f last file
pcap_ahead (Some s) f last file = None

abbrev pub pcap_left : Pcap → Option (List ℕ) → Option (List Record)
pcap_left p file = option_and_then (pcap_ahead p.search p.form p.number) file
