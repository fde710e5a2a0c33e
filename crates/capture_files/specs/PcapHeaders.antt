-- The header of a pcap file.
use Rattle.std.specs.Prelude.{◌≡◌, ℕ, ◌*◌, ◌/◌, ◌%◌, Bool, true, false, List, [], ◌∷◌, Option, None, Some, drop, max, min, nat_eq, nat_lt, length, take, if◌then◌else◌}
use Rattle.std.specs.Option.{option_map}
use Rattle.capture_files.specs.declared.pcap.PcapForm.{PcapForm}
use Rattle.capture_files.specs.declared.pcap.RecordHeader.{RecordHeader}
use Rattle.capture_files.specs.declared.pcap.RecordHeader.TheVariants.{Plain, Nokia, Modified, Suse}
use Rattle.capture_files.specs.Numbers.{number}
use Rattle.capture_files.specs.PcapSearch.{is_followed}

-- how many octets of check sequence each frame has: where bit 26 is set, the highest four bits count them in pairs
abbrev pub check_of : ℕ → ℕ
check_of network = if nat_eq (network / 67108864 % 2) 1 then network / 268435456 * 2 else 0

-- the form in a header of 24 octets, where the first octet of a number is its highest or its lowest, and times count micro-
-- or nanoseconds. A record keeps at most as many octets as the header says, 262,144 at least and 2^24 at most
abbrev pub form_by : (is_big is_nano : Bool) → RecordHeader → List ℕ → PcapForm
form_by is_big is_nano records header = record {
  is_big = is_big;
  is_nano = is_nano;
  header = records;
  link = number is_big (drop 20 header) % 65536;
  check = check_of (number is_big (drop 20 header));
  largest = min (max (number is_big (drop 16 header)) 262144) 16777216;
}

-- that of a magic number, read as big-endian octets
abbrev pub form_of_magic : ℕ → List ℕ → Option PcapForm
form_of_magic magic header =
    if nat_eq magic 0xA1B2C3D4 then Some (form_by true false Plain header)
    else (if nat_eq magic 0xD4C3B2A1 then Some (form_by false false Plain header)
    else (if nat_eq magic 0xA1B23C4D then Some (form_by true true Plain header)
    else (if nat_eq magic 0x4D3CB2A1 then Some (form_by false true Plain header)
    else (if nat_eq magic 0xA1B2CD34 then Some (form_by true false Modified header)
    else (if nat_eq magic 0x34CDB2A1 then Some (form_by false false Modified header)
    else None)))))

abbrev pub form_in : (header : List ℕ) → Option PcapForm
form_in header = form_of_magic (number true header) header

-- the form of a file is the one of its header, or has the records of an old form with the same magic number
pub record IsHeader (header : List ℕ) (f : PcapForm) : Type 0 where
  pub records : RecordHeader
  pub form : form_in header ≡ Some (record f { header = records })

-- the headers of records that files of a form may have: its own first, then those of old forms with the same magic number
abbrev pub headers_of : RecordHeader → (is_nano : Bool) → List RecordHeader
headers_of Plain false = Plain ∷ Modified ∷ Nokia ∷ []
headers_of Plain true = Plain ∷ Plain ∷ Plain ∷ []
headers_of Nokia n = Nokia ∷ Nokia ∷ Nokia ∷ []
headers_of Modified n = Modified ∷ Suse ∷ Modified ∷ []
headers_of Suse n = Suse ∷ Suse ∷ Suse ∷ []

-- the first form with whose headers the records at the front follow each other, else the form itself
abbrev pub first_fitting : PcapForm → List RecordHeader → List ℕ → (is_end : Bool) → PcapForm
first_fitting f [] octets is_end = f
first_fitting f (h ∷ hs) octets is_end = if is_followed (record f { header = h }) octets 0 is_end then record f { header = h } else first_fitting f hs octets is_end

-- the form of records: an old one is recognised in their first 2^20 octets, where so much of a file may be read
abbrev pub fitted : (may_wait : Bool) → PcapForm → List ℕ → PcapForm
fitted false f file = f
fitted true f file = first_fitting f (headers_of f.header f.is_nano) (take 1048576 file) (nat_lt (length file) 1048576)

-- the form of a whole file
abbrev pub form_of : (may_wait : Bool) → List ℕ → Option PcapForm
form_of may_wait file = if nat_lt (length file) 24 then None else option_map (λ f. fitted may_wait f (drop 24 file)) (form_in (take 24 file))
