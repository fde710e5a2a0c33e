-- The records of a file are those that its octets are.
use Rattle.std.proofs.Common.{◌≡◌, ◌∙◌, sym, ap, ℕ, zero, suc, ◌-◌, ◌≤◌, List, [], ◌∷◌, ◌++◌, Option, None, Some, arith, drop, length, length-drop, length-take-le, refl, subst, take}
use Rattle.std.specs.Option.{option_map}
use Rattle.std.proofs.lemmas.List.{take-append-drop}
use Rattle.capture_files.specs.Numbers.{next_number}
use Rattle.capture_files.specs.PcapFiles.{AreRecords, RecordsLaw, pcap_records, record_size}
use Rattle.capture_files.specs.PcapRecords.{IsRecord, header_size, kept, pcap_frame}
use Rattle.capture_files.specs.Records.{Record, frame_record}
use Rattle.capture_files.specs.declared.pcap.PcapForm.{PcapForm}
use Rattle.capture_files.proofs.FileLemmas.{begins_whole, records_more}
use Rattle.capture_files.proofs.RecordLemmas.{fits_cut, header_least, number_cut}

written_are_read : (f : PcapForm) (last : ℕ) (octets : List ℕ) (records : List Record) → AreRecords f last octets records → pcap_records f last octets ≡ Some records
written_are_read f last octets [] none = ap (pcap_records f last) none
written_are_read f last octets (r ∷ rs) are =
    ap (pcap_records f last) are.2
    ∙ records_more f last are.0 are.1 are.3
    ∙ ap (option_map (λ xs. frame_record (pcap_frame f (next_number last) are.0) ∷ xs)) (written_are_read f (next_number last) are.1 rs are.5)
    ∙ ap (λ x. Some (x ∷ rs)) (sym are.4)

of_rest : (o : Option (List Record)) (r : Record) (records : List Record) → option_map (λ rs. r ∷ rs) o ≡ Some records → (rs : List Record) × (o ≡ Some rs) × (records ≡ r ∷ rs)
of_rest None r records is = cc is
of_rest (Some rs) r records is = (rs, refl, cc is)

read_on : (f : PcapForm) (last : ℕ) (one rest : List ℕ) (records : List Record) → IsRecord f one → pcap_records f last (one ++ rest) ≡ Some records
    → (rs : List Record) × (pcap_records f (next_number last) rest ≡ Some rs) × (records ≡ frame_record (pcap_frame f (next_number last) one) ∷ rs)
read_on f last one rest records whole is = of_rest (pcap_records f (next_number last) rest) (frame_record (pcap_frame f (next_number last) one)) records (sym (records_more f last one rest whole) ∙ is)

read_are_written : (most : ℕ) (f : PcapForm) (last : ℕ) (octets : List ℕ) (records : List Record) → length octets ≤ most → pcap_records f last octets ≡ Some records → AreRecords f last octets records
read_are_written most f last [] records le is =
    let none : [] ≡ records = cc is in
    subst (AreRecords f last []) none refl
read_are_written zero f last (x ∷ xs) records le is = absurd (omega (arith, le))
read_are_written (suc most) f last (x ∷ xs) records le is =
    let file : List ℕ = x ∷ xs in
    let size : ℕ = record_size f file in
    let front = begins_whole f last file records (omega arith) is in
    let least : 16 ≤ header_size f.header = header_least f.header in
    let same : kept f (take size file) ≡ kept f file = number_cut f.is_big file 8 size (omega (arith, least)) in
    let all : length (take size file) ≡ size = length-take-le size file front.1 in
    let shorter : length (drop size file) ≡ length file - size = length-drop size file in
    let whole : IsRecord f (take size file) = record { begins = record { head = omega (arith, all); fits = fits_cut f file size (omega (arith, least)) ∙ front.0 }; whole = omega (arith, all, same) } in
    let parts : file ≡ take size file ++ drop size file = sym (take-append-drop size file) in
    let rest = read_on f last (take size file) (drop size file) records whole (ap (pcap_records f last) (sym parts) ∙ is) in
    let back : frame_record (pcap_frame f (next_number last) (take size file)) ∷ rest.0 ≡ records = sym rest.2 in
    subst (AreRecords f last file) back (take size file, drop size file, parts, whole, refl, read_are_written most f (next_number last) (drop size file) rest.0 (omega (arith, shorter, least, le)) rest.1)

pub records_law : RecordsLaw
records_law f last octets records = (read_are_written (length octets) f last octets records (omega arith), written_are_read f last octets records)
