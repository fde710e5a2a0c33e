-- The records that a pcap file has, read one by one.
use Rattle.std.proofs.Common.{◌≡◌, ◌∙◌, sym, ap, Bool, true, false, ℕ, zero, suc, ◌+◌, ◌-◌, ◌<◌, ◌≤◌, ◌⊎◌, inl, inr, List, [], ◌∷◌, ◌++◌, Option, None, Some, IfSome, IsSome, is_some, arith, drop, length, length-append, length-drop, min, nat_eq, nat_lt, refl, subst, take}
use Rattle.std.specs.Prelude.{if◌then◌else◌}
use Rattle.std.specs.Option.{option_map}
use Rattle.std.proofs.Math.Seq.{drop-append_seam, take-append_seam}
use Rattle.std.proofs.lemmas.Bool.{cases_lt, le-ltb, lt-ltb}
use Rattle.std.proofs.lemmas.List.{append-nil, take-append-le, take_min}
use Rattle.capture_files.specs.CaptureFiles.{records_by, records_of}
use Rattle.capture_model.specs.declared.reason.FileDamage.{FileDamage}
use Rattle.capture_files.specs.Entries.{frame_at}
use Rattle.capture_files.specs.Numbers.{next_number, number}
use Rattle.capture_files.specs.PcapFiles.{first_record, is_damaged, pcap_ahead, pcap_left, pcap_records, record_size, records_within}
use Rattle.capture_files.specs.PcapngFiles.{block_records}
use Rattle.capture_files.specs.PcapngRecords.{no_section}
use Rattle.capture_files.specs.PcapHeaders.{first_fitting, fitted, form_in, form_of, headers_of}
use Rattle.capture_files.specs.PcapRecords.{IsRecord, header_size, is_impossible, kept, pcap_frame}
use Rattle.capture_files.specs.Records.{Follows, Record, frame_record, record_of}
use Rattle.capture_files.specs.PcapSteps.{IsPcapEntry}
use Rattle.capture_files.specs.Windows.{IsAtEnd, Passes, still}
use Rattle.capture_files.specs.declared.entry.Entry.{Entry}
use Rattle.capture_files.specs.declared.entry.FrameHead.{FrameHead}
use Rattle.capture_files.specs.declared.pcap.PcapForm.{PcapForm}
use Rattle.capture_files.specs.declared.pcap.RecordHeader.{RecordHeader}
use Rattle.capture_files.specs.declared.pcap_reader.Pcap.{Pcap}
use Rattle.capture_files.proofs.RecordLemmas.{fits_more, header_least, number_cut, number_more}

-- the bound makes no difference
within_bound : (m n : ℕ) (f : PcapForm) (last : ℕ) (xs : List ℕ) → length xs ≤ m → length xs ≤ n → records_within m f last xs ≡ records_within n f last xs
within_bound m n f last [] l k = refl
within_bound zero n f last (x ∷ xs) l k = absurd (omega (arith, l))
within_bound (suc m) zero f last (x ∷ xs) l k = absurd (omega (arith, k))
within_bound (suc m) (suc n) f last (x ∷ xs) l k =
    let size : ℕ = record_size f (x ∷ xs) in
    let least : 16 ≤ header_size f.header = header_least f.header in
    let shorter : length (drop size (x ∷ xs)) ≡ length (x ∷ xs) - size = length-drop size (x ∷ xs) in
    let same : records_within m f (next_number last) (drop size (x ∷ xs)) ≡ records_within n f (next_number last) (drop size (x ∷ xs)) =
    within_bound m n f (next_number last) (drop size (x ∷ xs)) (omega (arith, shorter, least, l)) (omega (arith, shorter, least, k)) in
    ap (λ o. elim (is_damaged f (x ∷ xs)) [
      | true ↦ None
      | false ↦ option_map (λ rs. first_record f last (x ∷ xs) ∷ rs) o
    ]) same

-- the records from the first one, where it is damaged and where it is not
abbrev from_first : PcapForm → (last : ℕ) → List ℕ → Bool → Option (List Record)
from_first f last file bad = elim bad [
  | true ↦ None
  | false ↦ option_map (λ rs. first_record f last file ∷ rs) (pcap_records f (next_number last) (drop (record_size f file) file))
]

first_of_file : (f : PcapForm) (last : ℕ) (file : List ℕ) → 0 < length file → pcap_records f last file ≡ from_first f last file (is_damaged f file)
first_of_file f last [] some = absurd (omega (arith, some))
first_of_file f last (x ∷ xs) some =
    let size : ℕ = record_size f (x ∷ xs) in
    let least : 16 ≤ header_size f.header = header_least f.header in
    let shorter : length (drop size (x ∷ xs)) ≡ length (x ∷ xs) - size = length-drop size (x ∷ xs) in
    ap (λ o. elim (is_damaged f (x ∷ xs)) [
      | true ↦ None
      | false ↦ option_map (λ rs. first_record f last (x ∷ xs) ∷ rs) o
    ]) (within_bound (length xs) (length (drop size (x ∷ xs))) f (next_number last) (drop size (x ∷ xs)) (omega (arith, shorter, least)) (omega arith))

-- a file that is not damaged begins with a whole record
pub begins_whole : (f : PcapForm) (last : ℕ) (file : List ℕ) (records : List Record) → 0 < length file → pcap_records f last file ≡ Some records → (is_impossible f file ≡ false) × (record_size f file ≤ length file)
begins_whole f last file records some is = by_size (is_impossible f file) refl (cases_lt (length file) (record_size f file))
  where
    none : is_damaged f file ≡ true → ⊥
    none bad = cc (sym is ∙ first_of_file f last file some ∙ ap (from_first f last file) bad)

    by_size : (b : Bool) → is_impossible f file ≡ b → (length file < record_size f file) ⊎ (record_size f file ≤ length file) → (is_impossible f file ≡ false) × (record_size f file ≤ length file)
    by_size true bad y = absurd (none (rw bad refl))
    by_size false fits (inl cut) = absurd (none (rw (fits, lt-ltb (length file) (record_size f file) cut) refl))
    by_size false fits (inr whole) = (fits, whole)

-- a record at the front is the first one
pub records_more : (f : PcapForm) (last : ℕ) (one rest : List ℕ) → IsRecord f one → pcap_records f last (one ++ rest) ≡ option_map (λ rs. frame_record (pcap_frame f (next_number last) one) ∷ rs) (pcap_records f (next_number last) rest)
records_more f last one rest whole =
    let file : List ℕ = one ++ rest in
    let least : 16 ≤ header_size f.header = header_least f.header in
    let there : 16 ≤ length one = omega (arith, least, whole.begins.head) in
    let all : length file ≡ length one + length rest = length-append one rest in
    let same : kept f file ≡ kept f one = number_more f.is_big one rest 8 (omega (arith, there)) in
    let size : record_size f file ≡ length one = omega (arith, same, whole.whole) in
    let fits : is_impossible f file ≡ false = fits_more f one rest (omega (arith, there)) ∙ whole.begins.fits in
    let good : is_damaged f file ≡ false = rw (fits, le-ltb (length file) (record_size f file) (omega (arith, size, all))) refl in
    first_of_file f last file (omega (arith, there, all))
    ∙ ap (from_first f last file) good
    ∙ ap (λ k. option_map (λ rs. frame_record (pcap_frame f (next_number last) (take k file)) ∷ rs) (pcap_records f (next_number last) (drop k file))) size
    ∙ ap (λ xs. option_map (λ rs. frame_record (pcap_frame f (next_number last) xs) ∷ rs) (pcap_records f (next_number last) (drop (length one) file))) (take-append_seam one rest)
    ∙ ap (λ xs. option_map (λ rs. frame_record (pcap_frame f (next_number last) one) ∷ rs) (pcap_records f (next_number last) xs)) (drop-append_seam one rest)

-- where it is not shown what is left, nothing is said of what follows
pub follows_unshown : (before after : Option (List Record)) (next : Option Record) → ((records : List Record) → before ≡ Some records → ⊥) → Follows before after next
follows_unshown before after next none = record {
  shown = λ records is. absurd (none records is);
  end = λ records is _. absurd (none records is);
}

-- the first of several
follows_first : (after : Option (List Record)) (r : Record) → Follows (option_map (λ rs. r ∷ rs) after) after (Some r)
follows_first None r = record { shown = λ records is. cc is; end = λ records is _. cc is }
follows_first (Some rest) r = record { shown = λ records is. (rest, refl, cc is); end = λ records is none. cc none }

-- a record is consumed
pub follows_record : (p q : Pcap) (before after : Option (List ℕ)) (last : List ℕ) (r : Record) → p.search ≡ None → q.search ≡ p.search → q.form ≡ p.form → q.number ≡ next_number p.number
    → r ≡ frame_record (pcap_frame p.form (next_number p.number) last) → Passes before after last → IsRecord p.form last → Follows (pcap_left p before) (pcap_left q after) (Some r)
follows_record p q None after last r free search form number is passes whole = follows_unshown _ _ _ (λ records shown. cc shown)
follows_record p q (Some file) after last r free search form number is passes whole =
    let read = passes file refl in
    let ahead : pcap_left q after ≡ pcap_records p.form (next_number p.number) read.0 =
    ap (pcap_left q) read.1 ∙ ap (λ s. pcap_ahead s q.form q.number read.0) (search ∙ free) ∙ ap (λ f. pcap_records f q.number read.0) form ∙ ap (λ n. pcap_records p.form n read.0) number in
    let all : pcap_left p (Some file) ≡ option_map (λ rs. r ∷ rs) (pcap_left q after) =
    ap (λ s. pcap_ahead s p.form p.number file) free
    ∙ ap (pcap_records p.form p.number) read.2
    ∙ records_more p.form p.number last read.0 whole
    ∙ ap (λ x. option_map (λ rs. x ∷ rs) (pcap_records p.form (next_number p.number) read.0)) (sym is)
    ∙ ap (option_map (λ rs. r ∷ rs)) (sym ahead) in
    subst (λ o. Follows o (pcap_left q after) (Some r)) (sym all) (follows_first (pcap_left q after) r)

-- the file does not begin with a whole record
pub follows_damage : (p : Pcap) (before : Option (List ℕ)) (after : Option (List Record)) (r : Option Record) → p.search ≡ None
    → ((file : List ℕ) → before ≡ Some file → (0 < length file) × ((is_impossible p.form file ≡ false) × (record_size p.form file ≤ length file) → ⊥)) → Follows (pcap_left p before) after r
follows_damage p None after r free bad = follows_unshown _ _ _ (λ records shown. cc shown)
follows_damage p (Some file) after r free bad =
    let damaged = bad file refl in
    follows_unshown _ _ _ (λ records shown. damaged.1 (begins_whole p.form p.number file records damaged.0 (sym (ap (λ s. pcap_ahead s p.form p.number file) free) ∙ shown)))

-- the entry of a record, whole or cut by the end of the file
pub follows_entry : (p q : Pcap) (before left : Option (List ℕ)) (last ahead : List ℕ) (e : Entry) → p.search ≡ None → q.search ≡ p.search → q.form ≡ p.form → q.number ≡ next_number p.number
    → IsSome e.frame → e.dropped ≡ None → IsPcapEntry p last ahead e → Passes before (still ahead left) last → (IsSome e.damage → IsAtEnd before left) → Follows (pcap_left p before) (pcap_left q (still ahead left)) (Some (record_of last e))
follows_entry p q before left last ahead e free search form number some no_drops entry passes ends = by_damage e.damage refl
  where
    of_frame : (o : Option FrameHead) → e.frame ≡ o → IsSome o → option_map (λ h. frame_at h last) e.frame ≡ Some (pcap_frame p.form (next_number p.number) last)
    of_frame None is there = cc there
    of_frame (Some h) is there =
        let its : IfSome (Some h) (λ h. (h.from + h.kept ≤ length last) × (frame_at h last ≡ pcap_frame p.form (next_number p.number) last)) = subst (λ o. IfSome o (λ h. (h.from + h.kept ≤ length last) × (frame_at h last ≡ pcap_frame p.form (next_number p.number) last))) is entry.frame in
        ap (option_map (λ h. frame_at h last)) is ∙ ap Some its.1

    same : record_of last e ≡ frame_record (pcap_frame p.form (next_number p.number) last)
    same = ap (λ d. record { dropped = d; frame = option_map (λ h. frame_at h last) e.frame }) no_drops ∙ ap (λ x. record { dropped = None; frame = x }) (of_frame e.frame refl some)

    by_damage : (d : Option FileDamage) → e.damage ≡ d → Follows (pcap_left p before) (pcap_left q (still ahead left)) (Some (record_of last e))
    by_damage None is = follows_record p q before (still ahead left) last (record_of last e) free search form number same passes (entry.whole some is)
    by_damage (Some d) is =
        let damaged : IsSome e.damage = ap is_some is in
        let cut = entry.cut some damaged in
        follows_damage p before _ _ free (λ file shown.
        let read = passes file shown in
        let at_end : still ahead left ≡ Some [] = ap (λ xs. still xs left) cut.1 ∙ ap (still []) (ends damaged file shown) in
        let none : read.0 ≡ [] = cc (sym read.1 ∙ at_end) in
        let whole : file ≡ last = read.2 ∙ ap (λ xs. last ++ xs) none ∙ append-nil last in
        let least : 16 ≤ header_size p.form.header = header_least p.form.header in
        let some_octets : 0 < length file = omega (arith, ap length whole, least, cut.0.begins.head) in
        (some_octets, λ all. omega (arith, ap length whole, ap (kept p.form) whole, cut.0.cut, all.1)))

-- what comes next is the same after octets were read
pub follows_filled : (p : Pcap) (before filled : Option (List ℕ)) (after : Option (List Record)) (r : Option Record) → Passes before filled [] → Follows (pcap_left p filled) after r → Follows (pcap_left p before) after r
follows_filled p None filled after r passes next = follows_unshown _ _ _ (λ records shown. cc shown)
follows_filled p (Some file) filled after r passes next =
    let read = passes file refl in
    subst (λ o. Follows (pcap_left p o) after r) (read.1 ∙ ap Some (sym read.2)) next

-- what is ahead comes first in a file that is shown
pub front_shown : (before left : Option (List ℕ)) (ahead file : List ℕ) → Passes before (still ahead left) [] → before ≡ Some file → (more : List ℕ) × (left ≡ Some more) × (file ≡ ahead ++ more)
front_shown before None ahead file passes shown = cc (passes file shown).1
front_shown before (Some more) ahead file passes shown =
    let read = passes file shown in
    let whole : ahead ++ more ≡ read.0 = cc read.1 in
    (more, refl, read.2 ∙ sym whole)

-- a record that cannot be
pub follows_impossible : (p : Pcap) (before left : Option (List ℕ)) (ahead : List ℕ) (after : Option (List Record)) (r : Option Record) → p.search ≡ None → Passes before (still ahead left) []
    → header_size p.form.header ≤ length ahead → is_impossible p.form ahead ≡ true → Follows (pcap_left p before) after r
follows_impossible p before left ahead after r free passes there bad = follows_damage p before after r free (λ file shown.
    let front = front_shown before left ahead file passes shown in
    let all : length file ≡ length ahead + length front.0 = ap length front.2 ∙ length-append ahead front.0 in
    let least : 16 ≤ header_size p.form.header = header_least p.form.header in
    let same : is_impossible p.form file ≡ is_impossible p.form ahead = ap (is_impossible p.form) front.2 ∙ fits_more p.form ahead front.0 (omega (arith, there, least)) in
    (omega (arith, all, there, least), λ begins. cc (sym begins.0 ∙ same ∙ bad)))

-- the records after the header of a whole file
pub opened : (may_wait : Bool) (n : ℕ) (p : Pcap) (f : PcapForm) (header rest file : List ℕ) → file ≡ header ++ rest → length header ≡ 24 → form_in header ≡ Some f
    → p.form ≡ fitted may_wait f rest → p.number ≡ n → p.search ≡ None → pcap_left p (Some rest) ≡ records_of may_wait n file
opened may_wait n p f header rest file is size header_is form number free =
    let all : length file ≡ 24 + length rest = ap length is ∙ length-append header rest ∙ ap (λ k. k + length rest) size in
    let front : take 24 file ≡ header = ap (take 24) is ∙ ap (λ k. take k (header ++ rest)) (sym size) ∙ take-append_seam header rest in
    let back : drop 24 file ≡ rest = ap (drop 24) is ∙ ap (λ k. drop k (header ++ rest)) (sym size) ∙ drop-append_seam header rest in
    let its_form : form_of may_wait file ≡ Some (fitted may_wait f rest) =
    rw (le-ltb (length file) 24 (omega (arith, all)), front, header_is, back) refl in
    ap (λ s. pcap_ahead s p.form p.number rest) free
    ∙ ap (λ f. pcap_records f p.number rest) form
    ∙ ap (λ n. pcap_records (fitted may_wait f rest) n rest) number
    ∙ ap (pcap_records (fitted may_wait f rest) n) (sym back)
    ∙ ap (λ o. records_by o n file) (sym its_form)

-- the octets in which an old form is sought are the first ones of the file, and the last ones where it has no more
looked_at : (n : ℕ) (ahead left : List ℕ) → (n ≤ length ahead) ⊎ (left ≡ []) → (take (min (length ahead) n) ahead ≡ take n (ahead ++ left)) × (nat_lt (min (length ahead) n) n ≡ nat_lt (length (ahead ++ left)) n)
looked_at n ahead left (inl le) =
    let all : min (length ahead) n ≡ n = omega (arith, le) in (
      ap (λ k. take k ahead) all ∙ sym (take-append-le n ahead left le),
      rw (le-ltb (min (length ahead) n) n (omega (arith, all)), le-ltb (length (ahead ++ left)) n (omega (arith, length-append ahead left, le))) refl,
    )
looked_at n ahead left (inr none) = (
  ap (λ k. take k ahead) swapped ∙ take_min n ahead ∙ ap (take n) (sym whole),
  by_size (cases_lt (length ahead) n) ∙ ap (λ xs. nat_lt (length xs) n) (sym whole),
)
  where
    whole : ahead ++ left ≡ ahead
    whole = ap (λ xs. ahead ++ xs) none ∙ append-nil ahead

    swapped : min (length ahead) n ≡ min n (length ahead)
    swapped = omega arith

    by_size : (length ahead < n) ⊎ (n ≤ length ahead) → nat_lt (min (length ahead) n) n ≡ nat_lt (length ahead) n
    by_size (inl less) = rw (lt-ltb (min (length ahead) n) n (omega (arith, less)), lt-ltb (length ahead) n less) refl
    by_size (inr le) = rw (le-ltb (min (length ahead) n) n (omega (arith, le)), le-ltb (length ahead) n le) refl

-- the form of the records at the front, which were read
pub fitted_front : (may_wait : Bool) (f : PcapForm) (hs : List RecordHeader) (ahead left octets file : List ℕ) (is_end : Bool) → may_wait ≡ true → file ≡ ahead ++ left → (1048576 ≤ length ahead) ⊎ (left ≡ []) → hs ≡ headers_of f.header f.is_nano
    → octets ≡ take (min (length ahead) 1048576) ahead → is_end ≡ nat_lt (min (length ahead) 1048576) 1048576 → first_fitting f hs octets is_end ≡ fitted may_wait f file
fitted_front may_wait f hs ahead left octets file is_end waits is there is_headers is_octets is_at_end =
    let own : List RecordHeader = headers_of f.header f.is_nano in
    let look = looked_at 1048576 ahead left there in
    ap (λ x. first_fitting f x octets is_end) is_headers
    ∙ ap (λ x. first_fitting f own x is_end) (is_octets ∙ look.0)
    ∙ ap (first_fitting f own (take 1048576 (ahead ++ left))) (is_at_end ∙ look.1)
    ∙ ap (λ xs. first_fitting f own (take 1048576 xs) (nat_lt (length xs) 1048576)) (sym is)
    ∙ ap (λ b. fitted b f file) (sym waits)

-- a file that begins a section has no header of a pcap file
no_header : (may_wait : Bool) (file : List ℕ) → number true file ≡ 168627466 → form_of may_wait file ≡ None
no_header may_wait file magic = by_size (cases_lt (length file) 24)
  where
    front : 24 ≤ length file → number true (take 24 file) ≡ 168627466
    front le = number_cut true file 0 24 (omega arith) ∙ magic

    by_size : (length file < 24) ⊎ (24 ≤ length file) → form_of may_wait file ≡ None
    by_size (inl less) = rw (lt-ltb (length file) 24 less) refl
    by_size (inr le) = rw (le-ltb (length file) 24 le, front le) refl

-- its records are those of its blocks
pub begun_section : (may_wait : Bool) (n : ℕ) (ahead left file : List ℕ) → file ≡ ahead ++ left → 4 ≤ length ahead → number true ahead ≡ 168627466 → records_of may_wait n file ≡ block_records (no_section n) file
begun_section may_wait n ahead left file is there magic =
    let same : number true file ≡ 168627466 = ap (number true) is ∙ number_more true ahead left 0 (omega (arith, there)) ∙ magic in
    ap (λ o. records_by o n file) (no_header may_wait file same) ∙ ap (λ k. if nat_eq k 168627466 then block_records (no_section n) file else None) same
