-- Numbers of a file at the front of more or fewer of its octets, and the records that they begin.
use Rattle.std.proofs.Common.{◌≡◌, ◌∙◌, ap, sym, Bool, true, None, ℕ, ◌+◌, ◌-◌, ◌<◌, ◌≤◌, List, ◌++◌, arith, drop, length, length-append, length-drop, length-take-le, min, refl, take, take-take}
use Rattle.std.proofs.lemmas.List.{drop-append-le, drop-take, take-append-le}
use Rattle.capture_files.specs.Numbers.{number}
use Rattle.capture_files.specs.PcapSteps.{IsPcapEntry}
use Rattle.capture_files.specs.declared.entry.Entry.{Entry}
use Rattle.capture_files.specs.declared.pcap_reader.Pcap.{Pcap}
use Rattle.capture_files.specs.PcapRecords.{Begins, IsCutRecord, IsRecord, header_size, is_impossible, kept}
use Rattle.capture_files.specs.declared.pcap.PcapForm.{PcapForm}
use Rattle.capture_files.specs.declared.pcap.RecordHeader.{RecordHeader}
use Rattle.capture_files.specs.declared.pcap.RecordHeader.TheVariants.{Plain, Nokia, Modified, Suse}

-- a number is read of four octets
pub number_of_four : (big : Bool) (xs ys : List ℕ) → take 4 xs ≡ take 4 ys → number big xs ≡ number big ys
unfolding number
number_of_four big xs ys same = rw same refl

-- a number is the same where more octets follow
pub number_more : (big : Bool) (xs ys : List ℕ) (at : ℕ) → at + 4 ≤ length xs → number big (drop at (xs ++ ys)) ≡ number big (drop at xs)
number_more big xs ys at le =
    let within : at ≤ length xs = omega (arith, le) in
    let there : 4 ≤ length (drop at xs) = omega (arith, le, length-drop at xs) in
    number_of_four big _ _ (ap (take 4) (drop-append-le at xs ys within) ∙ take-append-le 4 (drop at xs) ys there)

-- and where octets after it are cut off
pub number_cut : (big : Bool) (xs : List ℕ) (at n : ℕ) → at + 4 ≤ n → number big (drop at (take n xs)) ≡ number big (drop at xs)
number_cut big xs at n le =
    let all : n ≡ at + (n - at) = omega (arith, le) in
    let few : 4 ≤ n - at = omega (arith, le) in
    number_of_four big _ _ (ap (λ k. take 4 (drop at (take k xs))) all ∙ ap (take 4) (drop-take at (n - at) xs) ∙ take-take 4 (n - at) (drop at xs) few)

-- whether a record can be is the same where more octets follow
pub fits_more : (f : PcapForm) (xs ys : List ℕ) → 16 ≤ length xs → is_impossible f (xs ++ ys) ≡ is_impossible f xs
fits_more f xs ys le = rw (number_more f.is_big xs ys 8 (omega (arith, le)), number_more f.is_big xs ys 12 (omega (arith, le))) refl

-- and where octets after its header are cut off
pub fits_cut : (f : PcapForm) (xs : List ℕ) (n : ℕ) → 16 ≤ n → is_impossible f (take n xs) ≡ is_impossible f xs
fits_cut f xs n le = rw (number_cut f.is_big xs 8 n (omega (arith, le)), number_cut f.is_big xs 12 n (omega (arith, le))) refl

-- a record's header has at least sixteen octets
pub header_least : (h : RecordHeader) → 16 ≤ header_size h
header_least Plain = omega arith
header_least Nokia = omega arith
header_least Modified = omega arith
header_least Suse = omega arith

-- how many octets a record keeps is the same in the first n octets of more of the file
same_kept : (f : PcapForm) (old more : List ℕ) (n : ℕ) → 12 ≤ length old → 12 ≤ n → kept f (take n (old ++ more)) ≡ kept f old
same_kept f old more n there le = number_cut f.is_big (old ++ more) 8 n le ∙ number_more f.is_big old more 8 there

-- what is consumed of a record begins as it does
begun : (f : PcapForm) (old more : List ℕ) (n : ℕ) → Begins f old → header_size f.header ≤ n → n ≤ length (old ++ more) → Begins f (take n (old ++ more)) × (kept f (take n (old ++ more)) ≡ kept f old)
begun f old more n begins le there =
    let least = header_least f.header in
    let same : kept f (take n (old ++ more)) ≡ kept f old = same_kept f old more n (omega (arith, least, begins.head)) (omega (arith, least, le)) in
    (record { head = omega (arith, le, length-take-le n (old ++ more) there); fits = fits_cut f (old ++ more) n (omega (arith, least, le)) ∙ fits_more f old more (omega (arith, least, begins.head)) ∙ begins.fits }, same)

-- all octets of a record
pub whole_record : (f : PcapForm) (old more last : List ℕ) (size : ℕ) → Begins f old → size ≡ header_size f.header + kept f old → last ≡ take (min size (length (old ++ more))) (old ++ more) → size ≤ length last → IsRecord f last
whole_record f old more last size begins is taken whole =
    let n : ℕ = min size (length (old ++ more)) in
    let there : n ≤ length (old ++ more) = omega arith in
    let front : header_size f.header ≤ n = omega (arith, is, begins.head, length-append old more) in
    let begun_here = begun f old more n begins front there in
    let size_is : length last ≡ n = ap length taken ∙ length-take-le n (old ++ more) there in
    let same : kept f last ≡ kept f old = ap (kept f) taken ∙ begun_here.1 in
    record { begins = rw taken begun_here.0; whole = omega (arith, size_is, same, is, whole) }

-- those up to the end of the file
pub cut_record : (f : PcapForm) (old more last : List ℕ) (size : ℕ) → Begins f old → size ≡ header_size f.header + kept f old → last ≡ take (min size (length (old ++ more))) (old ++ more) → length last < size → IsCutRecord f last
cut_record f old more last size begins is taken cut =
    let n : ℕ = min size (length (old ++ more)) in
    let there : n ≤ length (old ++ more) = omega arith in
    let front : header_size f.header ≤ n = omega (arith, is, begins.head, length-append old more) in
    let begun_here = begun f old more n begins front there in
    let same : kept f last ≡ kept f old = ap (kept f) taken ∙ begun_here.1 in
    record { begins = rw taken begun_here.0; cut = omega (arith, same, is, cut) }

-- where a record cannot be, none begins, however the file goes on
pub none_begins : (f : PcapForm) (old more file : List ℕ) → file ≡ old ++ more → header_size f.header ≤ length old → is_impossible f old ≡ true → Begins f file → ⊥
none_begins f old more file is head bad begins =
    let there : 16 ≤ length old = omega (arith, head, header_least f.header) in
    cc (sym begins.fits ∙ ap (is_impossible f) is ∙ fits_more f old more there ∙ bad)

-- the entry of octets with which no record begins
pub no_frame : (p : Pcap) (octets ahead : List ℕ) (e : Entry) → e.frame ≡ None → (p.search ≡ None → Begins p.form (octets ++ ahead) → ⊥) → IsPcapEntry p octets ahead e
no_frame p octets ahead e is none = record {
  frame = rw is tt;
  whole = λ some. absurd (cc (rw is at some));
  cut = λ some. absurd (cc (rw is at some));
  none = λ free _. none free;
}
