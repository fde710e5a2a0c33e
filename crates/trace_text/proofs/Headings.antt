-- Each interface has a text with its header and no row.
use Rattle.std.proofs.Common.{rules, ◌≡◌, ◌∙◌, sym, ap, refl, ℕ, suc, zero, ◌+◌, ◌-◌, ◌*◌, ◌<◌, ◌≤◌, Bool, true, false, List, [], ◌∷◌, ◌++◌, length, drop, replicate, Some, None, arith, length-append, get_or, ◌&&◌, ◌||◌}
use Rattle.std.specs.Prelude.{codes, nat_le, nat_lt, ◌==◌, not, slice_index}
use Rattle.std.specs.Char.{is_ascii_digit}
use Rattle.std.specs.Fmt.{decimal}
use Rattle.std.specs.List.{filter_map, list_all, list_any}
use Rattle.std.specs.Option.{option_and_then}
use Rattle.std.proofs.lemmas.Bool.{le-leb, leb-true, ne_eqb}
use Rattle.std.proofs.lemmas.Bool.Decides.{nat_tests}
use Rattle.std.proofs.lemmas.Fmt.{decimal_is_IsNumeral, decimal_digit, decimal_nonempty, digits_decimal, first_decimal, length-decimal-le}
use Rattle.std.proofs.lemmas.Str.Parse.{IsDigitsTest, numerals_by_value}
use Rattle.line_model.specs.basics.Limits.{is_channels, is_numbering, packet_sizes}
use Rattle.line_model.specs.declared.interface.Interface.{Interface}
use Rattle.line_model.specs.text.Header.{header_numbers, interface_of, interface_with, number_of, numbers_in, words_of}
use Rattle.line_model.specs.text.Text.{Line, begun_line, content_of, contents_kind, early, early_rows, ended_lines, first_fault, form_kind, has_header, head_in, head_of, header_kind, is_comment, is_some_line, last_number, last_or, line_kind, row_number, rows_in, size_of}
use Rattle.line_model.proofs.LineLemmas.{no_content, size_kind-zero}
use Rattle.line_model.specs.text.RowLine.{row_of}
use Rattle.line_model.proofs.TextLemmas.{HasNoLf, begun-lf, begun-more, ended-lf, ended-more, size_of-ended}
use Rattle.trace_text.specs.Blocks.{IsAtRows, IsHeading}
use Rattle.trace_text.specs.Cuts.{Lacks}
use Rattle.trace_text.specs.Progress.{Progress}
use Rattle.trace_text.proofs.BlockLemmas.{comment_sound, fits, first_sound, seam}
use Rattle.trace_text.proofs.CutLemmas.{words-found, words-none}
use Rattle.trace_text.proofs.FeedLemmas.{early-none, rows-sound}
use Rattle.trace_text.proofs.HeaderLemmas.{numbers_of, own_numbers}
use Rattle.trace_text.proofs.NumberLemmas.{both}
use Rattle.trace_text.proofs.RowFront.{lacks-append, number_lacks}

-- a word of at most 9 bytes
record IsWord (word : List ℕ) : Type 0 where
  no_space : Lacks 32 word
  no_lf : Lacks 10 word
  short : length word ≤ 9

abbrev AreWords : List (List ℕ) → Type 0
AreWords [] = Unit {0}
AreWords (word ∷ words) = IsWord word × AreWords words

-- the words, parted by single spaces
abbrev line_of : List (List ℕ) → List ℕ
line_of [] = []
line_of (word ∷ []) = word
line_of (word ∷ next ∷ words) = word ++ 32 ∷ line_of (next ∷ words)

line_words : (word : List ℕ) (words : List (List ℕ)) → AreWords (word ∷ words) → words_of (line_of (word ∷ words)) ≡ word ∷ words
line_words word [] h = words-none 32 word h.0.no_space
line_words word (next ∷ words) h = words-found 32 word (line_of (next ∷ words)) h.0.no_space ∙ ap (λ ws. word ∷ ws) (line_words next words h.1)

line_lacks : (words : List (List ℕ)) → AreWords words → Lacks 10 (line_of words)
line_lacks [] h = refl
line_lacks (word ∷ []) h = h.0.no_lf
line_lacks (word ∷ next ∷ words) h = lacks-append 10 word (32 ∷ line_of (next ∷ words)) h.0.no_lf (line_lacks (next ∷ words) h.1)

line_short : (words : List (List ℕ)) → AreWords words → length (line_of words) ≤ 10 * length words
line_short [] h = omega arith
line_short (word ∷ []) h = let few = h.0.short in omega (arith, few)
line_short (word ∷ next ∷ words) h = let few = h.0.short in omega (arith, few, length-append word (32 ∷ line_of (next ∷ words)), line_short (next ∷ words) h.1)

tests_all : IsDigitsTest (λ ds. list_all is_ascii_digit ds ≡ true)
tests_all = search rules

all_digits : (n : ℕ) → n < 65536 → list_all is_ascii_digit (decimal n) ≡ true
all_digits n h = digits_decimal (numerals_by_value (λ ds. list_all is_ascii_digit ds ≡ true) tests_all) n (omega (arith, h))

no_zero : (n : ℕ) → n < 65536 → ((length (decimal n) == 1) || not (slice_index (decimal n) 0 == 48)) ≡ true
no_zero zero h = rw (decimal_digit 0 (omega arith)) refl
no_zero (suc n) h =
    let first : 48 < get_or (decimal (suc n)) 0 0 = first_decimal (suc n) (omega arith) (omega (arith, h)) in
    let other : not (slice_index (decimal (suc n)) 0 == 48) ≡ true = ap not (ne_eqb (get_or (decimal (suc n)) 0 0) 48 (λ e. absurd (omega (arith, first, e)))) in
    either (length (decimal (suc n)) == 1) (not (slice_index (decimal (suc n)) 0 == 48)) other
  where
    either : (a b : Bool) → b ≡ true → (a || b) ≡ true
    either true b e = refl
    either false b e = e

decimal_short : (n : ℕ) → n < 65536 → length (decimal n) ≤ 9
decimal_short n h = length-decimal-le 9 n (omega arith) (omega (arith, h)) (omega (arith, h))

decimal_number : (n : ℕ) → n < 65536 → number_of (decimal n) ≡ Some n
decimal_number n h =
    let numeral = decimal_is_IsNumeral n (omega (arith, h)) in
    let some : nat_le 1 (length (decimal n)) ≡ true = le-leb 1 (length (decimal n)) (decimal_nonempty n (omega (arith, h))) in
    let few : nat_le (length (decimal n)) 9 ≡ true = le-leb (length (decimal n)) 9 (decimal_short n h) in
    rw (some, few, all_digits n h, no_zero n h) (ap Some numeral.1)

decimal_word : (n : ℕ) → n < 65536 → IsWord (decimal n)
decimal_word n h = record {
  no_space = number_lacks 32 (decimal n) refl (all_digits n h);
  no_lf = number_lacks 10 (decimal n) refl (all_digits n h);
  short = decimal_short n h;
}

-- the words of a header
abbrev joined : Bool → List (List ℕ)
joined true = codes "JOIN" ∷ []
joined false = []

-- where gaps are rows the version is another one
abbrev version : (gaps : Bool) → List ℕ
version true = codes "3"
version false = codes "2"

abbrev later_words : Interface → List (List ℕ)
later_words i =
    version i.gaps ∷ codes "MOD" ∷ decimal i.modulus ∷ codes "WIN" ∷ decimal i.window ∷ codes "SIZE" ∷ decimal i.size ∷ codes "PVC" ∷ decimal i.pvc
    ∷ codes "IN" ∷ decimal i.incoming ∷ codes "TWO" ∷ decimal i.two_way ∷ codes "OUT" ∷ decimal i.svc ∷ joined i.join

abbrev header_words : Interface → List (List ℕ)
header_words i = codes "X25" ∷ later_words i

-- the numbers of an interface are small
record IsSmall (i : Interface) : Type 0 where
  modulus : i.modulus < 65536
  window : i.window < 65536
  size : i.size < 65536
  pvc : i.pvc < 65536
  incoming : i.incoming < 65536
  two_way : i.two_way < 65536
  svc : i.svc < 65536

modulus_small : (m : ℕ) → ((m == 8) || (m == 128)) ≡ true → m < 65536
modulus_small m h = grind (arith, nat_tests)

size_small : (n : ℕ) → list_any (λ m. n == m) packet_sizes ≡ true → n < 65536
size_small n h = grind (arith, nat_tests)

is_small : (i : Interface) → IsSmall i
is_small i =
    let all = both (is_numbering i.modulus i.window) (list_any (λ n. i.size == n) packet_sizes && is_channels i.pvc i.incoming i.two_way i.svc) i.lawful in
    let numbering = both ((i.modulus == 8) || (i.modulus == 128)) (nat_le 1 i.window && nat_lt i.window i.modulus) all.0 in
    let modulus = modulus_small i.modulus numbering.0 in
    let window : i.window < i.modulus = leb-true (suc i.window) i.modulus (both (nat_le 1 i.window) (nat_lt i.window i.modulus) numbering.1).1 in
    let rest = both (list_any (λ n. i.size == n) packet_sizes) (is_channels i.pvc i.incoming i.two_way i.svc) all.1 in
    let channels = both (nat_le 1 i.svc && nat_le i.svc 4095) (nat_le i.pvc i.incoming && (nat_le i.incoming i.two_way && nat_le i.two_way i.svc)) rest.1 in
    let svc : i.svc ≤ 4095 = leb-true i.svc 4095 (both (nat_le 1 i.svc) (nat_le i.svc 4095) channels.0).1 in
    let ranges = both (nat_le i.pvc i.incoming) (nat_le i.incoming i.two_way && nat_le i.two_way i.svc) channels.1 in
    let pvc : i.pvc ≤ i.incoming = leb-true i.pvc i.incoming ranges.0 in
    let later = both (nat_le i.incoming i.two_way) (nat_le i.two_way i.svc) ranges.1 in
    let incoming : i.incoming ≤ i.two_way = leb-true i.incoming i.two_way later.0 in
    let two_way : i.two_way ≤ i.svc = leb-true i.two_way i.svc later.1 in
    record {
      modulus = modulus;
      window = omega (arith, window, modulus);
      size = size_small i.size rest.0;
      pvc = omega (arith, pvc, incoming, two_way, svc);
      incoming = omega (arith, incoming, two_way, svc);
      two_way = omega (arith, two_way, svc);
      svc = omega (arith, svc);
    }

name : (word : List ℕ) → Lacks 32 word → Lacks 10 word → nat_le (length word) 9 ≡ true → IsWord word
name word space lf few = record { no_space = space; no_lf = lf; short = grind (arith, nat_tests) }

joined_words : (join : Bool) → AreWords (joined join)
joined_words true = (name (codes "JOIN") refl refl refl, tt)
joined_words false = tt

version_word : (gaps : Bool) → IsWord (version gaps)
version_word true = name (codes "3") refl refl refl
version_word false = name (codes "2") refl refl refl

are_words : (i : Interface) → IsSmall i → AreWords (header_words i)
are_words i s =
    (name (codes "X25") refl refl refl, (version_word i.gaps, (name (codes "MOD") refl refl refl, (decimal_word i.modulus s.modulus, (name (codes "WIN") refl refl refl, (decimal_word i.window s.window, (name (codes "SIZE") refl refl refl, (decimal_word i.size s.size, (name (codes "PVC") refl refl refl, (decimal_word i.pvc s.pvc, (name (codes "IN") refl refl refl, (decimal_word i.incoming s.incoming, (name (codes "TWO") refl refl refl, (decimal_word i.two_way s.two_way, (name (codes "OUT") refl refl refl, (decimal_word i.svc s.svc, joined_words i.join))))))))))))))))

words_numbers : (m w s p a t o : List ℕ) (modulus window size pvc incoming two_way svc : ℕ) (join gaps : Bool)
    → number_of m ≡ Some modulus → number_of w ≡ Some window → number_of s ≡ Some size → number_of p ≡ Some pvc → number_of a ≡ Some incoming → number_of t ≡ Some two_way → number_of o ≡ Some svc
    → numbers_in (codes "X25" ∷ version gaps ∷ codes "MOD" ∷ m ∷ codes "WIN" ∷ w ∷ codes "SIZE" ∷ s ∷ codes "PVC" ∷ p ∷ codes "IN" ∷ a ∷ codes "TWO" ∷ t ∷ codes "OUT" ∷ o ∷ joined join)
    ≡ Some (record { modulus = modulus; window = window; size = size; pvc = pvc; incoming = incoming; two_way = two_way; svc = svc; join = join; gaps = gaps })
words_numbers m w s p a t o modulus window size pvc incoming two_way svc true true hm hw hs hp ha ht ho = rw (hm, hw, hs, hp, ha, ht, ho) refl
words_numbers m w s p a t o modulus window size pvc incoming two_way svc true false hm hw hs hp ha ht ho = rw (hm, hw, hs, hp, ha, ht, ho) refl
words_numbers m w s p a t o modulus window size pvc incoming two_way svc false true hm hw hs hp ha ht ho = rw (hm, hw, hs, hp, ha, ht, ho) refl
words_numbers m w s p a t o modulus window size pvc incoming two_way svc false false hm hw hs hp ha ht ho = rw (hm, hw, hs, hp, ha, ht, ho) refl

abbrev header_of : Interface → List ℕ
header_of i = line_of (header_words i)

header_says : (i : Interface) → IsSmall i → header_numbers (header_of i) ≡ Some (numbers_of i)
unfolding header_numbers
header_says i s =
    ap numbers_in (line_words (codes "X25") (later_words i) (are_words i s))
    ∙ words_numbers (decimal i.modulus) (decimal i.window) (decimal i.size) (decimal i.pvc) (decimal i.incoming) (decimal i.two_way) (decimal i.svc) i.modulus i.window i.size i.pvc i.incoming i.two_way i.svc i.join i.gaps
    (decimal_number i.modulus s.modulus) (decimal_number i.window s.window) (decimal_number i.size s.size) (decimal_number i.pvc s.pvc) (decimal_number i.incoming s.incoming) (decimal_number i.two_way s.two_way) (decimal_number i.svc s.svc)

header_interface : (i : Interface) → IsSmall i → interface_of (header_of i) ≡ Some i
unfolding interface_of
header_interface i s = ap (λ n. option_and_then interface_with n) (header_says i s) ∙ own_numbers i

header_sound : (i : Interface) → IsSmall i → header_kind (header_of i) ≡ None
unfolding header_kind
header_sound i s = rw (header_says i s, header_interface i s) refl

-- a comment, and the header
abbrev comment_of : Interface → List ℕ
comment_of i = 35 ∷ replicate (197 - length (header_of i)) 35

abbrev heading_of : Interface → List ℕ
heading_of i = (comment_of i ++ 10 ∷ []) ++ (header_of i ++ 10 ∷ [])

header_short : (i : Interface) → IsSmall i → length (header_of i) ≤ 170
header_short i s = omega (arith, line_short (header_words i) (are_words i s), seventeen i.join)
  where
    seventeen : (join : Bool) → length (joined join) ≤ 1
    seventeen true = omega arith
    seventeen false = omega arith

one_line : (l : Line) → HasNoLf l → ended_lines (l ++ 10 ∷ []) ≡ l ∷ []
one_line l h = ended-lf l ∙ ap (λ ls. ls ++ begun_line l ∷ []) (ended-more [] l h) ∙ ap (λ (x : Line). x ∷ []) (begun-more [] l h)

same_bytes : (n : ℕ) → HasNoLf (replicate n 35)
same_bytes zero = refl
same_bytes (suc n) = same_bytes n

heading_lines : (i : Interface) → IsSmall i → ended_lines (heading_of i) ≡ comment_of i ∷ header_of i ∷ []
heading_lines i s =
    (seam (comment_of i ++ 10 ∷ []) (header_of i ++ 10 ∷ []) (begun-lf (comment_of i))).lines
    ∙ ap (λ ls. ls ++ ended_lines (header_of i ++ 10 ∷ [])) (one_line (comment_of i) (same_bytes (197 - length (header_of i))))
    ∙ ap (λ ls. comment_of i ∷ ls) (one_line (header_of i) (line_lacks (header_words i) (are_words i s)))

heading_begun : (i : Interface) → begun_line (heading_of i) ≡ []
heading_begun i = (seam (comment_of i ++ 10 ∷ []) (header_of i ++ 10 ∷ []) (begun-lf (comment_of i))).begun ∙ begun-lf (header_of i)

heading_bytes : (i : Interface) → IsSmall i → length (heading_of i) ≡ 200
heading_bytes i s =
    omega (arith, header_short i s, length-append (comment_of i ++ 10 ∷ []) (header_of i ++ 10 ∷ []), length-append (comment_of i) (10 ∷ []), length-append (header_of i) (10 ∷ []), length-replicate (197 - length (header_of i)))
  where
    length-replicate : (n : ℕ) → length {A = ℕ} (replicate n 35) ≡ n
    length-replicate zero = refl
    length-replicate (suc n) = omega (arith, length-replicate n)

first_form_sound : (es : List Line) (l : Line) → has_header es ≡ false → is_comment l ≡ false → header_kind l ≡ None → form_kind es l ≡ None
unfolding contents_kind head_of
first_form_sound es l none plain h = rw (plain, no_content es none) h

judged_first : (es : List Line) (l : Line) → length l ≤ 8500 → size_of es + length l + 1 ≤ 1073741824 → form_kind es l ≡ None → line_kind es 1 l ≡ None
judged_first es l few room form = rw (fits (size_of es) (length l) few room) form

comment_alone : (c : Line) → is_comment c ≡ true → has_header (c ∷ []) ≡ false
unfolding has_header
comment_alone c h = rw h refl

heading_sound : (i : Interface) → IsSmall i → early (heading_of i) ≡ None
heading_sound i s =
    let c = comment_of i in
    let h = header_of i in
    let short = header_short i s in
    let bytes : length (comment_of i) + length (header_of i) ≡ 198 = omega (arith, heading_bytes i s, length-append (comment_of i ++ 10 ∷ []) (header_of i ++ 10 ∷ []), length-append (comment_of i) (10 ∷ []), length-append (header_of i) (10 ∷ [])) in
    let first : line_kind [] 1 (comment_of i) ≡ None = judged_first [] (comment_of i) (omega (arith, bytes)) (omega (arith, bytes)) (comment_sound (head_of []) (last_number []) (comment_of i) refl) in
    let second : line_kind (comment_of i ∷ []) 1 (header_of i) ≡ None = judged_first (comment_of i ∷ []) (header_of i) (omega (arith, bytes)) (omega (arith, bytes)) (first_form_sound (comment_of i ∷ []) (header_of i) (comment_alone (comment_of i) refl) refl (header_sound i s)) in
    early-none (heading_of i)
    (ap (first_fault []) (heading_lines i s) ∙ first_sound [] (comment_of i) (header_of i ∷ []) first (first_sound (comment_of i ∷ []) (header_of i) [] second refl))
    (rw (heading_begun i) (size_kind-zero (size_of (ended_lines (heading_of i))) (omega (arith, size_of-ended (heading_of i), heading_bytes i s))))

heading : (i : Interface) → IsSmall i → IsHeading i (heading_of i)
heading i s = record {
  header = header_of i;
  content = ap content_of (heading_lines i s);
  interface = header_interface i s;
  whole = heading_begun i;
  sound = heading_sound i s;
  lines = ap (λ (ls : List Line). length ls) (heading_lines i s);
  bytes = heading_bytes i s;
}

pub heading_head : (i : Interface) (h : List ℕ) (is : IsHeading i h) → head_of (ended_lines h) ≡ Some i
unfolding head_of
heading_head i h is = ap head_in is.content ∙ is.interface

pub heading_header : (i : Interface) (h : List ℕ) → IsHeading i h → has_header (ended_lines h) ≡ true
unfolding has_header
heading_header i h is = ap is_some_line is.content

pub heading_last : (i : Interface) (h : List ℕ) → IsHeading i h → last_number (ended_lines h) ≡ 0
unfolding last_number
heading_last i h is = ap (λ ls. last_or 0 (filter_map row_number (drop 1 ls))) is.content

pub heading_rows : (i : Interface) (h : List ℕ) → IsHeading i h → rows_in (ended_lines h) ≡ []
unfolding rows_in
heading_rows i h is = ap (λ ls. filter_map row_of (drop 1 ls)) is.content

pub at_rows : (i : Interface) (reader : Progress) → reader ≡ record { ended = 2; start = 200; interface = Some i; last = 0; begun = []; refused = None } → IsAtRows i reader
at_rows i reader e =
    let is = heading i (is_small i) in
    record {
      heading = heading_of i;
      is = is;
      represented = rw e (record {
        ended = sym is.lines;
        start = omega (arith, size_of-ended (heading_of i), is.bytes, ap (λ (l : Line). length l) is.whole);
        interface = sym (heading_head i (heading_of i) is);
        header = sym (heading_header i (heading_of i) is);
        last = sym (heading_last i (heading_of i) is);
        begun = sym is.whole;
        sound = is.sound;
        running = refl;
      });
    }

-- it writes no row
pub heading_alone : (i : Interface) (h : List ℕ) → IsHeading i h → early_rows h ≡ []
heading_alone i h is = rows-sound h is.sound ∙ heading_rows i h is
