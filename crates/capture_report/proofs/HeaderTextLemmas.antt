-- The header line of an interface is read as the interface.
use Rattle.std.proofs.Common.{rules, ◌≡◌, ◌∙◌, sym, ap, refl, ℕ, suc, zero, ◌+◌, ◌*◌, ◌<◌, ◌≤◌, Bool, true, false, List, [], ◌∷◌, ◌++◌, length, Some, arith, length-append, append-nil, append_assoc, get_or, ◌&&◌, ◌||◌}
use Rattle.std.specs.Prelude.{codes, nat_le, nat_lt, ◌==◌, not, is_none, is_some, slice_index, if◌then◌else◌}
use Rattle.std.specs.Char.{is_ascii_digit}
use Rattle.std.specs.Fmt.{decimal}
use Rattle.std.specs.List.{list_all, list_any}
use Rattle.std.specs.Option.{option_and_then}
use Rattle.std.proofs.lemmas.Bool.{eqb-true, le-leb, leb-true, ne_eqb}
use Rattle.std.proofs.lemmas.Bool.Decides.{nat_tests}
use Rattle.std.proofs.lemmas.Fmt.{decimal_is_IsNumeral, decimal_digit, decimal_nonempty, digits_decimal, first_decimal, length-decimal-le}
use Rattle.std.proofs.lemmas.Str.Parse.{IsDigitsTest, numerals_by_value}
use Rattle.line_model.specs.basics.Limits.{is_channels, is_numbering, packet_sizes}
use Rattle.line_model.specs.declared.interface.Interface.{Interface}
use Rattle.line_model.specs.text.Header.{HeaderNumbers, header_numbers, interface_of, interface_with, number_of, numbers_in, words_of}
use Rattle.line_model.specs.text.Text.{Line, begun_line, content_of, ended_lines, is_comment}
use Rattle.line_model.proofs.TextLemmas.{HasNoLf, begun-lf, begun-more, ended-lf, ended-more}
use Rattle.trace_text.specs.Cuts.{Lacks}
use Rattle.trace_text.proofs.BlockLemmas.{seam}
use Rattle.trace_text.proofs.CutLemmas.{words-found, words-none}
use Rattle.trace_text.proofs.HeaderLemmas.{numbers_of, own_numbers}
use Rattle.trace_text.proofs.NumberLemmas.{both}
use Rattle.trace_text.proofs.RowFront.{lacks-append, number_lacks}
use Rattle.capture_report.specs.HeaderTexts.{IsHead, all_estimates, channel_numbers, comment_text, estimate_text, first_numbers, form_digit, form_word, has_estimates, has_first_form, head_text, header_line, is_first_form, joining, last_name, lead, named, numbering_estimates, size_estimates, size_source, window_source}
use Rattle.capture_report.specs.Given.{has_ranges, is_whole, last_given}
use Rattle.capture_report.specs.declared.header.Seen.{Seen}
use Rattle.capture_report.specs.declared.options.GivenHeader.{GivenHeader}

-- ---- text that is appended part by part

pub three_more : (o o1 o2 o3 a b d : List ℕ) → o1 ≡ o ++ a → o2 ≡ o1 ++ b → o3 ≡ o2 ++ d → o3 ≡ o ++ (a ++ (b ++ d))
three_more o o1 o2 o3 a b d p q r =
    r ∙ ap (λ xs. xs ++ d) (q ∙ ap (λ xs. xs ++ b) p ∙ append_assoc o a b) ∙ append_assoc o (a ++ b) d ∙ ap (λ xs. o ++ xs) (append_assoc a b d)

pub four_more : (o o1 o2 o3 o4 a b d e : List ℕ) → o1 ≡ o ++ a → o2 ≡ o1 ++ b → o3 ≡ o2 ++ d → o4 ≡ o3 ++ e → o4 ≡ o ++ (a ++ (b ++ (d ++ e)))
four_more o o1 o2 o3 o4 a b d e p q r s =
    s ∙ ap (λ xs. xs ++ e) (three_more o o1 o2 o3 a b d p q r) ∙ append_assoc o (a ++ (b ++ d)) e ∙ ap (λ xs. o ++ xs) (append_assoc a (b ++ d) e ∙ ap (λ xs. a ++ xs) (append_assoc b d e))

-- ---- words

record IsWord (word : List ℕ) : Type 0 where
  no_space : Lacks 32 word
  no_lf : Lacks 10 word
  short : length word ≤ 9

abbrev AreWords : List (List ℕ) → Type 0
AreWords [] = Unit {0}
AreWords (word ∷ words) = IsWord word × AreWords words

-- the words, parted by single spaces
abbrev line_of : List (List ℕ) → List ℕ
line_of [] = []
line_of (word ∷ []) = word
line_of (word ∷ next ∷ words) = word ++ 32 ∷ line_of (next ∷ words)

line_words : (word : List ℕ) (words : List (List ℕ)) → AreWords (word ∷ words) → words_of (line_of (word ∷ words)) ≡ word ∷ words
line_words word [] h = words-none 32 word h.0.no_space
line_words word (next ∷ words) h = words-found 32 word (line_of (next ∷ words)) h.0.no_space ∙ ap (λ ws. word ∷ ws) (line_words next words h.1)

line_lacks : (words : List (List ℕ)) → AreWords words → Lacks 10 (line_of words)
line_lacks [] h = refl
line_lacks (word ∷ []) h = h.0.no_lf
line_lacks (word ∷ next ∷ words) h = lacks-append 10 word (32 ∷ line_of (next ∷ words)) h.0.no_lf (line_lacks (next ∷ words) h.1)

line_short : (words : List (List ℕ)) → AreWords words → length (line_of words) ≤ 10 * length words
line_short [] h = omega arith
line_short (word ∷ []) h = let few = h.0.short in omega (arith, few)
line_short (word ∷ next ∷ words) h = let few = h.0.short in omega (arith, few, length-append word (32 ∷ line_of (next ∷ words)), line_short (next ∷ words) h.1)

tests_all : IsDigitsTest (λ ds. list_all is_ascii_digit ds ≡ true)
tests_all = search rules

all_digits : (n : ℕ) → n < 65536 → list_all is_ascii_digit (decimal n) ≡ true
all_digits n h = digits_decimal (numerals_by_value (λ ds. list_all is_ascii_digit ds ≡ true) tests_all) n (omega (arith, h))

no_zero : (n : ℕ) → n < 65536 → ((length (decimal n) == 1) || not (slice_index (decimal n) 0 == 48)) ≡ true
no_zero zero h = rw (decimal_digit 0 (omega arith)) refl
no_zero (suc n) h =
    let first : 48 < get_or (decimal (suc n)) 0 0 = first_decimal (suc n) (omega arith) (omega (arith, h)) in
    let other : not (slice_index (decimal (suc n)) 0 == 48) ≡ true = ap not (ne_eqb (get_or (decimal (suc n)) 0 0) 48 (λ e. absurd (omega (arith, first, e)))) in
    either (length (decimal (suc n)) == 1) (not (slice_index (decimal (suc n)) 0 == 48)) other
  where
    either : (a b : Bool) → b ≡ true → (a || b) ≡ true
    either true b e = refl
    either false b e = e

decimal_short : (n : ℕ) → n < 65536 → length (decimal n) ≤ 9
decimal_short n h = length-decimal-le 9 n (omega arith) (omega (arith, h)) (omega (arith, h))

decimal_number : (n : ℕ) → n < 65536 → number_of (decimal n) ≡ Some n
decimal_number n h =
    let numeral = decimal_is_IsNumeral n (omega (arith, h)) in
    let some : nat_le 1 (length (decimal n)) ≡ true = le-leb 1 (length (decimal n)) (decimal_nonempty n (omega (arith, h))) in
    let few : nat_le (length (decimal n)) 9 ≡ true = le-leb (length (decimal n)) 9 (decimal_short n h) in
    rw (some, few, all_digits n h, no_zero n h) (ap Some numeral.1)

decimal_word : (n : ℕ) → n < 65536 → IsWord (decimal n)
decimal_word n h = record {
  no_space = number_lacks 32 (decimal n) refl (all_digits n h);
  no_lf = number_lacks 10 (decimal n) refl (all_digits n h);
  short = decimal_short n h;
}

name : (word : List ℕ) → Lacks 32 word → Lacks 10 word → nat_le (length word) 9 ≡ true → IsWord word
name word space lf few = record { no_space = space; no_lf = lf; short = leb-true (length word) 9 few }

-- ---- the numbers of an interface

record IsSmall (i : Interface) : Type 0 where
  modulus : i.modulus < 65536
  window : i.window < 65536
  size : i.size < 65536
  pvc : i.pvc < 65536
  incoming : i.incoming < 65536
  two_way : i.two_way < 65536
  svc : i.svc < 65536

modulus_small : (m : ℕ) → ((m == 8) || (m == 128)) ≡ true → m < 65536
modulus_small m h = grind (arith, nat_tests)

size_small : (n : ℕ) → list_any (λ m. n == m) packet_sizes ≡ true → n < 65536
size_small n h = grind (arith, nat_tests)

is_small : (i : Interface) → IsSmall i
is_small i =
    let all = both (is_numbering i.modulus i.window) (list_any (λ n. i.size == n) packet_sizes && is_channels i.pvc i.incoming i.two_way i.svc) i.lawful in
    let numbering = both ((i.modulus == 8) || (i.modulus == 128)) (nat_le 1 i.window && nat_lt i.window i.modulus) all.0 in
    let modulus = modulus_small i.modulus numbering.0 in
    let window : i.window < i.modulus = leb-true (suc i.window) i.modulus (both (nat_le 1 i.window) (nat_lt i.window i.modulus) numbering.1).1 in
    let rest = both (list_any (λ n. i.size == n) packet_sizes) (is_channels i.pvc i.incoming i.two_way i.svc) all.1 in
    let channels = both (nat_le 1 i.svc && nat_le i.svc 4095) (nat_le i.pvc i.incoming && (nat_le i.incoming i.two_way && nat_le i.two_way i.svc)) rest.1 in
    let svc : i.svc ≤ 4095 = leb-true i.svc 4095 (both (nat_le 1 i.svc) (nat_le i.svc 4095) channels.0).1 in
    let ranges = both (nat_le i.pvc i.incoming) (nat_le i.incoming i.two_way && nat_le i.two_way i.svc) channels.1 in
    let pvc : i.pvc ≤ i.incoming = leb-true i.pvc i.incoming ranges.0 in
    let later = both (nat_le i.incoming i.two_way) (nat_le i.two_way i.svc) ranges.1 in
    let incoming : i.incoming ≤ i.two_way = leb-true i.incoming i.two_way later.0 in
    let two_way : i.two_way ≤ i.svc = leb-true i.two_way i.svc later.1 in
    record {
      modulus = modulus;
      window = omega (arith, window, modulus);
      size = size_small i.size rest.0;
      pvc = omega (arith, pvc, incoming, two_way, svc);
      incoming = omega (arith, incoming, two_way, svc);
      two_way = omega (arith, two_way, svc);
      svc = omega (arith, svc);
    }

-- ---- the words of a header

abbrev joined : Bool → List (List ℕ)
joined true = codes "JOIN" ∷ []
joined false = []

abbrev channel_words : (is_first : Bool) → Interface → List (List ℕ)
channel_words true i = codes "SVC" ∷ decimal i.svc ∷ []
channel_words false i = codes "IN" ∷ decimal i.incoming ∷ codes "TWO" ∷ decimal i.two_way ∷ codes "OUT" ∷ decimal i.svc ∷ joined i.join

abbrev later_words : (is_first : Bool) → Interface → List (List ℕ)
later_words b i =
    (form_digit b i.gaps ∷ []) ∷ codes "MOD" ∷ decimal i.modulus ∷ codes "WIN" ∷ decimal i.window ∷ codes "SIZE" ∷ decimal i.size ∷ codes "PVC" ∷ decimal i.pvc ∷ channel_words b i

joined_words : (join : Bool) → AreWords (joined join)
joined_words true = (name (codes "JOIN") refl refl refl, tt)
joined_words false = tt

channels_are_words : (b : Bool) (i : Interface) → IsSmall i → AreWords (channel_words b i)
channels_are_words true i s = (name (codes "SVC") refl refl refl, (decimal_word i.svc s.svc, tt))
channels_are_words false i s =
    (name (codes "IN") refl refl refl, (decimal_word i.incoming s.incoming, (name (codes "TWO") refl refl refl, (decimal_word i.two_way s.two_way, (name (codes "OUT") refl refl refl, (decimal_word i.svc s.svc, joined_words i.join))))))

version_word : (b g : Bool) → IsWord (form_digit b g ∷ [])
version_word true g = name (codes "1") refl refl refl
version_word false true = name (codes "3") refl refl refl
version_word false false = name (codes "2") refl refl refl

are_words : (b : Bool) (i : Interface) → IsSmall i → AreWords (codes "X25" ∷ later_words b i)
are_words b i s =
    (name (codes "X25") refl refl refl, (version_word b i.gaps, (name (codes "MOD") refl refl refl, (decimal_word i.modulus s.modulus, (name (codes "WIN") refl refl refl, (decimal_word i.window s.window, (name (codes "SIZE") refl refl refl, (decimal_word i.size s.size, (name (codes "PVC") refl refl refl, (decimal_word i.pvc s.pvc, channels_are_words b i s))))))))))

in_order : (a b c d e : List ℕ) → (a ++ (b ++ (c ++ d))) ++ e ≡ a ++ (b ++ (c ++ (d ++ e)))
in_order a b c d e = append_assoc a (b ++ (c ++ d)) e ∙ ap (λ xs. a ++ xs) (append_assoc b (c ++ d) e ∙ ap (λ xs. b ++ xs) (append_assoc c d e))

end_is : (n : ℕ) (join : Bool) → decimal n ++ joining join ≡ line_of (decimal n ∷ joined join)
end_is n true = refl
end_is n false = append-nil (decimal n)

-- the line has these words
abbrev line_by : (is_first : Bool) → Interface → Line
line_by b i = form_word b i.gaps ++ (first_numbers i ++ channel_numbers b i)

line_is : (b : Bool) (i : Interface) → line_by b i ≡ line_of (codes "X25" ∷ later_words b i)
line_is b i =
    ap (λ xs. form_word b i.gaps ++ xs) (in_order (named (codes " MOD ") i.modulus) (named (codes " WIN ") i.window) (named (codes " SIZE ") i.size) (named (codes " PVC ") i.pvc) (channel_numbers b i)) ∙ ends b
  where
    ends : (b : Bool) → form_word b i.gaps ++ (named (codes " MOD ") i.modulus ++ (named (codes " WIN ") i.window ++ (named (codes " SIZE ") i.size ++ (named (codes " PVC ") i.pvc ++ channel_numbers b i)))) ≡ line_of (codes "X25" ∷ later_words b i)
    ends true = refl
    ends false =
        ap (λ end. form_word false i.gaps ++ (named (codes " MOD ") i.modulus ++ (named (codes " WIN ") i.window ++ (named (codes " SIZE ") i.size ++ (named (codes " PVC ") i.pvc ++ (named (codes " IN ") i.incoming ++ (named (codes " TWO ") i.two_way ++ (codes " OUT " ++ end))))))))
        (end_is i.svc i.join)

-- ---- what the words say

ranges_say : (m w s p a t o : List ℕ) (modulus window size pvc incoming two_way svc : ℕ) (join gaps : Bool)
    → number_of m ≡ Some modulus → number_of w ≡ Some window → number_of s ≡ Some size → number_of p ≡ Some pvc → number_of a ≡ Some incoming → number_of t ≡ Some two_way → number_of o ≡ Some svc
    → numbers_in (codes "X25" ∷ (form_digit false gaps ∷ []) ∷ codes "MOD" ∷ m ∷ codes "WIN" ∷ w ∷ codes "SIZE" ∷ s ∷ codes "PVC" ∷ p ∷ codes "IN" ∷ a ∷ codes "TWO" ∷ t ∷ codes "OUT" ∷ o ∷ joined join)
    ≡ Some (record { modulus = modulus; window = window; size = size; pvc = pvc; incoming = incoming; two_way = two_way; svc = svc; join = join; gaps = gaps })
ranges_say m w s p a t o modulus window size pvc incoming two_way svc true true hm hw hs hp ha ht ho = rw (hm, hw, hs, hp, ha, ht, ho) refl
ranges_say m w s p a t o modulus window size pvc incoming two_way svc true false hm hw hs hp ha ht ho = rw (hm, hw, hs, hp, ha, ht, ho) refl
ranges_say m w s p a t o modulus window size pvc incoming two_way svc false true hm hw hs hp ha ht ho = rw (hm, hw, hs, hp, ha, ht, ho) refl
ranges_say m w s p a t o modulus window size pvc incoming two_way svc false false hm hw hs hp ha ht ho = rw (hm, hw, hs, hp, ha, ht, ho) refl

first_says : (m w s p o : List ℕ) (modulus window size pvc svc : ℕ)
    → number_of m ≡ Some modulus → number_of w ≡ Some window → number_of s ≡ Some size → number_of p ≡ Some pvc → number_of o ≡ Some svc
    → numbers_in (codes "X25" ∷ codes "1" ∷ codes "MOD" ∷ m ∷ codes "WIN" ∷ w ∷ codes "SIZE" ∷ s ∷ codes "PVC" ∷ p ∷ codes "SVC" ∷ o ∷ [])
    ≡ Some (record { modulus = modulus; window = window; size = size; pvc = pvc; incoming = pvc; two_way = svc; svc = svc; join = false; gaps = false })
first_says m w s p o modulus window size pvc svc hm hw hs hp ho = rw (hm, hw, hs, hp, ho) refl

is_false : (b : Bool) → not b ≡ true → b ≡ false
is_false true h = cc
is_false false h = refl

-- the first form leaves out what follows from it
numbers_left_out : (i : Interface) → is_first_form i ≡ true
    → (let n : HeaderNumbers = record { modulus = i.modulus; window = i.window; size = i.size; pvc = i.pvc; incoming = i.pvc; two_way = i.svc; svc = i.svc; join = false; gaps = false } in n) ≡ numbers_of i
numbers_left_out i h =
    let a = both (i.incoming == i.pvc) ((i.two_way == i.svc) && (not i.join && not i.gaps)) h in
    let b = both (i.two_way == i.svc) (not i.join && not i.gaps) a.1 in
    let c = both (not i.join) (not i.gaps) b.1 in
    rw (eqb-true i.incoming i.pvc a.0, eqb-true i.two_way i.svc b.0, is_false i.join c.0, is_false i.gaps c.1) refl

words_say : (r b : Bool) (i : Interface) → IsSmall i → has_first_form r i ≡ b → numbers_in (codes "X25" ∷ later_words b i) ≡ Some (numbers_of i)
words_say r true i s h =
    first_says (decimal i.modulus) (decimal i.window) (decimal i.size) (decimal i.pvc) (decimal i.svc) i.modulus i.window i.size i.pvc i.svc
    (decimal_number i.modulus s.modulus) (decimal_number i.window s.window) (decimal_number i.size s.size) (decimal_number i.pvc s.pvc) (decimal_number i.svc s.svc)
    ∙ ap Some (numbers_left_out i (both (not r) (is_first_form i) h).1)
words_say r false i s h =
    ranges_say (decimal i.modulus) (decimal i.window) (decimal i.size) (decimal i.pvc) (decimal i.incoming) (decimal i.two_way) (decimal i.svc) i.modulus i.window i.size i.pvc i.incoming i.two_way i.svc i.join i.gaps
    (decimal_number i.modulus s.modulus) (decimal_number i.window s.window) (decimal_number i.size s.size) (decimal_number i.pvc s.pvc) (decimal_number i.incoming s.incoming) (decimal_number i.two_way s.two_way) (decimal_number i.svc s.svc)

line_says : (r : Bool) (i : Interface) → IsSmall i → header_numbers (header_line r i) ≡ Some (numbers_of i)
unfolding header_numbers
line_says r i s =
    let b = has_first_form r i in
    ap (λ line. numbers_in (words_of line)) (line_is b i) ∙ ap numbers_in (line_words (codes "X25") (later_words b i) (are_words b i s)) ∙ words_say r b i s refl

line_interface : (r : Bool) (i : Interface) → IsSmall i → interface_of (header_line r i) ≡ Some i
unfolding interface_of
line_interface r i s = ap (λ n. option_and_then interface_with n) (line_says r i s) ∙ own_numbers i

line_has_no_lf : (r : Bool) (i : Interface) → IsSmall i → Lacks 10 (header_line r i)
line_has_no_lf r i s = let b = has_first_form r i in ap (list_any (λ c. c == 10)) (line_is b i) ∙ line_lacks (codes "X25" ∷ later_words b i) (are_words b i s)

line_length : (r : Bool) (i : Interface) → IsSmall i → length (header_line r i) ≤ 180
line_length r i s =
    let b = has_first_form r i in
    let same : length (header_line r i) ≡ length (line_of (codes "X25" ∷ later_words b i)) = ap (λ (l : Line). length l) (line_is b i) in
    omega (arith, same, line_short (codes "X25" ∷ later_words b i) (are_words b i s), few b)
  where
    at_most_one : (join : Bool) → length (joined join) ≤ 1
    at_most_one true = omega arith
    at_most_one false = omega arith

    few : (b : Bool) → length (later_words b i) ≤ 16
    few true = omega arith
    few false = omega (arith, at_most_one i.join)

-- ---- the comment

-- a part of a line: how long it is, and that no LF is in it
record IsPart (xs : List ℕ) (most : ℕ) : Type 0 where
  no_lf : Lacks 10 xs
  few : length xs ≤ most

joined_parts : (xs ys : List ℕ) (a b : ℕ) → IsPart xs a → IsPart ys b → IsPart (xs ++ ys) (a + b)
joined_parts xs ys a b p q =
    let x = p.few in
    let y = q.few in
    record { no_lf = lacks-append 10 xs ys p.no_lf q.no_lf; few = omega (arith, x, y, length-append xs ys) }

words_part : (xs : List ℕ) → Lacks 10 xs → nat_le (length xs) 40 ≡ true → IsPart xs 40
words_part xs none few = record { no_lf = none; few = leb-true (length xs) 40 few }

named_part : (xs : List ℕ) → Lacks 10 xs → nat_le (length xs) 40 ≡ true → (n : ℕ) → n < 65536 → IsPart (named xs n) 49
named_part xs none few n small =
    let word = decimal_word n small in
    joined_parts xs (decimal n) 40 9 (words_part xs none few) (record { no_lf = word.no_lf; few = word.short })

source_part : (most : ℕ) → IsPart (window_source most) 40
source_part most = by (most == 0)
  where
    by : (b : Bool) → IsPart (if b then codes " (the default: no data was seen)" else codes " (the most data not acknowledged)") 40
    by true = words_part (codes " (the default: no data was seen)") refl refl
    by false = words_part (codes " (the most data not acknowledged)") refl refl

size_part : (largest : ℕ) → IsPart (size_source largest) 40
size_part largest = by (largest == 0)
  where
    by : (b : Bool) → IsPart (if b then codes " (the default: no data was seen)" else codes " (the largest user data)") 40
    by true = words_part (codes " (the default: no data was seen)") refl refl
    by false = words_part (codes " (the largest user data)") refl refl

no_part : (most : ℕ) → IsPart [] most
no_part most = record { no_lf = refl; few = omega arith }

lead_part : (after : Bool) → IsPart (lead after) 2
lead_part true = record { no_lf = refl; few = omega arith }
lead_part false = record { no_lf = refl; few = omega arith }

estimate_part : (given after : Bool) (xs : List ℕ) → Lacks 10 xs → nat_le (length xs) 40 ≡ true → (n : ℕ) → n < 65536 → (source : List ℕ) → IsPart source 40 → IsPart (estimate_text given after xs n source) 91
estimate_part true after xs none few n small source p = no_part 91
estimate_part false after xs none few n small source p = joined_parts (lead after) (named xs n ++ source) 2 89 (lead_part after) (joined_parts (named xs n) source 49 40 (named_part xs none few n small) p)

last_part : (given after b : Bool) (n : ℕ) → n < 65536 → IsPart (estimate_text given after (last_name b) n (codes " (the channels used)")) 91
last_part given after true n small = estimate_part given after (codes "SVC ") refl refl n small (codes " (the channels used)") (words_part (codes " (the channels used)") refl refl)
last_part given after false n small = estimate_part given after (codes "OUT ") refl refl n small (codes " (the channels used)") (words_part (codes " (the channels used)") refl refl)

numbering_part : (i : Interface) (v : Seen) (g : GivenHeader) → IsSmall i → IsPart (numbering_estimates i v g) 182
numbering_part i v g s =
    joined_parts _ _ 91 91 (estimate_part (is_some g.modulus) false (codes "MOD ") refl refl i.modulus s.modulus (codes " (the general format identifiers)") (words_part (codes " (the general format identifiers)") refl refl))
    (estimate_part (is_some g.window) (not (is_some g.modulus)) (codes "WIN ") refl refl i.window s.window (window_source v.most) (source_part v.most))

sizes_part : (i : Interface) (v : Seen) (g : GivenHeader) → IsSmall i → IsPart (size_estimates i v g) 182
sizes_part i v g s =
    joined_parts _ _ 91 91 (estimate_part (is_some g.size) (is_none g.modulus || is_none g.window) (codes "SIZE ") refl refl i.size s.size (size_source v.largest) (size_part v.largest))
    (estimate_part (is_some g.pvc) ((is_none g.modulus || is_none g.window) || is_none g.size) (codes "PVC ") refl refl i.pvc s.pvc (codes " (channels with data and no call)") (words_part (codes " (channels with data and no call)") refl refl))

-- the comment, whether the header is given whole or not
record IsComment (xs : List ℕ) : Type 0 where
  part : IsPart xs 495
  is_comment : is_comment xs ≡ true

comment_is : (i : Interface) (v : Seen) (g : GivenHeader) → IsSmall i → IsComment (comment_text i v g)
comment_is i v g s = by (is_whole g)
  where
    by : (b : Bool) → IsComment (if b then codes "# the header is given" else codes "# estimated from what was seen:" ++ all_estimates i v g)
    by true = record { part = record { no_lf = refl; few = omega arith }; is_comment = refl }
    by false = record {
      part = joined_parts _ _ 40 455 (words_part (codes "# estimated from what was seen:") refl refl)
          (joined_parts _ _ 182 273 (numbering_part i v g s) (joined_parts _ _ 182 91 (sizes_part i v g s) (last_part (is_some (last_given g)) (has_estimates g) (has_first_form (has_ranges g) i) i.svc s.svc)));
      is_comment = refl;
    }

-- ---- both lines

one_line : (l : Line) → HasNoLf l → ended_lines (l ++ 10 ∷ []) ≡ l ∷ []
one_line l h = ended-lf l ∙ ap (λ ls. ls ++ begun_line l ∷ []) (ended-more [] l h) ∙ ap (λ (x : Line). x ∷ []) (begun-more [] l h)

head_lines : (i : Interface) (v : Seen) (g : GivenHeader) → IsSmall i → ended_lines (head_text i v g) ≡ comment_text i v g ∷ header_line (has_ranges g) i ∷ []
head_lines i v g s =
    let c = (comment_is i v g s).part in
    let same : head_text i v g ≡ (comment_text i v g ++ 10 ∷ []) ++ (header_line (has_ranges g) i ++ 10 ∷ []) = sym (append_assoc (comment_text i v g) (10 ∷ []) (header_line (has_ranges g) i ++ 10 ∷ [])) in
    let two = seam (comment_text i v g ++ 10 ∷ []) (header_line (has_ranges g) i ++ 10 ∷ []) (begun-lf (comment_text i v g)) in
    ap ended_lines same ∙ two.lines ∙ ap (λ ls. ls ++ ended_lines (header_line (has_ranges g) i ++ 10 ∷ [])) (one_line (comment_text i v g) c.no_lf)
    ∙ ap (λ ls. comment_text i v g ∷ ls) (one_line (header_line (has_ranges g) i) (line_has_no_lf (has_ranges g) i s))

-- one of its lines is no comment: that of the header
pub head_content : (i : Interface) (v : Seen) (g : GivenHeader) → content_of (ended_lines (head_text i v g)) ≡ header_line (has_ranges g) i ∷ []
head_content i v g =
    ap content_of (head_lines i v g (is_small i)) ∙ ap (λ (b : Bool). let ls : List Line = if not b then comment_text i v g ∷ header_line (has_ranges g) i ∷ [] else header_line (has_ranges g) i ∷ [] in ls) (comment_is i v g (is_small i)).is_comment

pub header_read : (r : Bool) (i : Interface) → interface_of (header_line r i) ≡ Some i
header_read r i = line_interface r i (is_small i)

head_is : (i : Interface) (v : Seen) (g : GivenHeader) → IsSmall i → IsHead i (head_text i v g)
head_is i v g s =
    let commented = comment_is i v g s in
    let c = commented.part in
    let same : head_text i v g ≡ (comment_text i v g ++ 10 ∷ []) ++ (header_line (has_ranges g) i ++ 10 ∷ []) = sym (append_assoc (comment_text i v g) (10 ∷ []) (header_line (has_ranges g) i ++ 10 ∷ [])) in
    let two = seam (comment_text i v g ++ 10 ∷ []) (header_line (has_ranges g) i ++ 10 ∷ []) (begun-lf (comment_text i v g)) in
    let few = c.few in
    record {
      comment = comment_text i v g;
      header = header_line (has_ranges g) i;
      lines = head_lines i v g s;
      whole = ap begun_line same ∙ two.begun ∙ begun-lf (header_line (has_ranges g) i);
      is_comment = commented.is_comment;
      interface = line_interface (has_ranges g) i s;
      few = omega (arith, few, line_length (has_ranges g) i s, length-append (comment_text i v g) (10 ∷ (header_line (has_ranges g) i ++ 10 ∷ [])), length-append (header_line (has_ranges g) i) (10 ∷ []));
    }

pub head_is_read : (i : Interface) (v : Seen) (g : GivenHeader) → IsHead i (head_text i v g)
head_is_read i v g = head_is i v g (is_small i)
