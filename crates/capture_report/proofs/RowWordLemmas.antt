-- The line of a row, as it is read.
use Rattle.std.proofs.Common.{◌≡◌, ◌∙◌, sym, subst, ap, refl, ℕ, ◌/◌, ◌^◌, ◌<◌, ◌≤◌, Bool, true, false, List, [], ◌∷◌, ◌++◌, length, length-append, take, take_all, get_or, Option, Some, None, arith, rules}
use Rattle.std.specs.Prelude.{codes, decimal, IfSome, nat_le, nat_lt, not, ◌==◌, ◌&&◌, is_none, slice_index, if◌then◌else◌}
use Rattle.std.specs.Char.{is_ascii_digit}
use Rattle.std.specs.List.{list_all, list_any, slice_index_or}
use Rattle.std.specs.Option.{option_and_then, option_map}
use Rattle.std.specs.Str.{bytes_eq}
use Rattle.std.specs.Str.Parse.{digits_value}
use Rattle.std.proofs.lemmas.Bool.{eqb-true, le-leb, leb-true, lt-ltb, ne_eqb, or_parts}
use Rattle.std.proofs.lemmas.Fmt.{decimal_is_IsNumeral, decimal_is_IsNumeral_wide, first_decimal, length-decimal-le}
use Rattle.std.proofs.lemmas.List.Folds.{list_any_none}
use Rattle.std.proofs.lemmas.Slice.Eq.{bytes_eq-Decides}
use Rattle.std.proofs.lemmas.Str.Parse.{IsDigitsTest, numerals_by_value}
use Rattle.hex.specs.Hex.{IsBytes, encode_upper, encode_with, is_hex_digit, upper_digits}
use Rattle.hex.proofs.HexLemmas.{decode_of-encode_upper, decode_of-ok, length-encode_with}
use Rattle.line_model.specs.basics.Records as trace
use Rattle.line_model.specs.basics.Limits.{is_channels, is_numbering, packet_sizes}
use Rattle.line_model.specs.declared.fault.Kind.{Kind}
use Rattle.line_model.specs.declared.fault.Kind.TheVariants.{Hex, LineForm, Number, Side as SideKind}
use Rattle.line_model.specs.declared.interface.Interface.{Interface}
use Rattle.line_model.specs.declared.state.Side.{Side}
use Rattle.line_model.specs.declared.state.Side.TheVariants.{T, N}
use Rattle.line_model.specs.text.Header.{number_of, words_of}
use Rattle.line_model.specs.text.RowLine.{RowWords, gap_in, gap_kind, is_gap_word, is_within, kind_behind, octets_of, packet_kind, row_kind, row_numbered, row_of, row_words, side_of, words_kind}
use Rattle.line_model.specs.text.Text.{is_comment}
use Rattle.line_model.proofs.TextRows.{no_gap_word, packet_written}
use Rattle.trace_text.specs.Cuts.{Lacks}
use Rattle.trace_text.specs.RowTexts.{octets_word, side_letter}
use Rattle.trace_text.proofs.BlockLemmas.{WritesRow}
use Rattle.trace_text.proofs.CutLemmas.{words-found, words-none}
use Rattle.trace_text.proofs.NumberLemmas.{both, number_is}
use Rattle.trace_text.proofs.RowFront.{lacks-append, number_lacks}
use Rattle.trace_text.proofs.RowLemmas.{octets_of-ok}
use Rattle.capture_report.specs.Contents.{Content, Gap, Packet}
use Rattle.capture_report.specs.Texts.{channel_text}
use Rattle.capture_report.specs.TraceRows.{IsContent, IsWithin, trace_row}
use mathlib.Core.Bool.{and-false}

-- ---- the words

tests_all : IsDigitsTest (λ ds. list_all is_ascii_digit ds ≡ true)
tests_all = search rules

pub decimal_passes : (n : ℕ) → n < 10 ^ 64 → list_all is_ascii_digit (decimal n) ≡ true
decimal_passes n small = (numerals_by_value (λ ds. list_all is_ascii_digit ds ≡ true) tests_all).from (decimal n) (decimal_is_IsNumeral_wide n small).0.1

number_word : (n : ℕ) → 0 < n → n < 1000000000 → number_of (decimal n) ≡ Some n
number_word n some small =
    let wide : n < 2 ^ 64 = omega (arith, small) in
    let numeral = decimal_is_IsNumeral n wide in
    let first = first_decimal n some wide in
    let whole : take (length (decimal n)) (decimal n) ≡ decimal n = take_all (length (decimal n)) (decimal n) (omega arith) in
    rw whole at (number_is (decimal n) (length (decimal n)) n (omega (arith, numeral.0.0)) (length-decimal-le 9 n (omega arith) (omega (arith, small)) wide) (omega arith)
    (ap (list_all is_ascii_digit) whole ∙ decimal_passes n (omega (arith, small)))
    (ne_eqb (get_or (decimal n) 0 0) 48 (λ e. absurd (omega (arith, e, first))))
    (sym (ap (λ ds. digits_value 10 ds) whole ∙ numeral.1)))

other_byte : (v : Bool) (b byte : ℕ) → (b == byte) ≡ v → is_hex_digit b ≡ true → is_hex_digit byte ≡ false → v ≡ false
other_byte false b byte e h k = refl
other_byte true b byte e h k = absurd (let digit : is_hex_digit byte ≡ true = ap is_hex_digit (sym (eqb-true b byte e)) ∙ h in cc)

-- a word of a line, with at most so many bytes
pub record IsWord (most : ℕ) (word : List ℕ) : Type 0 where
  pub no_space : Lacks 32 word
  pub no_lf : Lacks 10 word
  pub some : 0 < length word
  pub few : length word ≤ most

pub decimal_word : (k n : ℕ) → 0 < k → n < 10 ^ k → n < 2 ^ 64 → IsWord k (decimal n)
decimal_word k n some fits wide =
    let digits = decimal_passes n (omega (arith, wide)) in
    record {
      no_space = number_lacks 32 (decimal n) refl digits;
      no_lf = number_lacks 10 (decimal n) refl digits;
      some = (decimal_is_IsNumeral n wide).0.0;
      few = length-decimal-le k n some fits wide;
    }

digits_lack : (byte : ℕ) (octets : List ℕ) → IsBytes octets → is_hex_digit byte ≡ false → Lacks byte (encode_upper octets)
digits_lack byte octets bytes other =
    let all = (decode_of-ok (encode_upper octets) octets (decode_of-encode_upper octets bytes)).1 in
    list_any_none (λ b. b == byte) (encode_upper octets) (λ k d l. other_byte (slice_index_or (encode_upper octets) k d == byte) (slice_index_or (encode_upper octets) k d) byte refl (all k d l) other)

octets_are_word : (octets : List ℕ) → IsBytes octets → length octets ≤ 4200 → IsWord 8400 (octets_word octets)
octets_are_word [] bytes few = record { no_space = refl; no_lf = refl; some = omega arith; few = omega arith }
octets_are_word (o ∷ os) bytes few =
    let long = length-encode_with upper_digits (o ∷ os) in
    record {
      no_space = digits_lack 32 (o ∷ os) bytes refl;
      no_lf = digits_lack 10 (o ∷ os) bytes refl;
      some = omega (arith, long);
      few = omega (arith, long, few);
    }

no_dash : (o : ℕ) (os : List ℕ) → bytes_eq (encode_upper (o ∷ os)) (codes "-") ≡ false
unfolding encode_with
no_dash o os = and-false (slice_index upper_digits (o / 16) == 45)

octets_read : (octets : List ℕ) → IsBytes octets → length octets ≤ 4200 → octets_of (octets_word octets) ≡ Some octets
unfolding octets_of
octets_read [] bytes few = refl
octets_read (o ∷ os) bytes few =
    octets_of-ok (encode_upper (o ∷ os)) (o ∷ os) (no_dash o os) (omega (arith, length-encode_with upper_digits (o ∷ os), few)) (decode_of-encode_upper (o ∷ os) bytes)

-- the number of a channel
pub few_channels : (i : Interface) → i.svc ≤ 4095
few_channels i =
    let all = both (is_numbering i.modulus i.window) (list_any (λ n. i.size == n) packet_sizes && is_channels i.pvc i.incoming i.two_way i.svc) i.lawful in
    let channels = both (list_any (λ n. i.size == n) packet_sizes) (is_channels i.pvc i.incoming i.two_way i.svc) all.1 in
    let svc = both (nat_le 1 i.svc && nat_le i.svc 4095) (nat_le i.pvc i.incoming && (nat_le i.incoming i.two_way && nat_le i.two_way i.svc)) channels.1 in
    leb-true i.svc 4095 (both (nat_le 1 i.svc) (nat_le i.svc 4095) svc.0).1

abbrev pub HasChannel : Interface → Option ℕ → Type 0
HasChannel i c = IfSome c (λ k. (1 ≤ k) × (k ≤ i.svc))

channel_word : (i : Interface) (c : Option ℕ) → HasChannel i c → IsWord 8400 (channel_text c)
channel_word i None h = record { no_space = refl; no_lf = refl; some = omega arith; few = omega arith }
channel_word i (Some k) h =
    let word = decimal_word 4 k (omega arith) (omega (arith, h, few_channels i)) (omega (arith, h, few_channels i)) in
    record { no_space = word.no_space; no_lf = word.no_lf; some = word.some; few = let few = word.few in omega (arith, few) }

channel_read : (i : Interface) (c : Option ℕ) → HasChannel i c → gap_in (channel_text c) ≡ Some c
channel_read i None h = refl
channel_read i (Some k) h =
    let number : number_of (decimal k) ≡ Some k = number_word k (omega (arith, h)) (omega (arith, h, few_channels i)) in
    rw (not_all (bytes_eq (decimal k) (codes "*")) refl number, number) refl
  where
    not_all : (b : Bool) → bytes_eq (decimal k) (codes "*") ≡ b → number_of (decimal k) ≡ Some k → b ≡ false
    not_all false e number = refl
    not_all true e number = absurd (let none : None ≡ Some k = ap number_of (sym ((bytes_eq-Decides (decimal k) (codes "*")).0 e)) ∙ number in cc)

channel_is_within : (i : Interface) (c : Option ℕ) → HasChannel i c → is_within i.svc c ≡ true
channel_is_within i None h = refl
channel_is_within i (Some k) h = rw (le-leb 1 k h.0, le-leb k i.svc h.1) refl

-- ---- what the words of a row say

-- what a row may say after a header of this interface
abbrev pub Fits : Interface → Content → Type 0
Fits i c = IsContent c × IsWithin i c

channel_of : (i : Interface) (c : Option ℕ) → Fits i (Gap c) → HasChannel i c
channel_of i None h = tt
channel_of i (Some k) h = (h.0.0, h.1.1)

abbrev pub letter_of : Content → ℕ
letter_of (Packet s octets) = side_letter s
letter_of (Gap c) = 63

abbrev pub third_word : Content → List ℕ
third_word (Packet s octets) = octets_word octets
third_word (Gap c) = channel_text c

abbrev words_for : ℕ → Content → RowWords
words_for n c = record { number = decimal n; side = letter_of c ∷ []; hex = third_word c }

abbrev pub content_line : ℕ → Content → List ℕ
content_line n c = decimal n ++ 32 ∷ letter_of c ∷ 32 ∷ third_word c

letter_names : (s : Side) → side_of (side_letter s ∷ []) ≡ Some s
letter_names T = refl
letter_names N = refl

letter_lacks : (c : Content) → Lacks 32 (letter_of c ∷ []) × Lacks 10 (letter_of c ∷ [])
letter_lacks (Packet T octets) = (refl, refl)
letter_lacks (Packet N octets) = (refl, refl)
letter_lacks (Gap c) = (refl, refl)

third_is_word : (i : Interface) (c : Content) → Fits i c → IsWord 8400 (third_word c)
third_is_word i (Packet s octets) h = octets_are_word octets h.0.0 h.0.1
third_is_word i (Gap c) h = channel_word i c (channel_of i c h)

abbrev judged : Option Side → Option (List ℕ) → Option Kind
judged side octets = if is_none side then Some SideKind else if is_none octets then Some Hex else None

abbrev kind_by : Interface → RowWords → Bool → Option Kind
kind_by i w b = elim b [ true ↦ gap_kind i.svc w | false ↦ packet_kind w ]

packet_sound : (i : Interface) (w : RowWords) (s : Side) (octets : List ℕ) → side_of w.side ≡ Some s → octets_of w.hex ≡ Some octets → kind_behind i w ≡ None
packet_sound i w s octets named is =
    ap (kind_by i w) (ap (λ b. i.gaps && b) (no_gap_word w.side s named) ∙ and-false i.gaps)
    ∙ ap (λ o. judged o (octets_of w.hex)) named ∙ ap (λ o. judged (Some s) o) is

abbrev gap_if : Option ℕ → Bool → Option (Option ℕ)
gap_if c b = if b then Some c else None

abbrev gap_judged : Option (Option ℕ) → Option Kind
gap_judged gap = if is_none gap then Some Hex else None

gap_sound : (i : Interface) (w : RowWords) (c : Option ℕ) → i.gaps ≡ true → is_gap_word w.side ≡ true → gap_in w.hex ≡ Some c → is_within i.svc c ≡ true → kind_behind i w ≡ None
gap_sound i w c recorded word is within =
    ap (kind_by i w) (ap (λ b. b && is_gap_word w.side) recorded ∙ word)
    ∙ ap (λ (o : Option (Option ℕ)). gap_judged (option_and_then (λ (gap : Option ℕ). gap_if gap (is_within i.svc gap)) o)) is ∙ ap (λ b. gap_judged (gap_if c b)) within

words_sound : (i : Interface) (n : ℕ) (c : Content) → Fits i c → kind_behind i (words_for n c) ≡ None
words_sound i n (Packet s octets) h = packet_sound i (words_for n (Packet s octets)) s octets (letter_names s) (octets_read octets h.0.0 h.0.1)
words_sound i n (Gap c) h = let channel = channel_of i c h in gap_sound i (words_for n (Gap c)) c h.1.0 refl (channel_read i c channel) (channel_is_within i c channel)

words_write : (i : Interface) (n : ℕ) (c : Content) → Fits i c → row_numbered (words_for n c) n ≡ Some (trace_row n c)
words_write i n (Packet s octets) h = packet_written (words_for n (Packet s octets)) n s octets (letter_names s) (octets_read octets h.0.0 h.0.1)
words_write i n (Gap c) h =
    ap (λ (o : Option (Option ℕ)). option_map (λ (gap : Option ℕ). let row : trace.Row = record { number = n; side = T; octets = []; gap = Some gap } in row) o) (channel_read i c (channel_of i c h))

-- ---- the line

no_empty : (xs : List ℕ) → 0 < length xs → not (length xs == 0) ≡ true
no_empty xs h = ap not (ne_eqb (length xs) 0 (λ e. absurd (omega (arith, e, h))))

line_words : (i : Interface) (n : ℕ) (c : Content) → n < 1000000000 → Fits i c → row_words (content_line n c) ≡ Some (words_for n c)
unfolding row_words
line_words i n c small h =
    let number = decimal_word 9 n (omega arith) (omega (arith, small)) (omega (arith, small)) in
    let third = third_is_word i c h in
    let letter = letter_lacks c in
    let words : words_of (content_line n c) ≡ decimal n ∷ (letter_of c ∷ []) ∷ third_word c ∷ [] =
    words-found 32 (decimal n) (letter_of c ∷ 32 ∷ third_word c) number.no_space
    ∙ ap (λ ws. decimal n ∷ ws) (words-found 32 (letter_of c ∷ []) (third_word c) letter.0 ∙ ap (λ ws. (letter_of c ∷ []) ∷ ws) (words-none 32 (third_word c) third.no_space)) in
    rw (words, no_empty (decimal n) number.some, no_empty (third_word c) third.some) refl

not_comment : (word rest : List ℕ) → 0 < length word → Lacks 35 word → is_comment (word ++ rest) ≡ false
not_comment [] rest n h = absurd (omega (arith, n))
not_comment (b ∷ bs) rest n h = (or_parts (b == 35) (list_any (λ b. b == 35) bs) h).0

number_number : (c : Content) (n : ℕ) → (trace_row n c).number ≡ n
number_number (Packet s octets) n = refl
number_number (Gap c) n = refl

line_sound : (i : Interface) (n : ℕ) (c : Content) → 0 < n → n < 1000000000 → Fits i c → (last : ℕ) → last < n → row_kind i last (content_line n c) ≡ None
unfolding row_kind
line_sound i n c some small h last more =
    let rises : (if nat_lt last n then Some n else None) ≡ Some n = rw (lt-ltb last n more) refl in
    ap (λ (ws : Option RowWords). elim ws as (λ _. Option Kind) [ None ↦ Some LineForm | Some w ↦ words_kind i last w ]) (line_words i n c small h)
    ∙ ap (λ o. if is_none (option_and_then (λ m. if nat_lt last m then Some m else None) o) then Some Number else kind_behind i (words_for n c)) (number_word n some small)
    ∙ ap (λ o. if is_none o then Some Number else kind_behind i (words_for n c)) rises
    ∙ words_sound i n c h

line_writes : (i : Interface) (n : ℕ) (c : Content) → 0 < n → n < 1000000000 → Fits i c → row_of (content_line n c) ≡ Some (trace_row n c)
unfolding row_of
line_writes i n c some small h =
    ap (λ (ws : Option RowWords). option_and_then (λ w. option_and_then (row_numbered w) (number_of w.number)) ws) (line_words i n c small h)
    ∙ ap (λ o. option_and_then (row_numbered (words_for n c)) o) (number_word n some small)
    ∙ words_write i n c h

-- what is known of the line of a row
pub record IsRowLine (i : Interface) (n : ℕ) (c : Content) : Type 0 where
  pub writes : WritesRow i (content_line n c) (trace_row n c)
  pub one_line : Lacks 10 (content_line n c)
  pub short : length (content_line n c) ≤ 8500
  pub number : (trace_row n c).number ≡ n

pub row_line : (i : Interface) (n : ℕ) (c : Content) → 0 < n → n < 1000000000 → Fits i c → IsRowLine i n c
row_line i n c some small h =
    let number = decimal_word 9 n (omega arith) (omega (arith, small)) (omega (arith, small)) in
    let third = third_is_word i c h in
    let tail : List ℕ = 32 ∷ letter_of c ∷ 32 ∷ third_word c in
    let tail_lacks : Lacks 10 tail = rw ((or_parts (letter_of c == 10) false (letter_lacks c).1).0, third.no_lf) refl in
    record {
      writes = record {
        plain = not_comment (decimal n) tail number.some (number_lacks 35 (decimal n) refl (decimal_passes n (omega (arith, small))));
        writes = line_writes i n c some small h;
        sound = λ last more. line_sound i n c some small h last (subst (λ m. last < m) (number_number c n) more);
      };
      one_line = lacks-append 10 (decimal n) tail number.no_lf tail_lacks;
      short = let few = number.few in let most = third.few in omega (arith, few, most, length-append (decimal n) tail);
      number = number_number c n;
    }
