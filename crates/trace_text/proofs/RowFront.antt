-- A row by its front, and by the digits after it.
use Rattle.std.proofs.Common.{◌≡◌, ◌≢◌, ◌∙◌, sym, ap, refl, ℕ, ◌+◌, ◌-◌, ◌<◌, ◌≤◌, ◌%◌, Bool, true, false, List, [], ◌∷◌, ◌++◌, append_assoc, length, length-append, take, take_all, drop, get_or, Option, Some, None, Ok, arith}
use Rattle.std.specs.Prelude.{codes, nat_lt, nat_le, ◌==◌, ◌&&◌, ◌||◌, not, is_none, slice_index, if◌then◌else◌}
use Rattle.std.specs.Char.{is_ascii_digit}
use Rattle.std.specs.List.{list_all, list_any}
use Rattle.std.proofs.lemmas.List.{take-append-drop}
use Rattle.std.specs.Option.{option_and_then}
use Rattle.std.specs.Str.Parse.{digits_value}
use Rattle.std.specs.Str.{bytes_eq}
use Rattle.std.proofs.lemmas.Bool.{eqb-true, leb-true, ne_eqb, or_parts}
use Rattle.std.proofs.lemmas.Bool.Decides.{nat_tests}
use Rattle.std.proofs.lemmas.List.Elements.{All-get_or}
use Rattle.std.proofs.lemmas.List.Folds.{list_any_none}
use Rattle.hex.specs.Hex.{decode_of, is_hex_digit}
use Rattle.hex.proofs.HexLemmas.{decode_of-ok}
use Rattle.line_model.specs.text.Header.{number_of, is_number, words_of}
use Rattle.line_model.specs.text.RowLine.{RowWords, gap_kind, kind_behind, octets_of, packet_kind, rising_number, row_kind, row_numbered, row_of, row_words, side_of, words_kind}
use Rattle.line_model.specs.declared.fault.Kind.{Kind}
use Rattle.line_model.specs.declared.interface.Interface.{Interface}
use Rattle.line_model.proofs.TextRows.{no_gap_word, packet_written}
use Rattle.line_model.specs.declared.fault.Kind.TheVariants.{LineForm, Number, Side as SideKind, Hex}
use Rattle.line_model.specs.declared.state.Side.{Side}
use Rattle.trace_text.specs.Cuts.{Lacks}
use Rattle.line_model.specs.text.Text.{is_comment}
use Rattle.trace_text.specs.Digits.{BeginsOctets}
use Rattle.trace_text.specs.Reads.{BeginsLine, BeginsRow}
use Rattle.trace_text.proofs.DigitLemmas.{octets-decode, twice}
use Rattle.trace_text.proofs.CutLemmas.{words-found, words-none}
use Rattle.trace_text.proofs.NumberLemmas.{both, number_is}
use Rattle.trace_text.proofs.RowLemmas.{octets_of-ok}
use mathlib.Core.Bool.{and-false}

no_hex : (v : Bool) (b byte : ℕ) → (b == byte) ≡ v → is_hex_digit b ≡ true → is_hex_digit byte ≡ false → v ≡ false
no_hex false b byte e h k = refl
no_hex true b byte e h k = absurd (let hex : is_hex_digit byte ≡ true = ap is_hex_digit (sym (eqb-true b byte e)) ∙ h in cc)

-- hex digits lack any other byte
digits_lack : (byte : ℕ) (digits octets : List ℕ) → is_hex_digit byte ≡ false → decode_of digits ≡ Ok octets → Lacks byte digits
digits_lack byte digits octets other h =
    let all = (decode_of-ok digits octets h).1 in
    list_any_none (λ b. b == byte) digits (λ k d l. no_hex (get_or digits k d == byte) (get_or digits k d) byte refl (All-get_or (λ b. is_hex_digit b ≡ true) digits k d l all) other)

no_digit : (v : Bool) (b byte : ℕ) → (b == byte) ≡ v → is_ascii_digit b ≡ true → is_ascii_digit byte ≡ false → v ≡ false
no_digit false b byte e h k = refl
no_digit true b byte e h k = absurd (let digit : is_ascii_digit byte ≡ true = ap is_ascii_digit (sym (eqb-true b byte e)) ∙ h in cc)

-- and so do the digits of a number
pub number_lacks : (byte : ℕ) (word : List ℕ) → is_ascii_digit byte ≡ false → list_all is_ascii_digit word ≡ true → Lacks byte word
number_lacks byte [] other h = refl
number_lacks byte (b ∷ bs) other h =
    let all = both (is_ascii_digit b) (list_all is_ascii_digit bs) h in
    rw (no_digit (b == byte) b byte refl all.0 other, number_lacks byte bs other all.1) refl

not_dash : (digits : List ℕ) → length digits % 2 ≡ 0 → bytes_eq digits (codes "-") ≡ false
not_dash [] h = refl
not_dash (a ∷ []) h = absurd (omega (arith, h))
not_dash (a ∷ b ∷ ds) h = and-false (a == 45)

-- a number that rises is a word's
rises_is : (o : Option ℕ) (last number : ℕ) → option_and_then (λ n. if nat_lt last n then Some n else None) o ≡ Some number → o ≡ Some number
rises_is None last number h = cc
rises_is (Some n) last number h = above (nat_lt last n) h
  where
    above : (b : Bool) → (if b then Some n else None) ≡ Some number → Some n ≡ Some number
    above true k = k
    above false k = cc

is_word : (b : Bool) (word : List ℕ) (n m : ℕ) → is_number word ≡ b → (if b then Some n else None) ≡ Some m → (1 ≤ length word) × (length word ≤ 9)
is_word true word n m e h = let long = both (nat_le 1 (length word)) (nat_le (length word) 9) (both _ _ e).0 in (leb-true 1 (length word) long.0, leb-true (length word) 9 long.1)
is_word false word n m e h = cc

are_digits : (b : Bool) (word : List ℕ) (n m : ℕ) → is_number word ≡ b → (if b then Some n else None) ≡ Some m → list_all is_ascii_digit word ≡ true
are_digits true word n m e h =
    let rest = ((length word == 1) || not (slice_index word 0 == 48)) in
    (both (list_all is_ascii_digit word) rest (both (nat_le 1 (length word) && nat_le (length word) 9) (list_all is_ascii_digit word && rest) e).1).0
are_digits false word n m e h = cc

number_digits : (word : List ℕ) (number : ℕ) → number_of word ≡ Some number → list_all is_ascii_digit word ≡ true
number_digits word number h = are_digits (is_number word) word _ number refl h

word_length : (word : List ℕ) (number : ℕ) → number_of word ≡ Some number → (1 ≤ length word) × (length word ≤ 9)
word_length word number h = is_word (is_number word) word _ number refl h

no_empty : (xs : List ℕ) → 0 < length xs → not (length xs == 0) ≡ true
no_empty xs h = ap not (ne_eqb (length xs) 0 (λ e. absurd (omega (arith, e, h))))

front_words : (last number : ℕ) (side : Side) (line digits octets : List ℕ) (b : BeginsRow last line number side digits) → 0 < length digits → decode_of digits ≡ Ok octets → row_words line ≡ Some (record { number = b.word; side = b.letter ∷ []; hex = digits })
unfolding row_words
front_words last number side line digits octets b n h =
    let word : not (length b.word == 0) ≡ true = no_empty b.word (let long = word_length b.word number (rises_is (number_of b.word) last number b.rises) in omega (arith, long)) in
    let hex : not (length digits == 0) ≡ true = no_empty digits n in
    let words : words_of line ≡ b.word ∷ (b.letter ∷ []) ∷ digits ∷ [] =
    ap words_of b.whole ∙ words-found 32 b.word (b.letter ∷ 32 ∷ digits) b.one_word
    ∙ ap (λ ws. b.word ∷ ws) (words-found 32 (b.letter ∷ []) digits b.no_space ∙ ap (λ ws. (b.letter ∷ []) ∷ ws) (words-none 32 digits (digits_lack 32 digits octets refl h))) in
    rw (words, word, hex) refl

abbrev judged : Option Side → Option (List ℕ) → Option Kind
judged side octets = if is_none side then Some SideKind else if is_none octets then Some Hex else None

words_right : (i : Interface) (last number : ℕ) (side : Side) (octets : List ℕ) (words : RowWords) → rising_number last words.number ≡ Some number → side_of words.side ≡ Some side → octets_of words.hex ≡ Some octets → words_kind i last words ≡ None
words_right i last number side octets words n s o =
    ap (λ r. if is_none r then Some Number else kind_behind i words) n ∙ ap (λ b. elim b as (λ _. Option Kind) [ true ↦ gap_kind i.svc words | false ↦ packet_kind words ]) (and_no i.gaps (no_gap_word words.side side s))
    ∙ ap (λ r. judged r (octets_of words.hex)) s ∙ ap (λ r. judged (Some side) r) o
  where
    and_no : (g : Bool) {b : Bool} → b ≡ false → (g && b) ≡ false
    and_no true e = e
    and_no false e = refl

front_kind : (last number : ℕ) (side : Side) (line digits octets : List ℕ) → BeginsRow last line number side digits → 0 < length digits → length digits ≤ 8400 → length digits % 2 ≡ 0 → decode_of digits ≡ Ok octets → (i : Interface) → row_kind i last line ≡ None
unfolding row_kind
front_kind last number side line digits octets b n most even h i =
    let words = front_words last number side line digits octets b n h in
    let octets_are = octets_of-ok digits octets (not_dash digits even) most h in
    ap (λ (ws : Option RowWords). elim ws as (λ _. Option Kind) [ None ↦ Some LineForm | Some w ↦ words_kind i last w ]) words
    ∙ words_right i last number side octets (record { number = b.word; side = b.letter ∷ []; hex = digits }) b.rises b.names octets_are

front_row : (last number : ℕ) (side : Side) (line digits octets : List ℕ) → BeginsRow last line number side digits → 0 < length digits → length digits ≤ 8400 → length digits % 2 ≡ 0 → decode_of digits ≡ Ok octets →
    row_of line ≡ Some (record { number = number; side = side; octets = octets; gap = None })
unfolding row_of
front_row last number side line digits octets b n most even h =
    let words = front_words last number side line digits octets b n h in
    let octets_are = octets_of-ok digits octets (not_dash digits even) most h in
    let number_is = rises_is (number_of b.word) last number b.rises in
    let own : RowWords = record { number = b.word; side = b.letter ∷ []; hex = digits } in
    ap (λ (ws : Option RowWords). option_and_then (λ w. option_and_then (row_numbered w) (number_of w.number)) ws) words
    ∙ ap (λ (n : Option ℕ). option_and_then (row_numbered own) n) number_is ∙ packet_written own number side octets b.names octets_are

pub lacks-append : (byte : ℕ) (xs ys : List ℕ) → Lacks byte xs → Lacks byte ys → Lacks byte (xs ++ ys)
lacks-append byte [] ys h k = k
lacks-append byte (x ∷ xs) ys h k = let none = or_parts (x == byte) (list_any (λ b. b == byte) xs) h in rw (none.0, lacks-append byte xs ys none.1 k) refl

no_line_end : (v : Bool) (letter : ℕ) (side : Side) → (letter == 10) ≡ v → side_of (letter ∷ []) ≡ Some side → v ≡ false
no_line_end false letter side e h = refl
no_line_end true letter side e h = absurd (let none : side_of (10 ∷ []) ≡ Some side = ap (λ b. side_of (b ∷ [])) (sym (eqb-true letter 10 e)) ∙ h in cc)

not_comment : (word rest : List ℕ) → 1 ≤ length word → Lacks 35 word → is_comment (word ++ rest) ≡ false
not_comment [] rest n h = absurd (omega (arith, n))
not_comment (b ∷ bs) rest n h = (or_parts (b == 35) (list_any (λ b. b == 35) bs) h).0

-- a row's front and the digits after it, which write these octets, are a line
pub decoded-line : (last number : ℕ) (side : Side) (text after digits octets rest : List ℕ) → BeginsRow last text number side after → after ≡ digits ++ 10 ∷ rest → decode_of digits ≡ Ok octets → 0 < length octets → length octets ≤ 4200 → BeginsLine last text (record { number = number; side = side; octets = octets; gap = None }) rest
decoded-line last number side text after digits octets rest b whole decoded some most =
    let tail : List ℕ = 32 ∷ b.letter ∷ 32 ∷ digits in
    let line : List ℕ = b.word ++ tail in
    let begins : BeginsRow last line number side digits = record { word = b.word; letter = b.letter; whole = refl; one_word = b.one_word; no_space = b.no_space; rises = b.rises; names = b.names } in
    let long = (decode_of-ok digits octets decoded).2 in
    let there : 0 < length digits = omega (arith, long, some) in
    let few : length digits ≤ 8400 = omega (arith, long, most) in
    let even : length digits % 2 ≡ 0 = (decode_of-ok digits octets decoded).0 in
    let value = rises_is (number_of b.word) last number b.rises in
    let word_digits = number_digits b.word number value in
    record {
      line = line;
      whole = b.whole ∙ ap (λ xs. b.word ++ 32 ∷ b.letter ∷ 32 ∷ xs) whole ∙ sym (append_assoc b.word tail (10 ∷ rest));
      one_line = lacks-append 10 b.word tail (number_lacks 10 b.word refl word_digits) (rw (no_line_end (b.letter == 10) b.letter side refl b.names) (digits_lack 10 digits octets refl decoded));
      no_comment = not_comment b.word tail (word_length b.word number value).0 (number_lacks 35 b.word refl word_digits);
      sound = front_kind last number side line digits octets begins there few even decoded;
      writes = front_row last number side line digits octets begins there few even decoded;
    }

-- a row's front and the digits after it are a line
pub front-line : (last number : ℕ) (side : Side) (size : ℕ) (text after rest : List ℕ) → BeginsRow last text number side after → (w : BeginsOctets after size rest) → BeginsLine last text (record { number = number; side = side; octets = w.octets; gap = None }) rest
front-line last number side size text after rest b w =
    let three = w.some in
    let most = w.few in
    decoded-line last number side text after w.digits.digits w.octets rest b w.digits.whole (octets-decode w.digits.digits w.octets w.digits.octets_are) (omega (arith, w.count, three)) (omega (arith, w.count, most))

-- such a line has few bytes
pub front-few : (last number : ℕ) (side : Side) (size : ℕ) (text after rest : List ℕ) → BeginsRow last text number side after → BeginsOctets after size rest → (length rest < length text) × (length text ≤ 8501 + length rest)
front-few last number side size text after rest b w =
    let word = word_length b.word number (rises_is (number_of b.word) last number b.rises) in
    let most = w.few in
    let long = twice w.digits.digits w.octets w.digits.octets_are in
    let front = ap (λ (xs : List ℕ). length xs) b.whole in
    let back = ap (λ (xs : List ℕ). length xs) w.digits.whole in
    let one = length-append b.word (32 ∷ b.letter ∷ 32 ∷ after) in
    let other = length-append w.digits.digits (10 ∷ rest) in
    (omega (arith, front, back, one, other), omega (arith, word, most, w.count, long, front, back, one, other))

begins-three : (xs : List ℕ) (a b d : ℕ) → 3 ≤ length xs → get_or xs 0 0 ≡ a → get_or xs 1 0 ≡ b → get_or xs 2 0 ≡ d → xs ≡ a ∷ b ∷ d ∷ take (length xs - 3) (drop 3 xs)
begins-three [] a b d n e f g = absurd (omega (arith, n))
begins-three (x ∷ []) a b d n e f g = absurd (omega (arith, n))
begins-three (x ∷ y ∷ []) a b d n e f g = absurd (omega (arith, n))
begins-three (x ∷ y ∷ z ∷ xs) a b d n e f g =
    let tail : take (length (x ∷ y ∷ z ∷ xs) - 3) xs ≡ xs = take_all (length (x ∷ y ∷ z ∷ xs) - 3) xs (omega arith) in
    λ i. e i ∷ f i ∷ g i ∷ sym tail i

-- the digits at the front of a text and a side after them, each with its space
pub row-front : (last : ℕ) (text back : List ℕ) (count number letter : ℕ) (side : Side) → count ≢ 0 → count ≤ 9 → count ≤ length text → list_all is_ascii_digit (take count text) ≡ true → get_or text 0 0 ≢ 48 → number ≡ digits_value 10 (take count text) → last < number →
    back ≡ drop count text → 3 ≤ length back → get_or back 0 0 ≡ 32 → get_or back 1 0 ≡ letter → get_or back 2 0 ≡ 32 → Lacks 32 (letter ∷ []) → side_of (letter ∷ []) ≡ Some side → BeginsRow last text number side (take (length back - 3) (drop 3 back))
row-front last text back count number letter side some few there digits first v more rest long a b d apart names =
    let above : nat_lt last number ≡ true = grind (arith, nat_tests, more) in
    let value : number_of (take count text) ≡ Some number = number_is text count number (omega (arith, some)) few there digits (ne_eqb (get_or text 0 0) 48 first) v in
    record {
      word = take count text;
      letter = letter;
      whole = sym (take-append-drop count text) ∙ ap (λ xs. take count text ++ xs) (sym rest ∙ begins-three back 32 letter 32 long a b d);
      one_word = number_lacks 32 (take count text) refl digits;
      no_space = apart;
      rises = rw (value, above) refl;
      names = names;
    }
