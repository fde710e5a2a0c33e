-- The hex digits at the end of a row's line are those of a text.
use Rattle.std.proofs.Common.{◌≡◌, ◌∙◌, sym, ap, subst, refl, ℕ, ◌*◌, ◌==◌, ◌&&◌, ◌||◌, Bool, true, false, cond, List, [], ◌∷◌, ◌++◌, drop, length, Option, Some, None, Result, Ok, Err, append_assoc, length-append, arith}
use Rattle.std.specs.Prelude.{All, codes, nat_le, if◌then◌else◌}
use Rattle.std.specs.List.{join_with_byte}
use Rattle.std.specs.Option.{option_and_then, option_map}
use Rattle.std.specs.Result.{result_ok}
use Rattle.std.specs.Str.{bytes_eq}
use Rattle.std.proofs.Math.Seq.{drop-append_seam}
use Rattle.std.proofs.lemmas.List.Elements.{All-head, All-tail}
use Rattle.std.proofs.lemmas.List.Splits.{join_with_byte-slice_split}
use Rattle.std.proofs.lemmas.Option.{cond_some}
use Rattle.hex.specs.Hex.{decode_of, is_hex_digit}
use Rattle.hex.specs.declared.error.FromHexError.{FromHexError}
use Rattle.hex.proofs.HexLemmas.{decode_of-ok}
use Rattle.line_model.specs.basics.Records.{Row}
use Rattle.line_model.specs.declared.state.Side.{Side}
use Rattle.line_model.specs.declared.state.Side.TheVariants.{T}
use Rattle.line_model.specs.text.Header.{number_of, words_of}
use Rattle.line_model.specs.text.RowLine.{RowWords, gap_in, gap_row, is_gap_word, is_row_words, octets_of, packet_row, row_numbered, row_of, row_words, row_words_in, side_of}
use Rattle.descriptions.specs.Members.{IsText, is_plain, is_text}

plain_digit : (b : ℕ) → is_hex_digit b ≡ true → is_plain b ≡ true
plain_digit b h = grind (arith, h)

next_plain : (v x p r : Bool) → p ≡ true → r ≡ true → ((v && x) || (p && r)) ≡ true
next_plain true true p r h k = refl
next_plain true false p r h k = (λ t. h t && k t)
next_plain false x p r h k = (λ t. h t && k t)

hex_text : (word : List ℕ) → All (λ b. is_hex_digit b ≡ true) word → IsText word
hex_text [] h = refl
hex_text (b ∷ word) h =
    next_plain (b == 92) (is_text true word) (is_plain b) (is_text false word) (plain_digit b (All-head (λ c. is_hex_digit c ≡ true) b word h)) (hex_text word (All-tail (λ c. is_hex_digit c ≡ true) b word h))

same_end : (f d x y : List ℕ) → f ++ d ≡ x ++ y → length d ≡ length y → d ≡ y
same_end f d x y e len =
    let fronts : length f ≡ length x = omega (arith, length-append f d, length-append x y, ap (λ (l : List ℕ). length l) e) in
    sym (drop-append_seam f d) ∙ (λ t. drop (fronts t) (e t)) ∙ drop-append_seam x y

last_word : (words : List (List ℕ)) (w : RowWords) → row_words_in words ≡ Some w → (front : List ℕ) × (join_with_byte 32 words ≡ front ++ w.hex)
last_word (n ∷ s ∷ x ∷ []) w h =
    let same = cond_some (is_row_words n s x) (record { number = n; side = s; hex = x }) w h in (
      n ++ 32 ∷ (s ++ 32 ∷ []),
      subst (λ v. n ++ 32 ∷ (s ++ 32 ∷ x) ≡ (n ++ 32 ∷ (s ++ 32 ∷ [])) ++ v) (ap (λ v. v.hex) same.1)
          (ap (λ xs. n ++ 32 ∷ xs) (sym (append_assoc s (32 ∷ []) x)) ∙ sym (append_assoc n (32 ∷ (s ++ 32 ∷ [])) x)),
    )
last_word _ w h = absurd (cc)

word_at_end : (line : List ℕ) (w : RowWords) → row_words line ≡ Some w → (front : List ℕ) × (line ≡ front ++ w.hex)
unfolding row_words
word_at_end line w h = let l = last_word (words_of line) w h in (l.0, sym (join_with_byte-slice_split 32 line) ∙ l.1)

no_digits : (digits : List ℕ) (octets : List ℕ) → octets ≡ [] → length digits ≡ 2 * length octets → IsText digits
no_digits [] octets e len = refl
no_digits (d ∷ digits) octets e len = absurd (omega (arith, len, ap (λ (l : List ℕ). length l) e))

decoded : (word digits xs : List ℕ) (r : Result (List ℕ) FromHexError) → decode_of word ≡ r → option_and_then (λ octets. if nat_le (length octets) 4200 then Some octets else None) (result_ok r) ≡ Some xs
    → (length digits ≡ length word → digits ≡ word) → length digits ≡ 2 * length xs → IsText digits
decoded word digits xs (Err e) k h same len = absurd (cc)
decoded word digits xs (Ok ys) k h same len =
    let s = cond_some (nat_le (length ys) 4200) ys xs h in
    let ok = decode_of-ok word ys k in
    subst IsText (sym (same (omega (arith, len, ok.2, ap (λ (l : List ℕ). length l) s.1)))) (hex_text word ok.1)

octets_text : (word digits xs : List ℕ) → octets_of word ≡ Some xs → (length digits ≡ length word → digits ≡ word) → length digits ≡ 2 * length xs → IsText digits
unfolding octets_of
octets_text word digits xs h same len = at (bytes_eq word (codes "-")) h
  where
    at : (b : Bool) → cond b (Some []) (option_and_then (λ octets. if nat_le (length octets) 4200 then Some octets else None) (result_ok (decode_of word))) ≡ Some xs → IsText digits
    at true h = let none : [] ≡ xs = cc in no_digits digits xs (sym none) len
    at false h = decoded word digits xs (decode_of word) refl h same len

packet_text : (w : RowWords) (n : ℕ) (r : Row) (digits : List ℕ) → packet_row w n ≡ Some r → (length digits ≡ length w.hex → digits ≡ w.hex) → length digits ≡ 2 * length r.octets → IsText digits
packet_text w n r digits h same len = at (side_of w.side) (octets_of w.hex) refl h
  where
    at : (s : Option Side) (o : Option (List ℕ)) → octets_of w.hex ≡ o → option_and_then (λ side. option_map (λ octets. record { number = n; side = side; octets = octets; gap = None }) o) s ≡ Some r → IsText digits
    at None o e h = absurd (cc)
    at (Some side) None e h = absurd (cc)
    at (Some side) (Some xs) e h =
        let row : record { number = n; side = side; octets = xs; gap = None } ≡ r = cc in
        octets_text w.hex digits xs e same (len ∙ ap (λ (l : List ℕ). 2 * length l) (sym (ap (λ v. v.octets) row)))

gap_text : (w : RowWords) (n : ℕ) (r : Row) (digits : List ℕ) → gap_row w n ≡ Some r → length digits ≡ 2 * length r.octets → IsText digits
gap_text w n r digits h len = at (gap_in w.hex) h
  where
    at : (o : Option (Option ℕ)) → option_map (λ gap. record { number = n; side = T; octets = []; gap = Some gap }) o ≡ Some r → IsText digits
    at None h = absurd (cc)
    at (Some gap) h =
        let row : record { number = n; side = T; octets = []; gap = Some gap } ≡ r = cc in
        no_digits digits r.octets (ap (λ v. v.octets) (sym row)) len

-- two digits for each of its octets
pub digits_text : (line front digits : List ℕ) (r : Row) → row_of line ≡ Some r → line ≡ front ++ digits → length digits ≡ 2 * length r.octets → IsText digits
unfolding row_of
digits_text line front digits r h e len = at (row_words line) refl h
  where
    numbered : (w : RowWords) (n : ℕ) (gap : Bool) → (length digits ≡ length w.hex → digits ≡ w.hex) → (elim gap as (λ _. Option Row) [ true ↦ gap_row w n | false ↦ packet_row w n ]) ≡ Some r → IsText digits
    numbered w n true same h = gap_text w n r digits h len
    numbered w n false same h = packet_text w n r digits h same len

    at_number : (w : RowWords) (o : Option ℕ) → (length digits ≡ length w.hex → digits ≡ w.hex) → option_and_then (row_numbered w) o ≡ Some r → IsText digits
    at_number w None same h = absurd (cc)
    at_number w (Some n) same h = numbered w n (is_gap_word w.side) same h

    at : (o : Option RowWords) → row_words line ≡ o → option_and_then (λ w. option_and_then (row_numbered w) (number_of w.number)) o ≡ Some r → IsText digits
    at None k h = absurd (cc)
    at (Some w) k h = let end = word_at_end line w k in at_number w (number_of w.number) (λ l. same_end front digits end.0 w.hex (sym e ∙ end.1) l) h
