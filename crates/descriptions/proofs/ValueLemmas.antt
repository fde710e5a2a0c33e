-- What a value is written as.
use Rattle.std.proofs.Common.{◌≡◌, ◌≢◌, ◌∙◌, sym, ap, subst, refl, ℕ, ◌+◌, ◌<◌, ◌^◌, get_or, take, length, ◌==◌, ◌&&◌, ◌||◌, Bool, true, false, List, [], ◌∷◌, ◌++◌, append-nil, arith, ne_eqb}
use Rattle.std.specs.Prelude.{decimal, drop, flat_map, if◌then◌else◌}
use Rattle.std.specs.List.{enumerate_from}
use Rattle.std.specs.Str.Parse.{AllDigits}
use Rattle.std.proofs.lemmas.Fmt.{digits_decimal}
use Rattle.std.proofs.lemmas.Grind.{flat_map-append}
use Rattle.std.proofs.lemmas.List.{take_more}
use Rattle.std.proofs.lemmas.Str.Parse.{numerals_by_value, tells_digits}
use Rattle.line_model.specs.basics.Records.{CallRecord}
use Rattle.descriptions.specs.CallTable.{AreEntries, Hosting, IsCallTable, character, heading, nine_digits, point_before, point_part, quoted, trimmed, with_digit, with_point}
use Rattle.descriptions.specs.Members.{Fraction, IsText, IsValue, Number, Text, is_plain}
use Rattle.descriptions.specs.Writing.{Adds, These}
use Rattle.descriptions.specs.declared.call_columns.TableForm.{TableForm}
use Rattle.descriptions.specs.declared.call_columns.TableForm.TheVariants.{Objects}
use Rattle.descriptions.proofs.MemberLemmas.{both_put, more_text, plain_byte}

-- ---- known bytes

pub these_then : {O : Type 0} {has : O → List ℕ → Type 0} {x y : List ℕ} {a b c : O} → Adds has (These x) a b → Adds has (These y) b c → Adds has (These (x ++ y)) a c
these_then first later = both_put (λ x y e f. (λ t. e t ++ f t)) first later

pub these_same : {O : Type 0} {has : O → List ℕ → Type 0} {x y : List ℕ} {a b : O} → x ≡ y → Adds has (These x) a b → Adds has (These y) a b
these_same same put = record { bytes = put.bytes; put = put.put; formed = put.formed ∙ same }

pub flat_more : (f : ℕ → List ℕ) (xs : List ℕ) (i x : ℕ) → i < length xs → flat_map f (take (i + 1) xs) ≡ flat_map f (take i xs) ++ f (get_or xs i x)
flat_more f xs i x lt = ap (flat_map f) (take_more xs i x lt) ∙ flat_map-append f (take i xs) (get_or xs i x ∷ []) ∙ ap (λ ys. flat_map f (take i xs) ++ ys) (append-nil (f (get_or xs i x)))

-- ---- texts

plain_character : (b : ℕ) → is_plain b ≡ true → character Objects b ≡ b ∷ []
plain_character b h = ap (λ p. if p then b ∷ [] else (if b == 34 || b == 92 then 92 ∷ b ∷ [] else 32 ∷ [])) h

pub plain_more : (bytes : List ℕ) (i b : ℕ) → i < length bytes → flat_map (character Objects) (take i bytes) ≡ take i bytes → is_plain (get_or bytes i b) ≡ true
    → flat_map (character Objects) (take (i + 1) bytes) ≡ take (i + 1) bytes
plain_more bytes i b lt same h =
    flat_more (character Objects) bytes i b lt ∙ ap (λ t. t ++ character Objects (get_or bytes i b)) same ∙ ap (λ t. take i bytes ++ t) (plain_character (get_or bytes i b) h) ∙ sym (take_more bytes i b lt)

after_backslash : (b : ℕ) → ((b == 34) || (b == 92)) ≡ true → IsText (92 ∷ b ∷ [])
after_backslash b h = ap (λ q. (q && true) || false) h

text_by : (p q : Bool) (b : ℕ) → (p ≡ true → IsText (b ∷ [])) → (q ≡ true → IsText (92 ∷ b ∷ [])) → IsText (if p then b ∷ [] else (if q then 92 ∷ b ∷ [] else 32 ∷ []))
text_by true q b plain escaped = plain refl
text_by false true b plain escaped = escaped refl
text_by false false b plain escaped = refl

escaped : (bytes : List ℕ) → IsText (flat_map (character Objects) bytes)
escaped [] = refl
escaped (b ∷ bytes) = more_text false (character Objects b) (flat_map (character Objects) bytes) (text_by (is_plain b) ((b == 34) || (b == 92)) b (plain_byte b) (after_backslash b)) (escaped bytes)

pub quoted_value : (bytes : List ℕ) → IsValue (quoted Objects bytes)
quoted_value bytes = Text (flat_map (character Objects) bytes) (escaped bytes)

-- ---- times

dropped_digits : (ds : List ℕ) → AllDigits 10 ds → AllDigits 10 (drop 1 ds)
dropped_digits [] h = h
dropped_digits (d ∷ ds) h = h.1

digit_before : (d : ℕ) (es : List ℕ) → AllDigits 10 (d ∷ []) → AllDigits 10 es → AllDigits 10 (with_digit d es)
digit_before d [] h k = kept (d == 48)
  where
    kept : (b : Bool) → AllDigits 10 (if b then [] else d ∷ [])
    kept true = k
    kept false = h
digit_before d (e ∷ es) h k = (h.0, k)

trimmed_digits : (ds : List ℕ) → AllDigits 10 ds → AllDigits 10 (trimmed ds)
trimmed_digits [] h = h
trimmed_digits (d ∷ ds) h = digit_before d (trimmed ds) (h.0, tt) (trimmed_digits ds h.1)

some_length : (d : ℕ) (ds : List ℕ) → length (d ∷ ds) ≢ 0
some_length d ds e = absurd (omega arith)

part_value : (n : ℕ) (ds : List ℕ) → AllDigits 10 ds → IsValue (decimal n ++ with_point ds)
part_value n [] h = subst IsValue (sym (append-nil (decimal n))) (Number n)
part_value n (d ∷ ds) h = subst (λ b. IsValue (decimal n ++ (point_before b ++ d ∷ ds))) (sym (ne_eqb (length (d ∷ ds)) 0 (some_length d ds))) (Fraction n d ds h)

pub seconds_value : (n b : ℕ) → 1000000000 + b < 2 ^ 64 → IsValue (decimal n ++ point_part b)
seconds_value n b few =
    part_value n (trimmed (nine_digits b)) (trimmed_digits (nine_digits b) (dropped_digits (decimal (1000000000 + b)) (digits_decimal (numerals_by_value (AllDigits 10) tells_digits) (1000000000 + b) few)))

-- ---- the table

pub table_put : {O : Type 0} {has : O → List ℕ → Type 0} {a b c : O} (form : TableForm) (F S : ℕ → ℕ) (H : Hosting) (calls : List CallRecord) (entries : List ℕ) → AreEntries form F S H (enumerate_from 1 calls) entries
    → Adds has (These (heading form)) a b → Adds has (These entries) b c → Adds has (IsCallTable form F S H calls) a c
table_put form F S H calls entries each first later = both_put (λ x y e f. record { entries = entries; each = each; written = (λ t. e t ++ f t) }) first later
