-- Members and values have no LF.
use Rattle.std.proofs.Common.{◌≡◌, ◌∙◌, sym, ap, subst, refl, ◌⊎◌, inl, inr, ℕ, suc, zero, ◌/◌, ◌%◌, ◌≤◌, ◌==◌, ◌&&◌, ◌||◌, Bool, true, false, cond, List, [], ◌∷◌, ◌++◌, Option, None, Some, drop, arith}
use Rattle.std.specs.Prelude.{codes, decimal}
use Rattle.std.specs.Fmt.{digit_glyph, digits, digits_onto}
use Rattle.std.specs.List.{list_any}
use Rattle.std.specs.Str.Parse.{AllDigits}
use Rattle.std.proofs.lemmas.Str.Parse.{tells_digits}
use Rattle.json_lines.specs.Json.{quoted}
use Rattle.line_model.specs.declared.finding.Finding.{Finding}
use Rattle.line_model.specs.text.Text.{is_lf}
use Rattle.annotated_trace.specs.Annotation.{IsOneLine}
use Rattle.annotated_trace.proofs.WordingLemmas.{both_one}
use Rattle.descriptions.specs.Members.{AreElements, Array, Element, False, Fraction, IsFurtherWith, IsMembers, IsOfRow, IsValue, Member, NoElement, NoMember, Null, Number, Object, Text, True, call_member, call_word, circuit_member, is_plain, is_text, member}
use Rattle.descriptions.specs.RowObjects.{IsRest}

-- ---- numbers

glyph_one : (d : ℕ) (acc : List ℕ) → IsOneLine acc → IsOneLine (digit_glyph false d ∷ acc)
glyph_one d acc h = (λ t. not_lf t || h t)
  where
    not_lf : (digit_glyph false d == 10) ≡ false
    not_lf = grind arith

onto_one : (k n : ℕ) (acc : List ℕ) → IsOneLine acc → IsOneLine (digits_onto k 10 false n acc)
onto_one zero n acc h = h
onto_one (suc k) n acc h = at (n / 10 == 0) (onto_one k (n / 10) (digit_glyph false (n % 10) ∷ acc) (glyph_one (n % 10) acc h))
  where
    at : (b : Bool) → IsOneLine (digits_onto k 10 false (n / 10) (digit_glyph false (n % 10) ∷ acc))
        → IsOneLine (cond b (digit_glyph false (n % 10) ∷ acc) (digits_onto k 10 false (n / 10) (digit_glyph false (n % 10) ∷ acc)))
    at true more = glyph_one (n % 10) acc h
    at false more = more

decimal_one : (n : ℕ) → IsOneLine (decimal n)
unfolding digits
decimal_one n = onto_one 64 n [] refl

digits_one : (ds : List ℕ) → AllDigits 10 ds → IsOneLine ds
digits_one [] h = refl
digits_one (d ∷ ds) h =
    let parts = tells_digits.parts d ds h in
    ap (λ v. v || list_any is_lf ds) (not_lf d parts.0.0) ∙ digits_one ds parts.1
  where
    not_lf : (d : ℕ) → 48 ≤ d → (d == 10) ≡ false
    not_lf d low = grind (arith, low)

-- ---- texts

either_of : (v w : Bool) → (v || w) ≡ true → (v ≡ true) ⊎ (w ≡ true)
either_of true w h = inl refl
either_of false w h = inr h

first_of : (v w : Bool) → (v && w) ≡ true → v ≡ true
first_of true w h = refl
first_of false w h = cc

second_of : (v w : Bool) → (v && w) ≡ true → w ≡ true
second_of true w h = h
second_of false w h = cc

slash_one : (b : ℕ) → (b == 92) ≡ true → (b == 10) ≡ false
slash_one b h = grind (arith, h)

plain_byte_one : (b : ℕ) → is_plain b ≡ true → (b == 10) ≡ false
plain_byte_one b h = grind (arith, h)

escaped_one : (b : ℕ) → ((b == 34) || (b == 92)) ≡ true → (b == 10) ≡ false
escaped_one b h = grind (arith, h)

text_one : (escaped : Bool) (x : List ℕ) → is_text escaped x ≡ true → IsOneLine x
text_one false [] h = refl
text_one true [] h = refl
text_one true (b ∷ x) h =
    let quote : Bool = (b == 34) || (b == 92) in
    (λ t. escaped_one b (first_of quote (is_text false x) h) t || text_one false x (second_of quote (is_text false x) h) t)
text_one false (b ∷ x) h = elim (either_of ((b == 92) && is_text true x) (is_plain b && is_text false x) h) [
  | inl k ↦ (λ t. slash_one b (first_of (b == 92) (is_text true x) k) t || text_one true x (second_of (b == 92) (is_text true x) k) t)
  | inr k ↦ (λ t. plain_byte_one b (first_of (is_plain b) (is_text false x) k) t || text_one false x (second_of (is_plain b) (is_text false x) k) t)
]

-- ---- values and members

or_right : (v w : Bool) → (v || w) ≡ false → w ≡ false
or_right true w h = cc
or_right false w h = h

dropped_one : (x : List ℕ) → IsOneLine x → IsOneLine (drop 1 x)
dropped_one [] h = refl
dropped_one (b ∷ x) h = or_right (b == 10) (list_any is_lf x) h

mutual
  value_one : (x : List ℕ) → IsValue x → IsOneLine x
  value_one _ Null = refl
  value_one _ True = refl
  value_one _ False = refl
  value_one _ (Number n) = decimal_one n
  value_one _ (Fraction n d ds h) = both_one (decimal n) (46 ∷ d ∷ ds) (decimal_one n) (digits_one (d ∷ ds) h)
  value_one _ (Text text h) = both_one text (34 ∷ []) (text_one false text h) refl
  value_one _ (Array xs h) = both_one (drop 1 xs) (93 ∷ []) (dropped_one xs (elements_one xs h)) refl
  value_one _ (Object ms h) = both_one (drop 1 ms) (125 ∷ []) (dropped_one ms (members_one [] ms h)) refl

  elements_one : (x : List ℕ) → AreElements x → IsOneLine x
  elements_one _ NoElement = refl
  elements_one _ (Element value rest v es) = both_one (44 ∷ value) rest (value_one value v) (elements_one rest es)

  members_one : (names : List (List ℕ)) (x : List ℕ) → IsMembers names x → IsOneLine x
  members_one names _ NoMember = refl
  members_one names _ (Member name value rest other text v ms) =
      both_one (member name value) rest (both_one (44 ∷ quoted name) (58 ∷ value) (both_one name (34 ∷ []) (text_one false name text) refl) (value_one value v)) (members_one names rest ms)

-- what comes after the promised members of a row's object
circuit_one : (circuit : Option ℕ) → IsOneLine (circuit_member circuit)
circuit_one None = refl
circuit_one (Some n) = both_one (codes ",\"circuit\":") (decimal n) refl (decimal_one n)

with_one : (circuit : Option ℕ) (rest : List ℕ) → IsFurtherWith circuit rest → IsOneLine rest
with_one circuit rest h = subst IsOneLine (sym h.2) (both_one h.0 (circuit_member circuit ++ h.1) (members_one _ h.0 h.3) (both_one (circuit_member circuit) h.1 (circuit_one circuit) (members_one _ h.1 h.4)))

row_one : (circuit : Option ℕ) (call : ℕ) (rest : List ℕ) → IsOfRow circuit call rest → IsOneLine rest
row_one circuit call rest h = subst IsOneLine (sym h.1) (both_one (call_member call) h.0 (both_one (codes ",\"call\":") (call_word call) refl (word_one call)) (with_one circuit h.0 h.2))
  where
    word_one : (n : ℕ) → IsOneLine (call_word n)
    word_one zero = refl
    word_one (suc n) = decimal_one (suc n)

pub rest_one : (gap : Option (Option ℕ)) (found : Option Finding) (circuit : Option ℕ) (call : ℕ) (rest : List ℕ) → IsRest gap found circuit call rest → IsOneLine rest
rest_one (Some channel) found circuit call rest h = with_one circuit rest h
rest_one None None circuit call rest h = row_one circuit call rest h
rest_one None (Some f) circuit call rest h =
    subst IsOneLine (sym h.2) (both_one h.0 (125 ∷ h.1) (members_one _ h.0 h.3) (row_one circuit call h.1 h.4))
