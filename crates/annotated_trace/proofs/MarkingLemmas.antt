-- The marks that are written.
use Rattle.std.proofs.Common.{◌≡◌, ◌∙◌, sym, ap, subst, refl, ℕ, ◌+◌, ◌<◌, ◌≤◌, ◌^◌, false, List, [], ◌∷◌, ◌++◌, length, ◌||◌, arith, append_assoc, append-nil, length-append}
use Rattle.std.specs.Prelude.{◌==◌, decimal}
use Rattle.std.specs.List.{list_any}
use Rattle.std.specs.Str.Parse.{AllDigits}
use Rattle.std.proofs.lemmas.Fmt.{digits_decimal, length-decimal-le}
use Rattle.std.proofs.lemmas.Str.Parse.{numerals_by_value, tells_digits}
use Rattle.line_model.specs.observer.Report.{code_word, finding_line, pad_word, side_word, state_word}
use Rattle.line_model.specs.text.Text.{is_lf}
use Rattle.line_model.specs.traces.Traces.{text}
use Rattle.line_model.specs.declared.finding.Code.{Code}
use Rattle.line_model.specs.declared.finding.Code.TheVariants.{Number, Pad}
use Rattle.line_model.specs.declared.finding.Finding.{Finding}
use Rattle.line_model.specs.declared.finding.Xcode.{Xcode}
use Rattle.line_model.specs.declared.finding.Xcode.TheVariants.{X1, X2, X3, X4, XL}
use Rattle.line_model.specs.declared.state.Side.{Side}
use Rattle.line_model.specs.declared.state.Side.TheVariants.{T, N}
use Rattle.line_model.specs.declared.state.StateName.{StateName}
use Rattle.line_model.specs.declared.state.StateName.TheVariants.{Dash, R1, R2, R3, P1, P2, P3, P4, P5, P6, P7, D1, D2, D3}
use Rattle.annotated_trace.specs.Annotation.{AreComments, IsComment, IsMarkOf, IsOneLine, explained, marks_in}
use Rattle.annotated_trace.specs.Marking.{HasMarkOf, HasMarksOf, IsCode, finding_words, mark_line}
use Rattle.annotated_trace.specs.Wording.{IsWords}
use Rattle.annotated_trace.proofs.LinesOfText.{text_append}
use Rattle.annotated_trace.proofs.MarkLemmas.{both_marks, marks_in-append}
use Rattle.annotated_trace.proofs.WordingLemmas.{both_one}

-- a word of a line: it has no LF, and is not long
record IsShort (n : ℕ) (word : List ℕ) : Type 0 where
  pub one : IsOneLine word
  pub few : length word ≤ n

digits_one : (ds : List ℕ) → AllDigits 10 ds → IsOneLine ds
digits_one [] h = refl
digits_one (d ∷ ds) h =
    let parts = tells_digits.parts d ds h in
    ap (λ v. v || list_any is_lf ds) (not_lf d parts.0.0) ∙ digits_one ds parts.1
  where
    not_lf : (d : ℕ) → 48 ≤ d → (d == 10) ≡ false
    not_lf d low = grind (arith, low)

decimal_short : (n : ℕ) → n < 2 ^ 32 → IsShort 10 (decimal n)
decimal_short n h = record {
  one = digits_one (decimal n) (digits_decimal (numerals_by_value (AllDigits 10) tells_digits) n (omega (arith, h)));
  few = length-decimal-le 10 n (omega arith) (omega (arith, h)) (omega (arith, h));
}

side_short : (s : Side) → IsShort 2 (side_word s)
side_short T = record { one = refl; few = omega arith }
side_short N = record { one = refl; few = omega arith }

state_short : (s : StateName) → IsShort 2 (state_word s)
state_short Dash = record { one = refl; few = omega arith }
state_short R1 = record { one = refl; few = omega arith }
state_short R2 = record { one = refl; few = omega arith }
state_short R3 = record { one = refl; few = omega arith }
state_short P1 = record { one = refl; few = omega arith }
state_short P2 = record { one = refl; few = omega arith }
state_short P3 = record { one = refl; few = omega arith }
state_short P4 = record { one = refl; few = omega arith }
state_short P5 = record { one = refl; few = omega arith }
state_short P6 = record { one = refl; few = omega arith }
state_short P7 = record { one = refl; few = omega arith }
state_short D1 = record { one = refl; few = omega arith }
state_short D2 = record { one = refl; few = omega arith }
state_short D3 = record { one = refl; few = omega arith }

pad_short : (x : Xcode) → IsShort 10 (pad_word x)
pad_short X1 = record { one = refl; few = omega arith }
pad_short X2 = record { one = refl; few = omega arith }
pad_short X3 = record { one = refl; few = omega arith }
pad_short X4 = record { one = refl; few = omega arith }
pad_short XL = record { one = refl; few = omega arith }

code_short : (c : Code) → IsCode c → IsShort 10 (code_word c)
code_short (Number n) h = decimal_short n h
code_short (Pad x) h = pad_short x

both_short : (m n : ℕ) (a b : List ℕ) → IsShort m a → IsShort n b → IsShort (m + n) (a ++ b)
both_short m n a b h k = record { one = both_one a b h.one k.one; few = omega (arith, h.few, k.few, length-append a b) }

space_short : (n : ℕ) (a : List ℕ) → IsShort n a → IsShort (n + 1) (32 ∷ a)
space_short n a h = record { one = h.one; few = omega (arith, h.few) }

finding_short : (f : Finding) → f.packet < 2 ^ 32 → IsCode f.code → IsShort 100 (finding_words f)
finding_short f n c =
    let state = both_short 2 11 (state_word f.state) (32 ∷ code_word f.code) (state_short f.state) (space_short 10 (code_word f.code) (code_short f.code c)) in
    let side = both_short 2 14 (side_word f.side) (32 ∷ (state_word f.state ++ 32 ∷ code_word f.code)) (side_short f.side) (space_short 13 (state_word f.state ++ 32 ∷ code_word f.code) state) in
    let number = both_short 10 17 (decimal f.packet) _ (decimal_short f.packet n) (space_short 16 _ side) in
    record { one = number.one; few = omega (arith, number.few) }

explained_short : (words : List ℕ) → IsWords words → IsShort 8002 (explained words)
explained_short [] h = record { one = refl; few = omega arith }
explained_short (b ∷ words) h = record { one = h.one; few = omega (arith, h.short) }

pub mark_comment : (f : Finding) (words : List ℕ) → f.packet < 2 ^ 32 → IsCode f.code → IsWords words → IsComment (mark_line f words)
mark_comment f words n c w =
    let whole = both_short 100 8002 (finding_words f) (explained words) (finding_short f n c) (explained_short words w) in
    record { begins = refl; one = whole.one; short = omega (arith, whole.few) }

finding_line_is : (packet : ℕ) (side : Side) (state : StateName) (code : Code) → finding_line (record { packet = packet; side = side; state = state; code = code }) ≡ finding_words (record { packet = packet; side = side; state = state; code = code }) ++ 10 ∷ []
finding_line_is packet side state code = sym (regroup (decimal packet) (side_word side) (state_word state) (code_word code))
  where
    regroup : (a b c d : List ℕ) → (70 ∷ 32 ∷ (a ++ 32 ∷ (b ++ 32 ∷ (c ++ 32 ∷ d)))) ++ 10 ∷ [] ≡ 70 ∷ 32 ∷ (a ++ 32 ∷ (b ++ 32 ∷ (c ++ 32 ∷ (d ++ 10 ∷ []))))
    regroup a b c d = simp append_assoc

pub is_mark_of : (f : Finding) (words : List ℕ) → IsMarkOf f (mark_line f words)
is_mark_of f words = record { finding_text = finding_words f; words = words; line = finding_line_is f.packet f.side f.state f.code; mark_is = refl }

-- ---- the marks of the first findings, and one more

pub no_marks : (out : List ℕ) → HasMarksOf [] out out
no_marks out = record { marks = []; written = sym (append-nil out); comments = tt; all = refl; marks_are = tt }

pub both_comments : (xs ys : List (List ℕ)) → AreComments xs → AreComments ys → AreComments (xs ++ ys)
both_comments [] ys h k = k
both_comments (x ∷ xs) ys h k = (h.0, both_comments xs ys h.1 k)

pub one_more_mark : (findings : List Finding) (f : Finding) (out now after : List ℕ) → HasMarksOf findings out now → HasMarkOf f now after → HasMarksOf (findings ++ f ∷ []) out after
one_more_mark findings f out now after h m = record {
  marks = h.marks ++ m.mark ∷ [];
  written = m.written ∙ ap (λ xs. xs ++ text (m.mark ∷ [])) h.written ∙ append_assoc out (text h.marks) (text (m.mark ∷ [])) ∙ ap (λ xs. out ++ xs) (sym (text_append h.marks (m.mark ∷ [])));
  comments = both_comments h.marks (m.mark ∷ []) h.comments (m.comment, tt);
  all = marks_in-append h.marks (m.mark ∷ []) ∙ ap (λ xs. xs ++ marks_in (m.mark ∷ [])) h.all ∙ ap (λ xs. h.marks ++ xs) (marked f m.mark m.mark_of);
  marks_are = both_marks findings (f ∷ []) h.marks (m.mark ∷ []) h.marks_are (m.mark_of, tt);
}
  where
    marked : (f : Finding) (mark : List ℕ) → IsMarkOf f mark → marks_in (mark ∷ []) ≡ mark ∷ []
    marked f mark k = subst (λ x. marks_in (x ∷ []) ≡ x ∷ []) (sym k.mark_is) refl

-- ---- the bytes of a mark

pub finding_put : (out a b c d e f g h number side state code : List ℕ) → a ≡ out ++ (70 ∷ 32 ∷ []) → b ≡ a ++ number → c ≡ b ++ 32 ∷ [] → d ≡ c ++ side → e ≡ d ++ 32 ∷ [] → f ≡ e ++ state → g ≡ f ++ 32 ∷ [] → h ≡ g ++ code
    → h ≡ out ++ (70 ∷ 32 ∷ (number ++ 32 ∷ (side ++ 32 ∷ (state ++ 32 ∷ code))))
finding_put out a b c d e f g h number side state code ea eb ec ed ee ef eg eh =
    eh ∙ ap (λ x. x ++ code) (eg ∙ ap (λ x. x ++ 32 ∷ []) (ef ∙ ap (λ x. x ++ state) (ee ∙ ap (λ x. x ++ 32 ∷ []) (ed ∙ ap (λ x. x ++ side) (ec ∙ ap (λ x. x ++ 32 ∷ []) (eb ∙ ap (λ x. x ++ number) ea))))))
    ∙ regroup out number side state code
  where
    regroup : (out number side state code : List ℕ) → (((((((out ++ (70 ∷ 32 ∷ [])) ++ number) ++ 32 ∷ []) ++ side) ++ 32 ∷ []) ++ state) ++ 32 ∷ []) ++ code ≡ out ++ (70 ∷ 32 ∷ (number ++ 32 ∷ (side ++ 32 ∷ (state ++ 32 ∷ code))))
    regroup out number side state code = simp append_assoc

pub mark_put : (f : Finding) (words out a b c d : List ℕ) → f.packet < 2 ^ 32 → IsCode f.code → IsWords words → a ≡ out ++ (35 ∷ 33 ∷ 32 ∷ []) → b ≡ a ++ finding_words f → c ≡ b ++ explained words → d ≡ c ++ 10 ∷ [] → HasMarkOf f out d
mark_put f words out a b c d n k w ea eb ec ed = record {
  mark = mark_line f words;
  written = ed ∙ ap (λ x. x ++ 10 ∷ []) (ec ∙ ap (λ x. x ++ explained words) (eb ∙ ap (λ x. x ++ finding_words f) ea)) ∙ regroup out (finding_words f) (explained words);
  comment = mark_comment f words n k w;
  mark_of = is_mark_of f words;
}
  where
    regroup : (out finding_text words : List ℕ) → (((out ++ (35 ∷ 33 ∷ 32 ∷ [])) ++ finding_text) ++ words) ++ 10 ∷ [] ≡ out ++ ((35 ∷ 33 ∷ 32 ∷ (finding_text ++ words)) ++ 10 ∷ [])
    regroup out finding_text words = simp append_assoc
