-- The lines of a text that is written as lines.
use Rattle.std.proofs.Common.{◌≡◌, ◌∙◌, sym, ap, refl, ℕ, Bool, true, false, List, [], ◌∷◌, ◌++◌, length, cond, ◌||◌, arith, append_assoc, length-append}
use Rattle.std.specs.List.{list_any, AllByRecursion}
use Rattle.line_model.specs.text.Text.{Line, begun_line, ended_lines, is_lf, line_or_none, lines_of, onto_begun, onto_first_line, size_of}
use Rattle.line_model.specs.traces.Traces.{text}
use Rattle.annotated_trace.specs.Annotation.{IsOneLine}

-- each has no LF
abbrev pub AreLines : List Line → Type 0
AreLines ls = AllByRecursion IsOneLine ls

or_right : (v r : Bool) → (v || r) ≡ false → r ≡ false
or_right true r h = cc
or_right false r h = h

first_ended : (v r : Bool) (b : ℕ) (l : Line) (ls ms : List Line) → (v || r) ≡ false → (r ≡ false → ms ≡ l ∷ ls) → cond v ([] ∷ ms) (onto_first_line b ms) ≡ (b ∷ l) ∷ ls
first_ended true r b l ls ms h k = cc
first_ended false r b l ls ms h k = ap (onto_first_line b) (k h)

-- the first line of a text ends at its LF
pub ended_first : (l rest : List ℕ) → IsOneLine l → ended_lines (l ++ 10 ∷ rest) ≡ l ∷ ended_lines rest
ended_first [] rest h = refl
ended_first (b ∷ l) rest h = first_ended (is_lf b) (list_any is_lf l) b l (ended_lines rest) (ended_lines (l ++ 10 ∷ rest)) h (ended_first l rest)

still_begun : (v : Bool) (b : ℕ) (l : Line) (ls ms : List Line) (begun : Line) → ms ≡ l ∷ ls → cond v begun (onto_begun b ms begun) ≡ begun
still_begun true b l ls ms begun h = refl
still_begun false b l ls ms begun h = ap (λ xs. onto_begun b xs begun) h

pub begun_behind : (l rest : List ℕ) → IsOneLine l → begun_line (l ++ 10 ∷ rest) ≡ begun_line rest
begun_behind [] rest h = refl
begun_behind (b ∷ l) rest h =
    let behind = or_right (is_lf b) (list_any is_lf l) h in
    still_begun (is_lf b) b l (ended_lines rest) (ended_lines (l ++ 10 ∷ rest)) (begun_line (l ++ 10 ∷ rest)) (ended_first l rest behind) ∙ begun_behind l rest behind

pub ended_text : (ls : List Line) → AreLines ls → ended_lines (text ls) ≡ ls
ended_text [] h = refl
ended_text (l ∷ ls) h = ended_first l (text ls) h.0 ∙ ap (λ ms. l ∷ ms) (ended_text ls h.1)

pub begun_text : (ls : List Line) → AreLines ls → begun_line (text ls) ≡ []
begun_text [] h = refl
begun_text (l ∷ ls) h = begun_behind l (text ls) h.0 ∙ begun_text ls h.1

pub text_append : (xs ys : List Line) → text (xs ++ ys) ≡ text xs ++ text ys
text_append [] ys = refl
text_append (x ∷ xs) ys = ap (λ bytes. x ++ 10 ∷ bytes) (text_append xs ys) ∙ sym (append_assoc x (10 ∷ text xs) (text ys))

pub size_of_text : (ls : List Line) → size_of ls ≡ length (text ls)
size_of_text [] = refl
size_of_text (l ∷ ls) = omega (arith, size_of_text ls, length-append l (10 ∷ text ls))

-- ---- the lines of any text

pub both_lines : (xs ys : List Line) → AreLines xs → AreLines ys → AreLines (xs ++ ys)
both_lines [] ys h k = k
both_lines (x ∷ xs) ys h k = (h.0, both_lines xs ys h.1 k)

onto_lines : (v : Bool) (b : ℕ) (ls : List Line) → v ≡ is_lf b → AreLines ls → AreLines (cond v ([] ∷ ls) (onto_first_line b ls))
onto_lines true b ls e h = (refl, h)
onto_lines false b [] e h = tt
onto_lines false b (l ∷ ls) e h = (ap (λ v. v || list_any is_lf l) (sym e) ∙ h.0, h.1)

pub ended_are_lines : (bytes : List ℕ) → AreLines (ended_lines bytes)
ended_are_lines [] = tt
ended_are_lines (b ∷ bytes) = onto_lines (is_lf b) b (ended_lines bytes) refl (ended_are_lines bytes)

onto_line : (v : Bool) (b : ℕ) (ls : List Line) (begun : Line) → v ≡ is_lf b → IsOneLine begun → IsOneLine (cond v begun (onto_begun b ls begun))
onto_line true b ls begun e h = h
onto_line false b [] begun e h = ap (λ v. v || list_any is_lf begun) (sym e) ∙ h
onto_line false b (l ∷ ls) begun e h = h

pub begun_is_line : (bytes : List ℕ) → IsOneLine (begun_line bytes)
begun_is_line [] = refl
begun_is_line (b ∷ bytes) = onto_line (is_lf b) b (ended_lines bytes) (begun_line bytes) refl (begun_is_line bytes)

last_is_line : (l : Line) → IsOneLine l → AreLines (line_or_none l)
last_is_line [] h = tt
last_is_line (b ∷ bs) h = (h, tt)

pub are_lines : (bytes : List ℕ) → AreLines (lines_of bytes)
are_lines bytes = both_lines (ended_lines bytes) (line_or_none (begun_line bytes)) (ended_are_lines bytes) (last_is_line (begun_line bytes) (begun_is_line bytes))
