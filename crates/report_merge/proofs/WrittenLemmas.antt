-- The text of a report in its lines.
use Rattle.std.proofs.Common.{◌≡◌, ℕ, zero, suc, ◌+◌, ◌<◌, List, [], ◌∷◌, ◌++◌, length, get_or, drop, refl, sym, ap, ◌∙◌, subst, arith, append_assoc}
use Rattle.std.specs.List.{flat_map, enumerate_from}
use Rattle.line_model.specs.basics.Records.{Report}
use Rattle.line_model.specs.observer.Report.{account_line, call_line, finding_line, gap_lines, line, peak_line, setting_lines, summary_line, text_of}
use Rattle.report_merge.specs.Parts.{findings_text, rest_text}

-- ---- lines

-- a text with words after it, each with its space
abbrev pub after_words : List ℕ → List (List ℕ) → List ℕ
after_words text [] = text
after_words text (w ∷ ws) = after_words (text ++ (w ++ 32 ∷ [])) ws

-- the last word makes it the text with a line
pub line_after : (text : List ℕ) (ws : List (List ℕ)) (last : List ℕ) → after_words text ws ++ (last ++ 10 ∷ []) ≡ text ++ line (ws ++ last ∷ [])
line_after text [] last = refl
line_after text (w ∷ []) last = append_assoc text (w ++ 32 ∷ []) (last ++ 10 ∷ []) ∙ ap (λ l. text ++ l) (append_assoc w (32 ∷ []) (last ++ 10 ∷ []))
line_after text (w ∷ v ∷ ws) last =
    line_after (text ++ (w ++ 32 ∷ [])) (v ∷ ws) last
    ∙ append_assoc text (w ++ 32 ∷ []) (line (v ∷ (ws ++ last ∷ [])))
    ∙ ap (λ l. text ++ l) (append_assoc w (32 ∷ []) (line (v ∷ (ws ++ last ∷ []))))

-- ---- lists of lines

dropped : {X : Type 0} → (xs : List X) (i : ℕ) (x : X) → i < length xs → x ≡ get_or xs i x → drop i xs ≡ x ∷ drop (i + 1) xs
dropped [] i x lt is = absurd (omega arith)
dropped (y ∷ ys) zero x lt is = ap (λ z. z ∷ ys) (sym is)
dropped (y ∷ ys) (suc i) x lt is =
    let e : suc i + 1 ≡ suc (i + 1) = omega arith in
    subst (λ k. drop i ys ≡ x ∷ drop k (y ∷ ys)) (sym e) (dropped ys i x (omega arith) is)

pub lines_more : {X : Type 0} → (f : X → List ℕ) (xs : List X) (i : ℕ) (x : X) (done : List ℕ) → i < length xs → x ≡ get_or xs i x → done ++ flat_map f (drop i xs) ≡ flat_map f xs
    → (done ++ f x) ++ flat_map f (drop (i + 1) xs) ≡ flat_map f xs
lines_more f xs i x done lt is h = append_assoc done (f x) (flat_map f (drop (i + 1) xs)) ∙ ap (λ l. done ++ flat_map f l) (sym (dropped xs i x lt is)) ∙ h

pub numbered_more : {X : Type 0} → (f : ℕ × X → List ℕ) (xs : List X) (i : ℕ) (x : X) (done : List ℕ) → i < length xs → x ≡ get_or xs i x
    → done ++ flat_map f (enumerate_from (i + 1) (drop i xs)) ≡ flat_map f (enumerate_from 1 xs)
    → (done ++ f (i + 1, x)) ++ flat_map f (enumerate_from (i + 1 + 1) (drop (i + 1) xs)) ≡ flat_map f (enumerate_from 1 xs)
numbered_more f xs i x done lt is h =
    append_assoc done (f (i + 1, x)) (flat_map f (enumerate_from (i + 1 + 1) (drop (i + 1) xs)))
    ∙ ap (λ l. done ++ flat_map f (enumerate_from (i + 1) l)) (sym (dropped xs i x lt is)) ∙ h

any_default : {X : Type 0} → (xs : List X) (i : ℕ) (d e : X) → i < length xs → get_or xs i d ≡ get_or xs i e
any_default [] i d e lt = absurd (omega arith)
any_default (x ∷ xs) zero d e lt = refl
any_default (x ∷ xs) (suc i) d e lt = any_default xs i d e (omega arith)

-- a loop's pass over lines, for what is true of the texts before and after
pub turn : {X B : Type 0} → (f : X → List ℕ) (xs : List X) (i : ℕ) (d : X) (first before after : B → List ℕ → Type 0) → i < length xs
    → (done : List ℕ) × (done ++ flat_map f (drop i xs) ≡ flat_map f xs) × ((b : B) (text : List ℕ) → first b text → before b (text ++ done))
    → ((b : B) (text : List ℕ) → before b text → after b (text ++ f (get_or xs i d)))
    → (done : List ℕ) × (done ++ flat_map f (drop (i + 1) xs) ≡ flat_map f xs) × ((b : B) (text : List ℕ) → first b text → after b (text ++ done))
turn f xs i d first before after lt t step =
    let x = get_or xs i d in
    (t.0 ++ f x, lines_more f xs i x t.0 lt (any_default xs i d x lt) t.1, λ b text w. subst (after b) (append_assoc text t.0 (f x)) (step b (text ++ t.0) (t.2 b text w)))

-- ---- the two parts of a report

in_two : (f c s a p g z : List ℕ) → f ++ (((((c ++ s) ++ a) ++ p) ++ g) ++ z) ≡ (((((f ++ c) ++ s) ++ a) ++ p) ++ g) ++ z
in_two f c s a p g z = simp append_assoc

pub two_parts : (r : Report) → findings_text r.findings ++ rest_text r ≡ text_of r
two_parts r = in_two (flat_map finding_line r.findings) (flat_map call_line (enumerate_from 1 r.calls)) (flat_map setting_lines (enumerate_from 1 r.calls)) (flat_map account_line r.accounts) (peak_line r.peak) (gap_lines r.gaps) (summary_line r.summary)
