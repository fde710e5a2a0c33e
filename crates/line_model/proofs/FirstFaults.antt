-- The first fault of an input by any rule on the contents of lines: a fault of the first lines is final, and what stands
-- before it stays.
use Rattle.std.proofs.Common.{◌≡◌, ◌∙◌, sym, ap, subst, ℕ, zero, suc, ◌+◌, ◌-◌, ◌<◌, ◌≤◌, Bool, true, false, List, [], ◌∷◌, ◌++◌, length, take, Option, Some, None, refl, arith, append_assoc, append-nil, length-append, ◌⊎◌, inl, inr}
use Rattle.std.specs.Option.{option_or, option_map}
use Rattle.std.proofs.lemmas.Bool.{eqb-true}
use Rattle.line_model.specs.text.Text.{Line, content_of, is_lf, begun_line, ended_lines, good_lines, line_or_none, lines_of, size_kind, size_of}
use Rattle.line_model.specs.declared.fault.Kind.{Kind}
use Rattle.line_model.specs.declared.fault.Kind.TheVariants.{HeaderMissing}
use Rattle.line_model.proofs.LineLemmas.{size_kind-grows, size_kind-zero}
use Rattle.line_model.proofs.TextLemmas.{HasNoLf, begun-more, ended-lf, ended-more, size_kind-none, size_of-append, skip_fault}

first_none : {T : Type 0} (a b : Option T) → option_or a b ≡ None → a ≡ None
first_none None b h = refl
first_none (Some x) b h = cc

-- a rule on the contents of a line after some lines
abbrev pub Rule : Type 0
Rule = List Line → Line → Option Kind

-- the rule that a line breaks after these lines, on its size or its contents
abbrev pub kind_by : Rule → List Line → ℕ → Line → Option Kind
kind_by form before lf line = option_or (size_kind (size_of before) lf (length line)) (form before line)

-- the place of the first faulty line of those that an LF ends
abbrev pub first_by : Rule → List Line → List Line → Option (ℕ × Kind)
first_by form before [] = None
first_by form before (line ∷ ls) = elim (kind_by form before 1 line) [
  | Some kind ↦ Some (length before + 1, kind)
  | None ↦ first_by form (before ++ line ∷ []) ls
]

-- the rule that the last line breaks, if no LF ends it
abbrev pub begun_by : Rule → List Line → Line → Option Kind
begun_by form ended [] = None
begun_by form ended (b ∷ bs) = kind_by form ended 0 (b ∷ bs)

-- the fault of the line begun, if the input ends here
abbrev pub end_by : Rule → List Line → Line → Option (ℕ × Kind)
end_by form ended begun =
    option_or (option_map (λ kind. (length ended + 1, kind)) (begun_by form ended begun))
    (elim (content_of (ended ++ line_or_none begun)) [ [] ↦ Some (length (ended ++ line_or_none begun) + 1, HeaderMissing) | l ∷ ls ↦ None ])

-- the first fault, if the input ends here
abbrev pub fault_by : Rule → List ℕ → Option (ℕ × Kind)
fault_by form text = option_or (first_by form [] (ended_lines text)) (end_by form (ended_lines text) (begun_line text))

-- the first fault however the input goes on
abbrev pub early_by : Rule → List ℕ → Option (ℕ × Kind)
early_by form text =
    option_or (first_by form [] (ended_lines text))
    (option_map (λ kind. (length (ended_lines text) + 1, kind)) (size_kind (size_of (ended_lines text)) 0 (length (begun_line text))))

module _ (form : Rule) where
  first_by-append : (before xs ys : List Line) → first_by form before (xs ++ ys) ≡ option_or (first_by form before xs) (first_by form (before ++ xs) ys)
  first_by-append before [] ys = rw append-nil refl
  first_by-append before (x ∷ xs) ys =
      skip_fault (kind_by form before 1 x) (length before + 1) _ _ (first_by form (before ++ x ∷ xs) ys)
      (first_by-append (before ++ x ∷ []) xs ys ∙ ap (λ b. option_or (first_by form (before ++ x ∷ []) xs) (first_by form b ys)) (append_assoc before (x ∷ []) xs))

  one_by : (es : List Line) (l : Line) (kind : Kind) → kind_by form es 1 l ≡ Some kind → first_by form es (l ∷ []) ≡ Some (length es + 1, kind)
  one_by es l kind h = ap (λ (o : Option Kind). elim o as (λ _. Option (ℕ × Kind)) [ Some k ↦ Some (length es + 1, k) | None ↦ None ]) h

  pub small_by : (before ls : List Line) → size_of before ≤ 1073741824 → first_by form before ls ≡ None → size_of (before ++ ls) ≤ 1073741824
  small_by before [] few h = subst (λ ls. size_of ls ≤ 1073741824) (sym (append-nil before)) few
  small_by before (l ∷ ls) few h = here (kind_by form before 1 l) refl h (small_by (before ++ l ∷ []) ls)
    where
      here : (o : Option Kind) → kind_by form before 1 l ≡ o → (elim o as (λ _. Option (ℕ × Kind)) [ Some kind ↦ Some (length before + 1, kind) | None ↦ first_by form (before ++ l ∷ []) ls ]) ≡ None
          → (size_of (before ++ l ∷ []) ≤ 1073741824 → first_by form (before ++ l ∷ []) ls ≡ None → size_of ((before ++ l ∷ []) ++ ls) ≤ 1073741824) → size_of (before ++ l ∷ ls) ≤ 1073741824
      here (Some kind) e k later = absurd (cc)
      here None e k later =
          let size = size_kind-none (size_of before) 1 (length l) (first_none _ _ e) in
          subst (λ xs. size_of xs ≤ 1073741824) (append_assoc before (l ∷ []) ls) (later (omega (arith, size.1, size_of-append before (l ∷ []))) k)

  -- ---- what is known early stays

  -- the fault of a line that ended, or the size of the line begun
  abbrev Parts : List ℕ → ℕ × Kind → Type 0
  Parts text at = (first_by form [] (ended_lines text) ≡ Some at)
      ⊎ ((first_by form [] (ended_lines text) ≡ None) × ((k : Kind) × (size_kind (size_of (ended_lines text)) 0 (length (begun_line text)) ≡ Some k) × (Some (length (ended_lines text) + 1, k) ≡ Some at)))

  fault_parts : (o : Option (ℕ × Kind)) (z : Option Kind) (n : ℕ) (at : ℕ × Kind) → option_or o (option_map (λ k. (n, k)) z) ≡ Some at → (o ≡ Some at) ⊎ ((o ≡ None) × ((k : Kind) × (z ≡ Some k) × (Some (n, k) ≡ Some at)))
  fault_parts (Some x) z n at h = inl h
  fault_parts None (Some k) n at h = inr (refl, (k, refl, h))
  fault_parts None None n at h = cc

  ended_early : (text : List ℕ) (at : ℕ × Kind) → first_by form [] (ended_lines text) ≡ Some at → early_by form text ≡ Some at
  ended_early text at h = rw h refl

  begun_early : (text : List ℕ) (kind : Kind) → first_by form [] (ended_lines text) ≡ None → size_kind (size_of (ended_lines text)) 0 (length (begun_line text)) ≡ Some kind → early_by form text ≡ Some (length (ended_lines text) + 1, kind)
  begun_early text kind h k = rw (h, k) refl

  grow_lf : (text : List ℕ) (at : ℕ × Kind) → Parts text at → early_by form (text ++ 10 ∷ []) ≡ Some at
  grow_lf text at (inl f) =
      ended_early (text ++ 10 ∷ []) at (ap (first_by form []) (ended-lf text) ∙ first_by-append [] (ended_lines text) (begun_line text ∷ [])
      ∙ ap (λ o. option_or o (first_by form (ended_lines text) (begun_line text ∷ []))) f)
  grow_lf text at (inr p) =
      let long : size_kind (size_of (ended_lines text)) 1 (length (begun_line text)) ≡ Some p.1.0 = size_kind-grows _ 0 1 _ _ p.1.0 (omega arith) (omega arith) (omega arith) p.1.1 in
      ended_early (text ++ 10 ∷ []) (length (ended_lines text) + 1, p.1.0) (ap (first_by form []) (ended-lf text) ∙ first_by-append [] (ended_lines text) (begun_line text ∷ [])
      ∙ ap (λ o. option_or o (first_by form (ended_lines text) (begun_line text ∷ []))) p.0 ∙ one_by (ended_lines text) (begun_line text) p.1.0 (ap (λ o. option_or o (form (ended_lines text) (begun_line text))) long)) ∙ p.1.2

  grow_more : (text : List ℕ) (b : ℕ) (at : ℕ × Kind) → HasNoLf (b ∷ []) → Parts text at → early_by form (text ++ b ∷ []) ≡ Some at
  grow_more text b at h (inl f) = ended_early (text ++ b ∷ []) at (ap (first_by form []) (ended-more text (b ∷ []) h) ∙ f)
  grow_more text b at h (inr p) =
      let long : size_kind (size_of (ended_lines text)) 0 (length (begun_line text) + 1) ≡ Some p.1.0 = size_kind-grows _ 0 0 _ _ p.1.0 (omega arith) (omega arith) (omega arith) p.1.1 in
      begun_early (text ++ b ∷ []) p.1.0 (ap (first_by form []) (ended-more text (b ∷ []) h) ∙ p.0)
      (rw (ended-more text (b ∷ []) h, begun-more text (b ∷ []) h, length-append (begun_line text) (b ∷ [])) long)
      ∙ ap (λ (ls : List Line). Some (length ls + 1, p.1.0)) (ended-more text (b ∷ []) h) ∙ p.1.2

  grow_line : (v : Bool) (b : ℕ) → v ≡ is_lf b → (text : List ℕ) (at : ℕ × Kind) → early_by form text ≡ Some at → early_by form (text ++ b ∷ []) ≡ Some at
  grow_line true b e text at h = ap (λ x. early_by form (text ++ x ∷ [])) (eqb-true b 10 (sym e)) ∙ grow_lf text at (fault_parts _ _ _ at h)
  grow_line false b e text at h = grow_more text b at (rw (← e) refl) (fault_parts _ _ _ at h)

  pub early_stays : (text more : List ℕ) (at : ℕ × Kind) → early_by form text ≡ Some at → early_by form (text ++ more) ≡ Some at
  early_stays text [] at h = ap (early_by form) (append-nil text) ∙ h
  early_stays text (b ∷ more) at h = ap (early_by form) (sym (append_assoc text (b ∷ []) more)) ∙ early_stays (text ++ b ∷ []) more at (grow_line (is_lf b) b refl text at h)

  pub fault_here : (text : List ℕ) (at : ℕ × Kind) → early_by form text ≡ Some at → fault_by form text ≡ Some at
  fault_here text at h = by_parts (fault_parts _ _ _ at h)
    where
      es : List Line
      es = ended_lines text

      of_begun : (b : Line) (k : Kind) → first_by form [] es ≡ None → size_kind (size_of es) 0 (length b) ≡ Some k → option_or (first_by form [] es) (end_by form es b) ≡ Some (length es + 1, k)
      of_begun [] k none long = absurd (let short : size_kind (size_of es) 0 0 ≡ None = size_kind-zero (size_of es) (small_by [] es (omega arith) none) in let both : Some k ≡ None = sym long ∙ short in cc)
      of_begun (c ∷ b) k none long = rw (none, long) refl

      by_parts : Parts text at → option_or (first_by form [] es) (end_by form es (begun_line text)) ≡ Some at
      by_parts (inl f) = rw f refl
      by_parts (inr p) = of_begun (begun_line text) p.1.0 p.0 p.1.1 ∙ p.1.2

  -- ---- the lines before the fault

  -- a fault comes after the lines before it
  pub above : (before ls : List Line) (at : ℕ × Kind) → first_by form before ls ≡ Some at → length before < at.0
  above before [] at h = absurd (cc)
  above before (l ∷ ls) at h = here (kind_by form before 1 l) h (above (before ++ l ∷ []) ls at)
    where
      here : (o : Option Kind) → (elim o as (λ _. Option (ℕ × Kind)) [ Some kind ↦ Some (length before + 1, kind) | None ↦ first_by form (before ++ l ∷ []) ls ]) ≡ Some at
          → (first_by form (before ++ l ∷ []) ls ≡ Some at → length (before ++ l ∷ []) < at.0) → length before < at.0
      here (Some kind) e later = let is : (length before + 1, kind) ≡ at = cc in let n : length before + 1 ≡ at.0 = ap (λ (q : ℕ × Kind). q.0) is in omega arith
      here None e later = let more = later e in let n = length-append before (l ∷ []) in omega arith

  end_above : (es : List Line) (b : Line) (at : ℕ × Kind) → end_by form es b ≡ Some at → length es < at.0
  end_above es b at h = here (begun_by form es b) (content_of (es ++ line_or_none b)) h
    where
      here : (o : Option Kind) (ls : List Line)
          → option_or (option_map (λ kind. (length es + 1, kind)) o) (elim ls as (λ _. Option (ℕ × Kind)) [ [] ↦ Some (length (es ++ line_or_none b) + 1, HeaderMissing) | m ∷ ms ↦ None ]) ≡ Some at → length es < at.0
      here (Some kind) ls e = let is : (length es + 1, kind) ≡ at = cc in let n : length es + 1 ≡ at.0 = ap (λ (q : ℕ × Kind). q.0) is in omega arith
      here None [] e =
          let is : (length (es ++ line_or_none b) + 1, HeaderMissing) ≡ at = cc in
          let n : length (es ++ line_or_none b) + 1 ≡ at.0 = ap (λ (q : ℕ × Kind). q.0) is in
          let more = length-append es (line_or_none b) in
          omega arith
      here None (m ∷ ms) e = absurd (cc)

  -- an input without an early fault has one after its ended lines at the earliest
  fault_above : (es ls : List Line) (b : Line) (at : ℕ × Kind) → first_by form [] es ≡ None → option_or (first_by form [] (es ++ ls)) (end_by form (es ++ ls) b) ≡ Some at → length es < at.0
  fault_above es ls b at none h = here (first_by form es ls) refl (sym (ap (λ o. option_or o (end_by form (es ++ ls) b)) (first_by-append [] es ls ∙ ap (λ o. option_or o (first_by form es ls)) none)) ∙ h)
    where
      here : (o : Option (ℕ × Kind)) → first_by form es ls ≡ o → option_or o (end_by form (es ++ ls) b) ≡ Some at → length es < at.0
      here (Some f) e k = above es ls at (e ∙ k)
      here None e k = let more = end_above (es ++ ls) b at k in let n = length-append es ls in omega arith

take_none : {A : Type 0} (n : ℕ) → take {A = A} n [] ≡ []
take_none zero = refl
take_none (suc n) = refl

pub take_zero : {A : Type 0} (ys : List A) → take 0 ys ≡ []
take_zero [] = refl
take_zero (y ∷ ys) = refl

take_front : {A : Type 0} (n : ℕ) (xs ys : List A) → take n (xs ++ ys) ≡ take n xs ++ take (n - length xs) ys
take_front n [] ys =
    let e : n ≡ n - 0 = omega arith in
    ap (λ k. take k ys) e ∙ ap (λ l. l ++ take (n - 0) ys) (sym (take_none n))
take_front zero (x ∷ xs) ys =
    let e : 0 ≡ 0 - suc (length xs) = omega arith in
    sym (take_zero ys) ∙ ap (λ k. take k ys) e
take_front (suc n) (x ∷ xs) ys =
    let more = take_front n xs ys in
    let e : n - length xs ≡ suc n - suc (length xs) = omega arith in
    ap (λ l. x ∷ l) more ∙ ap (λ k. x ∷ (take n xs ++ take k ys)) e

take_whole : {A : Type 0} (n : ℕ) (xs : List A) → length xs ≤ n → take n xs ≡ xs
take_whole n [] h = take_none n
take_whole zero (x ∷ xs) h = absurd (omega arith)
take_whole (suc n) (x ∷ xs) h = let more = take_whole n xs (omega arith) in ap (λ l. x ∷ l) more

-- the lines that ended stay the first lines
pub ended_first : (text more : List ℕ) → (rest : List Line) × (ended_lines (text ++ more) ≡ ended_lines text ++ rest)
ended_first text [] = ([], ap ended_lines (append-nil text) ∙ sym (append-nil (ended_lines text)))
ended_first text (b ∷ more) = at (is_lf b) refl (ended_first (text ++ b ∷ []) more)
  where
    whole : ended_lines (text ++ b ∷ more) ≡ ended_lines ((text ++ b ∷ []) ++ more)
    whole = ap ended_lines (sym (append_assoc text (b ∷ []) more))

    at : (v : Bool) → is_lf b ≡ v → (rest : List Line) × (ended_lines ((text ++ b ∷ []) ++ more) ≡ ended_lines (text ++ b ∷ []) ++ rest) → (rest : List Line) × (ended_lines (text ++ b ∷ more) ≡ ended_lines text ++ rest)
    at true e later =
        let lf : ended_lines (text ++ b ∷ []) ≡ ended_lines text ++ begun_line text ∷ [] = ap (λ x. ended_lines (text ++ x ∷ [])) (eqb-true b 10 e) ∙ ended-lf text in
        (begun_line text ∷ later.0, whole ∙ later.1 ∙ ap (λ l. l ++ later.0) lf ∙ append_assoc (ended_lines text) (begun_line text ∷ []) later.0)
    at false e later = (later.0, whole ∙ later.1 ∙ ap (λ l. l ++ later.0) (ended-more text (b ∷ []) (rw e refl)))

-- the lines before an early fault, or those that ended, are the first ones of an input that goes on
pub good_first : (form : Rule) (text more : List ℕ)
    → (rest : List Line) × (good_lines (fault_by form (text ++ more)) (lines_of (text ++ more)) ≡ good_lines (early_by form text) (ended_lines text) ++ rest)
good_first form text more = by_early (early_by form text) refl
  where
    ls : List Line
    ls = (ended_first text more).0

    tail : List Line
    tail = ls ++ line_or_none (begun_line (text ++ more))

    lines : lines_of (text ++ more) ≡ ended_lines text ++ tail
    lines = ap (λ l. l ++ line_or_none (begun_line (text ++ more))) (ended_first text more).1 ∙ append_assoc (ended_lines text) ls (line_or_none (begun_line (text ++ more)))

    no_first : early_by form text ≡ None → first_by form [] (ended_lines text) ≡ None
    no_first h = first_none _ _ h

    late : (o : Option (ℕ × Kind)) → fault_by form (text ++ more) ≡ o → early_by form text ≡ None → (rest : List Line) × (good_lines o (lines_of (text ++ more)) ≡ ended_lines text ++ rest)
    late None e h = (tail, lines)
    late (Some at) e h =
        let far = fault_above form (ended_lines text) ls (begun_line (text ++ more)) at (no_first h)
        (subst (λ l. option_or (first_by form [] l) (end_by form l (begun_line (text ++ more))) ≡ Some at) (ended_first text more).1 e) in (
          take ((at.0 - 1) - length (ended_lines text)) tail,
          ap (take (at.0 - 1)) lines ∙ take_front (at.0 - 1) (ended_lines text) tail
              ∙ ap (λ l. l ++ take ((at.0 - 1) - length (ended_lines text)) tail) (take_whole (at.0 - 1) (ended_lines text) (omega (arith, far))),
        )

    by_early : (o : Option (ℕ × Kind)) → early_by form text ≡ o → (rest : List Line) × (good_lines (fault_by form (text ++ more)) (lines_of (text ++ more)) ≡ good_lines o (ended_lines text) ++ rest)
    by_early (Some at) h =
        let same : fault_by form (text ++ more) ≡ Some at = fault_here form (text ++ more) at (early_stays form text more at h) in (
          take ((at.0 - 1) - length (ended_lines text)) tail,
          ap (λ o. good_lines o (lines_of (text ++ more))) same ∙ ap (take (at.0 - 1)) lines ∙ take_front (at.0 - 1) (ended_lines text) tail,
        )
    by_early None h = let w = late (fault_by form (text ++ more)) refl h in (w.0, w.1)
