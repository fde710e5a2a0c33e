-- A print that grows line by line.
use Rattle.std.proofs.Common.{◌≡◌, ◌∙◌, sym, ap, subst, refl, ℕ, ◌+◌, ◌-◌, ◌≤◌, List, [], ◌∷◌, ◌++◌, length, take, Option, Some, None, arith, append_assoc, append-nil}
use Rattle.std.specs.Option.{option_or}
use Rattle.std.proofs.Math.Seq.{take-append_seam}
use Rattle.line_model.specs.text.Text.{Line, begun_line, early, ended_lines, first_fault, good_lines, line_kind, size_kind, size_of}
use Rattle.line_model.specs.declared.fault.Kind.{Kind}
use Rattle.line_model.proofs.FinalFaults.{early-append, early-begun, early-ended, one_fault}
use Rattle.line_model.proofs.LineLemmas.{size_kind-zero}
use Rattle.line_model.proofs.TextLemmas.{begun-lf, begun-more, ended-lf, ended-more, first_fault-append, size_kind-none, size_of-append}
use Rattle.trace_text.proofs.FeedLemmas.{early-none, no_fault}
use Rattle.trace_text.proofs.RefusalLemmas.{more_lines}
use Rattle.annotated_trace.specs.Annotation.{IsOneLine}
use Rattle.annotated_trace.specs.Printed.{HasAppended, IsPrintOf}
use Rattle.annotated_trace.specs.Printers.{HasFirstPrint, HasPrinted}

-- ---- one more line

pub print_more : (form : List Line → Line → List ℕ → Type 0) (before ls : List Line) (l : Line) (bytes own : List ℕ) → IsPrintOf form before ls bytes → form (before ++ ls) l own → IsPrintOf form before (ls ++ l ∷ []) (bytes ++ own)
print_more form before [] l bytes own h k = (own, [], ap (λ xs. xs ++ own) h ∙ sym (append-nil own), subst (λ b. form b l own) (append-nil before) k, refl)
print_more form before (x ∷ ls) l bytes own h k = (
  h.0,
  h.1 ++ own,
  ap (λ xs. xs ++ own) h.2 ∙ append_assoc h.0 h.1 own,
  h.3,
  print_more form (before ++ x ∷ []) ls l h.1 own h.4 (subst (λ b. form b l own) (sym (append_assoc before (x ∷ []) ls)) k),
)

-- ---- a line that ends

pub line_ends : (x front : List ℕ) → IsOneLine front → ended_lines (x ++ (front ++ 10 ∷ [])) ≡ ended_lines x ++ (begun_line x ++ front) ∷ []
line_ends x front one =
    ap ended_lines (sym (append_assoc x front (10 ∷ []))) ∙ ended-lf (x ++ front) ∙ ap (λ ls. ls ++ begun_line (x ++ front) ∷ []) (ended-more x front one) ∙ ap (λ l. ended_lines x ++ l ∷ []) (begun-more x front one)

pub none_begun : (x front : List ℕ) → begun_line (x ++ (front ++ 10 ∷ [])) ≡ []
none_begun x front = ap begun_line (sym (append_assoc x front (10 ∷ []))) ∙ begun-lf (x ++ front)

pub ended_by : (x front end : List ℕ) → end ≡ front ++ 10 ∷ [] → IsOneLine front → ended_lines (x ++ end) ≡ ended_lines x ++ (begun_line x ++ front) ∷ []
ended_by x front end e one = ap (λ xs. ended_lines (x ++ xs)) e ∙ line_ends x front one

pub whole_line : (x front end begun : List ℕ) → end ≡ front ++ 10 ∷ [] → begun ≡ begun_line x → begun ++ end ≡ (begun_line x ++ front) ++ 10 ∷ []
whole_line x front end begun e b = ap (λ xs. xs ++ end) b ∙ ap (λ xs. begun_line x ++ xs) e ∙ sym (append_assoc (begun_line x) front (10 ∷ []))

pub line_printed : (form : List Line → Line → List ℕ → Type 0) (x front end sent held now : List ℕ) → end ≡ front ++ 10 ∷ [] → IsOneLine front → IsPrintOf form [] (ended_lines x) (sent ++ held) → HasAppended (form (ended_lines x) (begun_line x ++ front)) held now
    → IsPrintOf form [] (ended_lines (x ++ end)) (sent ++ now)
line_printed form x front end sent held now e one h put =
    let lines = ended_by x front end e one in
    let all : sent ++ now ≡ (sent ++ held) ++ put.bytes = ap (λ xs. sent ++ xs) put.appended ∙ sym (append_assoc sent held put.bytes) in
    let more = print_more form [] (ended_lines x) (begun_line x ++ front) (sent ++ held) put.bytes h put.formed in
    subst (λ ls. IsPrintOf form [] ls (sent ++ now)) (sym lines) (subst (IsPrintOf form [] (ended_lines x ++ (begun_line x ++ front) ∷ [])) (sym all) more)

-- ---- where a line is faulty

pub some_same : {T : Type 0} (a b : T) → Some a ≡ Some b → a ≡ b
some_same a b h = cc

fault_begun : (x more : List ℕ) (at : ℕ × Kind) → early x ≡ None → IsOneLine more → early (x ++ more) ≡ Some at → at.0 ≡ length (ended_lines x) + 1
fault_begun x more at sound one h = by_size (size_kind (size_of (ended_lines (x ++ more))) 0 (length (begun_line (x ++ more)))) refl
  where
    none : first_fault [] (ended_lines (x ++ more)) ≡ None
    none = ap (first_fault []) (ended-more x more one) ∙ no_fault x sound

    by_size : (o : Option Kind) → size_kind (size_of (ended_lines (x ++ more))) 0 (length (begun_line (x ++ more))) ≡ o → at.0 ≡ length (ended_lines x) + 1
    by_size None e = absurd (let bad : None ≡ Some at = sym (early-none (x ++ more) none e) ∙ h in cc)
    by_size (Some kind) e =
        let same = some_same at (length (ended_lines (x ++ more)) + 1, kind) (sym h ∙ early-begun (x ++ more) kind none e) in
        ap (λ p. p.0) same ∙ ap (λ (ls : List Line). length ls + 1) (ended-more x more one)

fault_ended : (x : List ℕ) (at : ℕ × Kind) → early x ≡ None → early (x ++ 10 ∷ []) ≡ Some at → at.0 ≡ length (ended_lines x) + 1
fault_ended x at sound h = by_line (line_kind (ended_lines x) 1 (begun_line x)) refl
  where
    last : first_fault [] (ended_lines (x ++ 10 ∷ [])) ≡ first_fault (ended_lines x) (begun_line x ∷ [])
    last = ap (first_fault []) (ended-lf x) ∙ first_fault-append [] (ended_lines x) (begun_line x ∷ []) ∙ ap (λ o. option_or o (first_fault (ended_lines x) (begun_line x ∷ []))) (no_fault x sound)

    first_none : {T : Type 0} (a b : Option T) → option_or a b ≡ None → a ≡ None
    first_none None b k = refl
    first_none (Some y) b k = cc

    by_line : (o : Option Kind) → line_kind (ended_lines x) 1 (begun_line x) ≡ o → at.0 ≡ length (ended_lines x) + 1
    by_line (Some kind) e =
        let same = some_same at (length (ended_lines x) + 1, kind) (sym h ∙ early-ended (x ++ 10 ∷ []) (length (ended_lines x) + 1, kind) (last ∙ one_fault (ended_lines x) (begun_line x) kind e)) in
        ap (λ p. p.0) same
    by_line None e =
        let none : first_fault [] (ended_lines (x ++ 10 ∷ [])) ≡ None =
        last ∙ ap (λ (o : Option Kind). elim o as (λ _. Option (ℕ × Kind)) [ Some k ↦ Some (length (ended_lines x) + 1, k) | None ↦ None ]) e in
        let small = size_kind-none (size_of (ended_lines x)) 1 (length (begun_line x)) (first_none _ _ e) in
        let few : size_of (ended_lines (x ++ 10 ∷ [])) ≤ 1073741824 = omega (arith, small.1, ap size_of (ended-lf x), size_of-append (ended_lines x) (begun_line x ∷ [])) in
        let fits : size_kind (size_of (ended_lines (x ++ 10 ∷ []))) 0 (length (begun_line (x ++ 10 ∷ []))) ≡ None =
        ap (λ (l : Line). size_kind (size_of (ended_lines (x ++ 10 ∷ []))) 0 (length l)) (begun-lf x) ∙ size_kind-zero (size_of (ended_lines (x ++ 10 ∷ []))) few in
        absurd (let bad : None ≡ Some at = sym (early-none (x ++ 10 ∷ []) none fits) ∙ h in cc)

fault_line : (x front : List ℕ) (at : ℕ × Kind) → early x ≡ None → IsOneLine front → early (x ++ (front ++ 10 ∷ [])) ≡ Some at → at.0 ≡ length (ended_lines x) + 1
fault_line x front at sound one h = by_front (early (x ++ front)) refl
  where
    whole : early ((x ++ front) ++ 10 ∷ []) ≡ Some at
    whole = ap early (append_assoc x front (10 ∷ [])) ∙ h

    by_front : (o : Option (ℕ × Kind)) → early (x ++ front) ≡ o → at.0 ≡ length (ended_lines x) + 1
    by_front None e = fault_ended (x ++ front) at e whole ∙ ap (λ (ls : List Line). length ls + 1) (ended-more x front one)
    by_front (Some other) e =
        let same = some_same at other (sym whole ∙ early-append (x ++ front) (10 ∷ []) other e) in
        ap (λ p. p.0) same ∙ fault_begun x front other sound one e

-- the lines before it are those that ended
pub lines_before : (x more : List ℕ) (at : ℕ × Kind) → at.0 ≡ length (ended_lines x) + 1 → good_lines (Some at) (ended_lines (x ++ more)) ≡ ended_lines x
lines_before x more at e =
    let lines = more_lines x more in
    ap (take (at.0 - 1)) lines.1 ∙ ap (λ n. take n (ended_lines x ++ lines.0)) (omega (arith, e)) ∙ take-append_seam (ended_lines x) lines.0

pub before_line : (x front more : List ℕ) (at : ℕ × Kind) → early x ≡ None → IsOneLine front → early (x ++ (front ++ 10 ∷ [])) ≡ Some at → good_lines (Some at) (ended_lines (x ++ ((front ++ 10 ∷ []) ++ more))) ≡ ended_lines x
before_line x front more at sound one h = lines_before x ((front ++ 10 ∷ []) ++ more) at (fault_line x front at sound one h)

pub before_begun : (x more : List ℕ) (at : ℕ × Kind) → early x ≡ None → IsOneLine more → early (x ++ more) ≡ Some at → good_lines (Some at) (ended_lines (x ++ more)) ≡ ended_lines x
before_begun x more at sound one h = lines_before x more at (fault_begun x more at sound one h)

-- ---- a first part

pub first_of : (F : List Line → List ℕ → Type 0) (before taken : Option (List ℕ)) (held x more : List ℕ) → HasPrinted F before taken held (ended_lines x) → HasFirstPrint F before taken (ended_lines (x ++ more))
first_of F before taken held x more h =
    let lines = more_lines x more in
    record { done = ended_lines x; others = lines.0; lines = lines.1; left = held; printed = h }
