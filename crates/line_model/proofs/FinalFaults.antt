-- A fault of the first lines of an input is final.
use Rattle.std.proofs.Common.{◌≡◌, ◌∙◌, sym, ap, ℕ, ◌+◌, ◌≤◌, List, [], ◌∷◌, ◌++◌, length, Option, Some, None, refl}
use Rattle.std.specs.Option.{option_or, option_map}
use Rattle.line_model.specs.text.Text.{Line, begun_kind, begun_line, early, end_kind, ended_lines, fault, first_fault, form_kind, line_kind, size_kind, size_of}
use Rattle.line_model.specs.declared.fault.Kind.{Kind}
use Rattle.line_model.proofs.FirstFaults.{early_by, early_stays, end_by, fault_by, fault_here, first_by, small_by}
use Rattle.line_model.proofs.LineLemmas.{size_kind-zero}

pub early-begun : (text : List ℕ) (kind : Kind) → first_fault [] (ended_lines text) ≡ None → size_kind (size_of (ended_lines text)) 0 (length (begun_line text)) ≡ Some kind → early text ≡ Some (length (ended_lines text) + 1, kind)
unfolding early
early-begun text kind h k = rw (h, k) refl

pub early-ended : (text : List ℕ) (at : ℕ × Kind) → first_fault [] (ended_lines text) ≡ Some at → early text ≡ Some at
unfolding early
early-ended text at h = rw h refl

pub one_fault : (es : List Line) (l : Line) (kind : Kind) → line_kind es 1 l ≡ Some kind → first_fault es (l ∷ []) ≡ Some (length es + 1, kind)
one_fault es l kind h = ap (λ (o : Option Kind). elim o as (λ _. Option (ℕ × Kind)) [ Some k ↦ Some (length es + 1, k) | None ↦ None ]) h

pub both_none : {T : Type 0} (a b : Option T) → option_or a b ≡ None → (a ≡ None) × (b ≡ None)
both_none None b h = (refl, h)
both_none (Some x) b h = absurd (cc)

-- ---- the rule on contents without gaps

pub first_is : (before ls : List Line) → first_by form_kind before ls ≡ first_fault before ls
first_is before [] = refl
first_is before (l ∷ ls) =
    ap (λ (o : Option (ℕ × Kind)). elim (line_kind before 1 l) as (λ _. Option (ℕ × Kind)) [ Some kind ↦ Some (length before + 1, kind) | None ↦ o ]) (first_is (before ++ l ∷ []) ls)

end_is : (ended : List Line) (b : Line) → end_by form_kind ended b ≡ end_kind ended b
end_is ended [] = refl
end_is ended (b ∷ bs) = refl

pub early_is : (text : List ℕ) → early_by form_kind text ≡ early text
unfolding early
early_is text =
    ap (λ o. option_or o (option_map (λ kind. (length (ended_lines text) + 1, kind)) (size_kind (size_of (ended_lines text)) 0 (length (begun_line text))))) (first_is [] (ended_lines text))

pub fault_is : (text : List ℕ) → fault_by form_kind text ≡ fault text
unfolding fault
fault_is text =
    ap (λ o. option_or o (end_by form_kind (ended_lines text) (begun_line text))) (first_is [] (ended_lines text))
    ∙ ap (option_or (first_fault [] (ended_lines text))) (end_is (ended_lines text) (begun_line text))

pub small_lines : (before ls : List Line) → size_of before ≤ 1073741824 → first_fault before ls ≡ None → size_of (before ++ ls) ≤ 1073741824
small_lines before ls few h = small_by form_kind before ls few (first_is before ls ∙ h)

pub no_size_fault : (es : List Line) (b : Line) → size_of es ≤ 1073741824 → begun_kind es b ≡ None → size_kind (size_of es) 0 (length b) ≡ None
no_size_fault es [] few h = size_kind-zero (size_of es) few
no_size_fault es (b ∷ bs) few h = (both_none _ _ h).0

-- what is known early stays
pub early-append : (text more : List ℕ) (at : ℕ × Kind) → early text ≡ Some at → early (text ++ more) ≡ Some at
early-append text more at h = sym (early_is (text ++ more)) ∙ early_stays form_kind text more at (early_is text ∙ h)

pub fault_is_final : (text more : List ℕ) (at : ℕ × Kind) → early text ≡ Some at → (early (text ++ more) ≡ Some at) × (fault (text ++ more) ≡ Some at)
fault_is_final text more at h =
    let later = early-append text more at h in
    (later, sym (fault_is (text ++ more)) ∙ fault_here form_kind (text ++ more) at (early_is (text ++ more) ∙ later))
