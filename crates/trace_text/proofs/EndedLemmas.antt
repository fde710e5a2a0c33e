-- What a text says up to its last LF.
use Rattle.std.proofs.Common.{◌≡◌, ◌∙◌, sym, ap, subst, refl, ℕ, ◌+◌, ◌≤◌, Bool, true, false, List, [], ◌∷◌, ◌++◌, length, Option, Some, None, take, arith, append-nil, append_assoc, length-append}
use Rattle.std.proofs.Math.Seq.{take-length}
use Rattle.std.proofs.lemmas.Bool.{eqb-true}
use Rattle.std.proofs.lemmas.List.{take-append-le}
use Rattle.line_model.specs.text.Text.{Line, begun_line, early_rows, ended_lines, fault, first_fault, has_header, head, head_of, is_lf, last_number, rows, rows_in, size_of, size_kind}
use Rattle.line_model.specs.declared.fault.Kind.TheVariants.{HeaderMissing}
use Rattle.line_model.specs.declared.fault.Fault.TheVariants.{Trace}
use Rattle.line_model.specs.declared.interface.Interface.{Interface}
use Rattle.line_model.proofs.LineLemmas.{size_kind-zero}
use Rattle.line_model.proofs.TextLemmas.{HasNoLf, begun-lf, ended-lf, ended-more, size_kind-none, size_of-append, size_of-ended}
use Rattle.trace_text.specs.EndedPart.{ended_part}
use Rattle.trace_text.specs.Progress.{Progress}
use Rattle.trace_text.specs.Represents.{Represents, EndsText}
use Rattle.trace_text.proofs.EndLemmas.{end-header, end-missing, ends-empty, empty-rows, known-end, rows-all}
use Rattle.trace_text.proofs.FeedLemmas.{early-none, no_fault, rows-sound, size-sound}

-- it has the same lines that ended, and no line begun
pub record IsEnded (text part : List ℕ) : Type 0 where
  pub lines : ended_lines part ≡ ended_lines text
  pub begun : begun_line part ≡ []

whole_ended : (text : List ℕ) → ended_part (text ++ 10 ∷ []) ≡ text ++ 10 ∷ []
whole_ended text =
    let size : size_of (ended_lines (text ++ 10 ∷ [])) ≡ length (text ++ 10 ∷ []) =
    omega (arith, ap size_of (ended-lf text), size_of-append (ended_lines text) (begun_line text ∷ []), size_of-ended text, length-append text (10 ∷ [])) in
    ap (λ n. take n (text ++ 10 ∷ [])) size ∙ take-length (text ++ 10 ∷ [])

same_ended : (text more : List ℕ) → HasNoLf more → ended_part (text ++ more) ≡ ended_part text
same_ended text more h =
    let few : size_of (ended_lines text) ≤ length text = omega (arith, size_of-ended text) in
    ap (λ (ls : List Line). take (size_of ls) (text ++ more)) (ended-more text more h) ∙ take-append-le (size_of (ended_lines text)) text more few

one_ended : (v : Bool) (b : ℕ) → v ≡ is_lf b → (text : List ℕ) → IsEnded text (ended_part text) → IsEnded (text ++ b ∷ []) (ended_part (text ++ b ∷ []))
one_ended true b e text h =
    subst (λ (c : ℕ). IsEnded (text ++ c ∷ []) (ended_part (text ++ c ∷ []))) (sym (eqb-true b 10 (sym e)))
    (record { lines = ap ended_lines (whole_ended text); begun = ap begun_line (whole_ended text) ∙ begun-lf text })
one_ended false b e text h =
    let none : HasNoLf (b ∷ []) = rw (← e) refl in
    record { lines = ap ended_lines (same_ended text (b ∷ []) none) ∙ h.lines ∙ sym (ended-more text (b ∷ []) none); begun = ap begun_line (same_ended text (b ∷ []) none) ∙ h.begun }

more_ended : (text more : List ℕ) → IsEnded text (ended_part text) → IsEnded (text ++ more) (ended_part (text ++ more))
more_ended text [] h = subst (λ (xs : List ℕ). IsEnded xs (ended_part xs)) (sym (append-nil text)) h
more_ended text (b ∷ more) h = subst (λ (xs : List ℕ). IsEnded xs (ended_part xs)) (append_assoc text (b ∷ []) more) (more_ended (text ++ b ∷ []) more (one_ended (is_lf b) b refl text h))

pub ended-part : (text : List ℕ) → IsEnded text (ended_part text)
ended-part text = more_ended [] text (record { lines = refl; begun = refl })

-- the reader without the line begun represents it
part-represented : (v : Progress) (text : List ℕ) → Represents v text → Represents (record v { begun = [] }) (ended_part text)
part-represented v text s =
    let e = ended-part text in
    let same = sym e.lines in
    let small : size_of (ended_lines (ended_part text)) ≤ 1073741824 = omega (arith, ap size_of e.lines, (size_kind-none (size_of (ended_lines text)) 0 (length (begun_line text)) (size-sound text s.sound)).1) in
    record {
      ended = s.ended ∙ ap (λ (ls : List Line). length ls) same;
      start = s.start ∙ ap size_of same;
      interface = s.interface ∙ ap head_of same;
      header = s.header ∙ ap has_header same;
      last = s.last ∙ ap last_number same;
      begun = sym e.begun;
      sound = early-none (ended_part text) (ap (first_fault []) e.lines ∙ no_fault text s.sound) (ap (λ (l : Line). size_kind (size_of (ended_lines (ended_part text))) 0 (length l)) e.begun ∙ size_kind-zero _ small);
      running = s.running;
    }

part-ends : (v : Progress) (text : List ℕ) → Represents v text → EndsText (record v { begun = [] }) v.ended (ended_part text)
part-ends v text s = ends-empty (record v { begun = [] }) (ended_part text) (part-represented v text s) refl

pub part-header : (v : Progress) (text : List ℕ) (interface : Interface) → Represents v text → v.interface ≡ Some interface → (fault (ended_part text) ≡ None) × (head (ended_part text) ≡ Some interface)
part-header v text interface s h = end-header (record v { begun = [] }) v.ended (ended_part text) interface (part-ends v text s) h

pub part-missing : (v : Progress) (text : List ℕ) → Represents v text → v.interface ≡ None → fault (ended_part text) ≡ Some (v.ended + 1, HeaderMissing)
part-missing v text s h = end-missing (record v { begun = [] }) v.ended (ended_part text) (part-ends v text s) h

same_rows : (v : Progress) (text : List ℕ) → Represents v text → early_rows (ended_part text) ≡ early_rows text
same_rows v text s =
    rows-sound (ended_part text) (part-represented v text s).sound ∙ ap rows_in (ended-part text).lines ∙ sym (rows-sound text s.sound)

rows_at : (o : Option Interface) (v : Progress) (text : List ℕ) → v.interface ≡ o → Represents v text → rows (ended_part text) ≡ early_rows text
rows_at (Some i) v text h s =
    rows-all (ended_part text) (part-header v text i s h).0 ∙ empty-rows (record v { begun = [] }) (ended_part text) (part-represented v text s) refl ∙ append-nil (early_rows (ended_part text)) ∙ same_rows v text s
rows_at None v text h s =
    known-end (ended_part text) (Trace (v.ended + 1) HeaderMissing) (part-represented v text s).sound (part-missing v text s h) ∙ same_rows v text s

pub part-rows : (v : Progress) (text : List ℕ) → Represents v text → rows (ended_part text) ≡ early_rows text
part-rows v text s = rows_at v.interface v text refl s
