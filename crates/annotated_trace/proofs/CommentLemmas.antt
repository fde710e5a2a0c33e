-- The comments after a line.
use Rattle.std.proofs.Common.{◌≡◌, ◌∙◌, sym, ap, subst, ℕ, ◌<◌, true, List, ◌++◌, length, length-append, arith, Result, Ok, Err, OnOk, OnErr, IfErr, append_assoc}
use Rattle.line_model.specs.text.Text.{Line}
use Rattle.line_model.specs.traces.Traces.{text}
use Rattle.line_model.specs.declared.finding.Finding.{Finding}
use Rattle.annotated_trace.specs.Annotation.{AreMarksOf, marks_in}
use Rattle.annotated_trace.specs.Marking.{HasCommentsOf, HasMarksOf, HaveMarksOf}
use Rattle.annotated_trace.specs.Wording.{AreNotes}
use Rattle.annotated_trace.specs.declared.rows.Rows.{Rows}
use Rattle.annotated_trace.specs.declared.rows.Rows.TheVariants.{All, Chosen}
use Rattle.annotated_trace.proofs.LinesOfText.{text_append}
use Rattle.annotated_trace.proofs.MarkLemmas.{marks_in-append}
use Rattle.annotated_trace.proofs.MarkingLemmas.{both_comments}
use Rattle.annotated_trace.proofs.WordingLemmas.{notes_are_comments, notes_mark_nothing}

pub always : {T E : Type 0} (r : Result T E) (P : Type 0) → P → OnOk r P
always (Ok x) P h = h
always (Err e) P h = tt

behind_of : (choice : Rows) (findings : List Finding) (behind : List Line) → AreMarksOf findings (marks_in behind) → 0 < length behind → HaveMarksOf choice true findings behind
behind_of All findings behind h some = (h, λ _. some)
behind_of (Chosen channel call) findings behind h some = (h, some)

pub notes_and_marks : (choice : Rows) (findings : List Finding) (before mid after : List ℕ) (notes : List Line) → mid ≡ before ++ text notes → AreNotes notes → 0 < length notes → HasMarksOf findings mid after → HasCommentsOf choice true findings before after
notes_and_marks choice findings before mid after notes e n some h =
    let all : marks_in (notes ++ h.marks) ≡ h.marks = marks_in-append notes h.marks ∙ ap (λ xs. xs ++ marks_in h.marks) (notes_mark_nothing notes n) ∙ h.all in
    record {
      behind = notes ++ h.marks;
      written = h.written ∙ ap (λ xs. xs ++ text h.marks) e ∙ append_assoc before (text notes) (text h.marks) ∙ ap (λ xs. before ++ xs) (sym (text_append notes h.marks));
      comments = both_comments notes h.marks (notes_are_comments notes n) h.comments;
      marks = behind_of choice findings (notes ++ h.marks) (subst (AreMarksOf findings) (sym all) h.marks_are) (omega (arith, length-append notes h.marks));
    }

pub part_err : {T E : Type 0} (r : Result T E) (P Q : Type 0) → OnErr r P → (P → Q) → IfErr r (λ e. Q)
part_err (Ok x) P Q h k = tt
part_err (Err e) P Q h k = k h
