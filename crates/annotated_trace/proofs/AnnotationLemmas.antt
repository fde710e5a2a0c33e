-- An annotation is the print of a form.
use Rattle.std.proofs.Common.{◌≡◌, ◌∙◌, sym, ap, subst, refl, ℕ, Bool, true, false, List, [], ◌∷◌, ◌++◌, Option, Result, Ok, Err, IfOk, IfErr, append_assoc, append-nil, ◌⊎◌, inl, inr}
use Rattle.std.specs.List.{AllByRecursion}
use Rattle.line_model.specs.text.Text.{Line, ended_lines, lines_of}
use Rattle.line_model.specs.traces.Traces.{text}
use Rattle.line_model.specs.basics.Records.{Report}
use Rattle.line_model.specs.declared.fault.Fault.{Fault}
use Rattle.line_model.specs.declared.fault.Fault.TheVariants.{Trace}
use Rattle.line_model.specs.declared.finding.Finding.{Finding}
use Rattle.line_model.specs.declared.totals.Summary.{Summary}
use Rattle.trace_text.specs.ObserverAnswers.{found_in}
use Rattle.annotated_trace.specs.Annotation.{Annotated, AreComments, AreMarked, IsAnnotatedLine, IsAnnotation, IsAnnotationOf, IsMarked, IsMarkedWhere, IsUnmarked, all_lines, bare_lines, with_comments}
use Rattle.annotated_trace.specs.Annotating.{HasFirstOf, IsAnnotated}
use Rattle.annotated_trace.specs.Marking.{HasRightComments, HaveMarksOf, IsPickedRightly}
use Rattle.annotated_trace.specs.Printed.{HasAppended, IsPrintOf}
use Rattle.annotated_trace.specs.Printers.{HasFirstPrint, HasFirstPrintOf, HasPrintBefore, HasPrinted, IsFirstOfClosing, IsFirstOfLines, IsPrinted}
use Rattle.annotated_trace.specs.Printing.{HasPassed, StopsAtEnd, StopsPrinting, StopsReading}
use Rattle.annotated_trace.specs.declared.rows.Rows.{Rows}
use Rattle.annotated_trace.specs.declared.rows.Rows.TheVariants.{All, Chosen}
use Rattle.annotated_trace.proofs.LinesOfText.{text_append}

-- ---- a line with its comments

marked_where : (channel call : Option ℕ) (picked : Bool) (ls : List Line) (a : Annotated) (findings : List Finding) → found_in (ls ++ a.line ∷ []) ≡ found_in ls ++ findings → HaveMarksOf (Chosen channel call) picked findings a.comments → IsMarkedWhere picked ls a
marked_where channel call true ls a findings came marks = (record { findings = findings; came = came; marks = marks.0 }, marks.1)
marked_where channel call false ls a findings came none = none

mark_line_of : (choice : Rows) (picked : Bool) (ls : List Line) (a : Annotated) (findings : List Finding) → IsPickedRightly choice ls a.line picked → found_in (ls ++ a.line ∷ []) ≡ found_in ls ++ findings → HaveMarksOf choice picked findings a.comments → IsMarked choice ls a
mark_line_of All picked ls a findings right came marks = (record { findings = findings; came = came; marks = marks.0 }, λ chosen. marks.1 (right chosen))
mark_line_of (Chosen channel call) picked ls a findings right came marks = subst (λ b. IsMarkedWhere b ls a) right (marked_where channel call picked ls a findings came marks)

pub annotated_line : (choice : Rows) (before : List Line) (l : Line) (findings : List Finding) (old mid now : List ℕ) → found_in (before ++ l ∷ []) ≡ found_in before ++ findings → mid ≡ old ++ (l ++ 10 ∷ []) → HasRightComments choice before l findings mid now → HasAppended (IsAnnotatedLine choice before l) old now
annotated_line choice before l findings old mid now came put picked =
    let c = picked.2 in
    record {
      bytes = text (l ∷ c.behind);
      appended = c.written ∙ ap (λ xs. xs ++ text c.behind) put ∙ append_assoc old (l ++ 10 ∷ []) (text c.behind) ∙ ap (λ xs. old ++ xs) (append_assoc l (10 ∷ []) (text c.behind));
      formed = record { comments = c.behind; written = refl; are_comments = c.comments; marked = mark_line_of choice picked.0 before (record { line = l; comments = c.behind }) findings picked.1 came c.marks };
    }

-- ---- all lines

-- lines after others, each with comments that mark its findings
record IsAnnotatedAfter (choice : Rows) (before ls : List Line) (bytes : List ℕ) : Type 0 where
  pub annotated : List Annotated
  pub bare : bare_lines annotated ≡ ls
  pub written : bytes ≡ text (all_lines annotated)
  pub comments : AllByRecursion (λ a. AreComments a.comments) annotated
  pub marked : AreMarked choice before annotated

print_is_annotated : (choice : Rows) (before ls : List Line) (bytes : List ℕ) → IsPrintOf (IsAnnotatedLine choice) before ls bytes → IsAnnotatedAfter choice before ls bytes
print_is_annotated choice before [] bytes h = record { annotated = []; bare = refl; written = h; comments = tt; marked = tt }
print_is_annotated choice before (l ∷ ls) bytes h =
    let rest = print_is_annotated choice (before ++ l ∷ []) ls h.1 h.4 in
    let own : IsAnnotatedLine choice before l h.0 = h.3 in
    let a : Annotated = record { line = l; comments = own.comments } in
    record {
      annotated = a ∷ rest.annotated;
      bare = ap (λ xs. l ∷ xs) rest.bare;
      written = h.2 ∙ ap (λ xs. xs ++ h.1) own.written ∙ ap (λ xs. text (l ∷ own.comments) ++ xs) rest.written ∙ sym (text_append (with_comments a) (all_lines rest.annotated));
      comments = (own.are_comments, rest.comments);
      marked = (own.marked, rest.marked);
    }

pub annotation_of : (choice : Rows) (ls : List Line) (bytes : List ℕ) → IsPrintOf (IsAnnotatedLine choice) [] ls bytes → IsAnnotationOf choice ls bytes
annotation_of choice ls bytes h =
    let a = print_is_annotated choice [] ls bytes h in
    record { annotated = a.annotated; bare = a.bare; written = a.written; comments = a.comments; marked = a.marked }

-- ---- what a sink has of one print it has of another

pub same_print : (F G : List Line → List ℕ → Type 0) → ((ls : List Line) (bytes : List ℕ) → F ls bytes → G ls bytes) → (before taken : Option (List ℕ)) (held : List ℕ) (ls : List Line) → HasPrinted F before taken held ls → HasPrinted G before taken held ls
same_print F G to before taken held ls h = record { sent = h.sent; taken_is = h.taken_is; lines = to ls (h.sent ++ held) h.lines }

pub same_first_print : (F G : List Line → List ℕ → Type 0) → ((ls : List Line) (bytes : List ℕ) → F ls bytes → G ls bytes) → (before taken : Option (List ℕ)) (ls : List Line) → HasFirstPrint F before taken ls → HasFirstPrint G before taken ls
same_first_print F G to before taken ls h = record { done = h.done; others = h.others; lines = h.lines; left = h.left; printed = same_print F G to before taken h.left h.done h.printed }

pub same_print_before : (F G : List Line → List ℕ → Type 0) → ((ls : List Line) (bytes : List ℕ) → F ls bytes → G ls bytes) → (before taken : Option (List ℕ)) (ls : List Line) (f : Fault) → HasPrintBefore F before taken ls f → HasPrintBefore G before taken ls f
same_print_before F G to before taken ls (Trace line kind) h = same_print F G to before taken [] _ h
same_print_before F G to before taken ls _ h = tt

-- ---- the whole text

abbrev pub Closes : List Line → Report → List ℕ → Type 0
Closes ls report bytes = IsUnmarked bytes

-- comments after the lines
closed : (choice : Rows) (x lines bytes closing : List ℕ) → IsPrintOf (IsAnnotatedLine choice) [] (lines_of x) lines → IsUnmarked closing → bytes ≡ lines ++ closing → IsAnnotation choice x bytes
closed choice x lines bytes closing h c e = record {
  front = lines;
  closing = c.closing;
  lines = annotation_of choice (lines_of x) lines h;
  whole = e ∙ ap (λ xs. lines ++ xs) c.written;
  comments = c.comments;
  unmarked = c.unmarked;
}

pub annotated_of : (choice : Rows) (x : List ℕ) (before after : Option (List ℕ)) (sums : Summary) → IsPrinted (IsPrintOf (IsAnnotatedLine choice) []) Closes x before after sums → IsAnnotated choice x before after sums
annotated_of choice x before after sums p = record {
  sound = p.reported.sound;
  bytes = p.lines ++ p.closing;
  taken = p.taken;
  annotation = closed choice x p.lines (p.lines ++ p.closing) p.closing p.print p.closed refl;
  counted = p.counted;
}

pub first_of_annotation : (choice : Rows) (x : List ℕ) (before after : Option (List ℕ)) → HasFirstPrintOf (IsPrintOf (IsAnnotatedLine choice) []) Closes x before after → HasFirstOf choice x before after
first_of_annotation choice x before after p = by_part p.part
  where
    by_part : IsFirstOfLines p.lines p.front ⊎ IsFirstOfClosing Closes x p.lines p.front → HasFirstOf choice x before after
    by_part (inl q) = record {
      front = p.front;
      left = q.0;
      taken = p.taken;
      annotation = closed choice x p.lines (p.front ++ q.0) [] p.print (record { closing = []; written = refl; comments = tt; unmarked = refl }) (sym q.1 ∙ sym (append-nil p.lines));
    }
    by_part (inr q) = record { front = p.front; left = q.left; taken = p.taken; annotation = closed choice x p.lines (p.front ++ q.left) q.closing p.print q.closed (sym q.whole) }

-- ---- what a scan returns

pub passed_annotated : (choice : Rows) (left after asked before taken : Option (List ℕ)) (r : Result Summary Fault) → IfOk r (HasPassed (IsPrinted (IsPrintOf (IsAnnotatedLine choice) []) Closes) left after asked before taken) → IfOk r (HasPassed (IsAnnotated choice) left after asked before taken)
passed_annotated choice left after asked before taken (Ok sums) h = record { given = h.given; source = h.source; printed = annotated_of choice h.given before taken sums h.printed }
passed_annotated choice left after asked before taken (Err f) h = tt

pub stops_annotating : (choice : Rows) (left after asked before taken : Option (List ℕ)) (well : Type 0) (r : Result Summary Fault) → IfErr r (StopsPrinting (IsPrintOf (IsAnnotatedLine choice) []) (HasFirstPrintOf (IsPrintOf (IsAnnotatedLine choice) []) Closes) left after asked before taken well)
    → IfErr r (StopsPrinting (IsAnnotationOf choice) (HasFirstOf choice) left after asked before taken well)
stops_annotating choice left after asked before taken well (Ok sums) h = tt
stops_annotating choice left after asked before taken well (Err f) h = record { given = h.given; source = h.source; order = h.order; why = why h.why }
  where
    same : HasPrinted (IsPrintOf (IsAnnotatedLine choice) []) before taken [] (ended_lines h.given) → HasPrinted (IsAnnotationOf choice) before taken [] (ended_lines h.given)
    same p = same_print (IsPrintOf (IsAnnotatedLine choice) []) (IsAnnotationOf choice) (annotation_of choice) before taken [] (ended_lines h.given) p

    why : StopsReading (IsPrintOf (IsAnnotatedLine choice) []) h.given before taken well f ⊎ StopsAtEnd (IsPrintOf (IsAnnotatedLine choice) []) (HasFirstPrintOf (IsPrintOf (IsAnnotatedLine choice) []) Closes) left after asked h.given before taken f
        → StopsReading (IsAnnotationOf choice) h.given before taken well f ⊎ StopsAtEnd (IsAnnotationOf choice) (HasFirstOf choice) left after asked h.given before taken f
    why (inl s) = inl (record {
      refusal = s.refusal;
      first = same_first_print (IsPrintOf (IsAnnotatedLine choice) []) (IsAnnotationOf choice) (annotation_of choice) before taken (ended_lines h.given) s.first;
      at_line = λ w. same_print_before (IsPrintOf (IsAnnotatedLine choice) []) (IsAnnotationOf choice) (annotation_of choice) before taken (ended_lines h.given) f (s.at_line w);
      at_failure = λ e. same (s.at_failure e);
    })
    why (inr s) = inr (record { source = s.source; sound = s.sound; refusal = s.refusal; kept = λ n. same (s.kept n); first = λ e. first_of_annotation choice h.given before taken (s.first e) })
