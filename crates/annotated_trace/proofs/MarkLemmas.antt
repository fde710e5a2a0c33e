-- The marks of an annotation.
use Rattle.std.proofs.Common.{◌≡◌, ◌∙◌, sym, ap, subst, refl, ℕ, List, [], ◌∷◌, ◌++◌, Some, None, append_assoc, append-nil}
use Rattle.std.proofs.lemmas.List.Elements.{filter-append}
use Rattle.line_model.specs.observer.Report.{report_of}
use Rattle.line_model.specs.text.Text.{Line, fault, head, head_of, lines_of, rows, rows_in}
use Rattle.line_model.specs.declared.finding.Finding.{Finding}
use Rattle.line_model.specs.declared.interface.Interface.{Interface}
use Rattle.trace_text.specs.ObserverAnswers.{found_in}
use Rattle.annotated_trace.specs.Annotation.{Annotated, AreMarked, AreMarksOf, all_lines, bare_lines, is_mark, marks_in}
use Rattle.annotated_trace.specs.declared.rows.Rows.TheVariants.{All}
use Rattle.annotated_trace.specs.Laws.{MarksLaw}
use Rattle.annotated_trace.proofs.SameReport.{annotation_lines, lines_are}
use Rattle.trace_text.proofs.EndLemmas.{head-sound, rows-all}
use Rattle.line_model.specs.packets.Says.{items_of}

pub both_marks : (f g : List Finding) (m n : List Line) → AreMarksOf f m → AreMarksOf g n → AreMarksOf (f ++ g) (m ++ n)
both_marks [] g [] n h k = k
both_marks [] g (l ∷ m) n h k = absurd h
both_marks (x ∷ f) g [] n h k = absurd h
both_marks (x ∷ f) g (l ∷ m) n h k = (h.0, both_marks f g m n h.1 k)

pub marks_in-append : (xs ys : List Line) → marks_in (xs ++ ys) ≡ marks_in xs ++ marks_in ys
marks_in-append xs ys = filter-append is_mark xs ys

none_first : (xs ys : List Line) → xs ++ ys ≡ [] → xs ≡ []
none_first [] ys h = refl
none_first (x ∷ xs) ys h = cc

none_second : (xs ys : List Line) → xs ++ ys ≡ [] → ys ≡ []
none_second [] ys h = h
none_second (x ∷ xs) ys h = cc

-- the marks after lines are those of the findings that come with them
pub record Come (before : List Line) (annotated : List Annotated) : Type 0 where
  pub findings : List Finding
  pub came : found_in (before ++ bare_lines annotated) ≡ found_in before ++ findings
  pub marks : AreMarksOf findings (marks_in (all_lines annotated))

come : (before : List Line) (annotated : List Annotated) → AreMarked All before annotated → marks_in (bare_lines annotated) ≡ [] → Come before annotated
come before [] h none = record { findings = []; came = ap found_in (append-nil before) ∙ sym (append-nil (found_in before)); marks = tt }
come before (a ∷ annotated) h none =
    let here = h.0.0 in
    let split = sym (marks_in-append (a.line ∷ []) (bare_lines annotated)) ∙ none in
    let unmarked = none_first (marks_in (a.line ∷ [])) (marks_in (bare_lines annotated)) split in
    let rest = come (before ++ a.line ∷ []) annotated h.1 (none_second (marks_in (a.line ∷ [])) (marks_in (bare_lines annotated)) split) in
    let marks : marks_in (all_lines (a ∷ annotated)) ≡ marks_in a.comments ++ marks_in (all_lines annotated) =
    marks_in-append (a.line ∷ []) (a.comments ++ all_lines annotated) ∙ ap (λ xs. xs ++ marks_in (a.comments ++ all_lines annotated)) unmarked ∙ marks_in-append a.comments (all_lines annotated) in
    record {
      findings = here.findings ++ rest.findings;
      came = ap found_in (sym (append_assoc before (a.line ∷ []) (bare_lines annotated))) ∙ rest.came ∙ ap (λ xs. xs ++ rest.findings) here.came ∙ append_assoc (found_in before) here.findings rest.findings;
      marks = subst (AreMarksOf (here.findings ++ rest.findings)) (sym marks) (both_marks here.findings rest.findings (marks_in a.comments) (marks_in (all_lines annotated)) here.marks rest.marks);
    }

nothing_found : found_in [] ≡ []
unfolding head_of
nothing_found = refl

pub found_whole : (source : List ℕ) (i : Interface) → fault source ≡ None → head source ≡ Some i → found_in (lines_of source) ≡ (report_of i (items_of i (rows source))).findings
found_whole source i sound h =
    ap (λ o. elim o as (λ _. List Finding) [ None ↦ [] | Some j ↦ (report_of j (items_of j (rows_in (lines_of source)))).findings ]) (sym (head-sound source sound) ∙ h)
    ∙ ap (λ rs. (report_of i (items_of i rs)).findings) (sym (rows-all source sound))

pub marked : MarksLaw
marked source bytes i sound h none a =
    let l = a.lines in
    let ls = all_lines l.annotated ++ a.closing in
    let lines = lines_are source bytes ls (annotation_lines source bytes a.front l.annotated a.closing l.bare l.written l.comments a.whole a.comments) in
    let all = come [] l.annotated l.marked (ap marks_in l.bare ∙ none) in
    let marks : marks_in (lines_of bytes) ≡ marks_in (all_lines l.annotated) =
    ap marks_in lines ∙ marks_in-append (all_lines l.annotated) a.closing ∙ ap (λ xs. marks_in (all_lines l.annotated) ++ xs) a.unmarked ∙ append-nil (marks_in (all_lines l.annotated)) in
    let findings : all.findings ≡ (report_of i (items_of i (rows source))).findings =
    ap (λ xs. xs ++ all.findings) (sym nothing_found) ∙ sym all.came ∙ ap found_in l.bare ∙ found_whole source i sound h in
    subst (λ fs. AreMarksOf fs (marks_in (lines_of bytes))) findings (subst (AreMarksOf all.findings) (sym marks) all.marks)
