use Rattle.std.proofs.Common.{◌∙◌, ◌++◌, ◌∷◌, [], sym, ap, append-nil}
use Rattle.line_model.specs.traces.Traces.{text}
use Rattle.annotated_trace.specs.Wording.{note_line}
use Rattle.annotated_trace.proofs.WordingLemmas.{note_missing, note_there, noted}
use Rattle.annotated_trace.proofs.notes.Notes.append_to.Goals as goal
use Rattle.trace_text.proofs.FeedLemmas.{on_ok}

pub returns-then-is_ended-clause-ok : goal.returns-then-is_ended-clause-ok
returns-then-is_ended-clause-ok g c =
    let line = c.self.inside.line in
    noted c.args.self.now c.args.out.now.items c.self.inside.lines.items line c.extend_from_slice.new.self.items [] c.self.view_is c.self.invariant (note_missing line (sym c.is_empty-is_ended.ensures.none ∙ c.if-is_ended.true))
    (c.in_ok-extend_from_slice.ensures.items ∙ ap (λ xs. c.args.out.now.items ++ xs) c.as_slice.ensures.value ∙ sym (append-nil (c.args.out.now.items ++ c.self.inside.lines.items)))

pub returns-clause-ok : goal.returns-clause-ok
returns-clause-ok g c =
    let line = c.self.inside.line in
    on_ok c.append_note.result _ _ c.append_note.ensures.ok (λ put.
    noted c.args.self.now c.args.out.now.items c.self.inside.lines.items line c.append_note.new.out.items (note_line line ∷ []) c.self.view_is c.self.invariant (note_there line (sym c.is_empty-is_ended.ensures.none ∙ c.if-is_ended.false))
    (put ∙ ap (λ xs. xs ++ text (note_line line ∷ [])) (c.in_ok-extend_from_slice.ensures.items ∙ ap (λ xs. c.args.out.now.items ++ xs) c.as_slice.ensures.value)))
