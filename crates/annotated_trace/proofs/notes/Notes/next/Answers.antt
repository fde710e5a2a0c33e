use Rattle.std.proofs.Common.{refl, subst, sym}
use Rattle.annotated_trace.specs.Wording.{IsSaid}
use Rattle.annotated_trace.proofs.WordingLemmas.{ended_is_said, next_bytes, next_notes}
use Rattle.annotated_trace.proofs.notes.Notes.next.Goals as goal

pub invariant_of-self : goal.invariant_of-self
invariant_of-self g c =
    let line = c.self.inside.line in
    next_bytes c.self.inside.lines.items line line c.append_note.new.out.items c.in-Ok.ensures.ok refl c.self.invariant c.in-Ok.ensures.words

pub returns-in-Ok-clause-ok : goal.returns-in-Ok-clause-ok
returns-in-Ok-clause-ok g c =
    let line = c.self.inside.line in
    next_notes c.args.self.now c.self.inside.lines.items line line c.append_note.new.out.items c.clear.new.self c.self.view_is c.in-Ok.ensures.ok refl c.self.invariant c.in-Ok.ensures.words c.clear.ensures

pub returns-in-Ok-clause-said : goal.returns-in-Ok-clause-said
returns-in-Ok-clause-said g c =
    let line = c.self.inside.line in
    subst IsSaid (sym (next_notes c.args.self.now c.self.inside.lines.items line line c.append_note.new.out.items c.clear.new.self c.self.view_is c.in-Ok.ensures.ok refl c.self.invariant c.in-Ok.ensures.words c.clear.ensures))
    (ended_is_said c.args.self.now)
