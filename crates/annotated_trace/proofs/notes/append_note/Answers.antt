use Rattle.annotated_trace.proofs.WordingLemmas.{kept_after, more_added, note_put}
use Rattle.annotated_trace.proofs.notes.append_note.Goals as goal

pub returns-clause-ok : goal.returns-clause-ok
returns-clause-ok g c =
    note_put c.args.out.now.items c.args.words.now c.extend_from_slice.new.self.items c.append_to.new.out.items c.push.new.self.items c.in_ok-extend_from_slice.ensures.items c.in_ok-append_to.ensures.ok c.in_ok-push.ensures.items

pub returns-in_err-append_to-clause-kept : goal.returns-in_err-append_to-clause-kept
returns-in_err-append_to-clause-kept g c = kept_after c.args.out.now.items c.extend_from_slice.new.self.items c.append_to.new.out.items _ c.in_ok-extend_from_slice.ensures.items c.append_to.ensures.kept

pub returns-clause-kept : goal.returns-clause-kept
returns-clause-kept g c =
    more_added c.args.out.now.items c.append_to.new.out.items _ c.push.new.self.items
    (kept_after c.args.out.now.items c.extend_from_slice.new.self.items c.append_to.new.out.items _ c.in_ok-extend_from_slice.ensures.items c.append_to.ensures.kept) c.in_ok-push.ensures.items
