use Rattle.std.proofs.Common.{subst, true}
use Rattle.annotated_trace.specs.Marking.{IsPickedRightly}
use Rattle.annotated_trace.proofs.CommentLemmas.{notes_and_marks}
use Rattle.annotated_trace.proofs.commenting.append_comments.Goals as goal
use Rattle.trace_text.proofs.FeedLemmas.{on_ok}

pub returns-in_ok-append_to-in-true-default-clause-comments : goal.returns-in_ok-append_to-in-true-default-clause-comments
returns-in_ok-append_to-in-true-default-clause-comments g c before l text d s lines =
    let choice = g.D.Describer.rows c.args.describer.now in
    on_ok c.append_marks.result _ _ c.append_marks.ensures.marks (λ h. (
      true,
      subst (IsPickedRightly choice before l) c.in-true-default.is-0 (c.in_ok-picked.ensures.picked before l text d s lines),
      notes_and_marks choice _ c.args.out.now.items c.append_to.new.out.items c.append_marks.new.out.items _ c.in_ok-append_to-in-true-default.ensures.ok c.append_to.ensures.notes (c.in_ok-picked.ensures.said c.in-true-default.is-0) h,
    ))
