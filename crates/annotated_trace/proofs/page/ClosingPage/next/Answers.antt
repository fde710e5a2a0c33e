use Rattle.std.proofs.Math.Logic.{∥∥₁_map}
use Rattle.annotated_trace.specs.Wording.{ended_notes}
use Rattle.annotated_trace.proofs.PageLemmas.{next_noted}
use Rattle.annotated_trace.proofs.page.ClosingPage.next.Goals as goal

pub invariant_of-self : goal.invariant_of-self
invariant_of-self g c = record {
  represented = ∥∥₁_map c.args.self.now.represented (λ h.
      record {
        notes = ended_notes h.notes;
        noted = next_noted g.S.LentSink.before _ _ _ _ _ _ c.args.self.now.said h.notes h.noted c.begin.ensures c.put.ensures;
      });
}

pub returns : goal.returns
returns g c = record {
  ended = λ notes h.
      next_noted g.S.LentSink.before _ _ _ _ _ _ c.args.self.now.said notes h c.begin.ensures c.put.ensures;
}
