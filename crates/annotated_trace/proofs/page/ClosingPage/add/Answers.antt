use Rattle.std.proofs.Common.{◌∙◌, sym, length, take}
use Rattle.std.proofs.Math.Logic.{∥∥₁_map}
use Rattle.std.proofs.lemmas.Bool.{eqb-true}
use Rattle.annotated_trace.proofs.PageLemmas.{none_noted, some_there, words_noted}
use Rattle.annotated_trace.specs.Wording.{with_words}
use Rattle.annotated_trace.proofs.page.ClosingPage.add.Goals as goal

pub returns-then-is_empty : goal.returns-then-is_empty
returns-then-is_empty g c = record {
  said = λ notes h.
      none_noted g.S.LentSink.before _ c.args.self.now.buffer c.args.self.now.said c.min.result notes c.args.words.now h c.min.ensures (eqb-true _ 0 (sym c.is_empty.ensures ∙ c.if-is_empty.true));
}

pub invariant_of-self : goal.invariant_of-self
invariant_of-self g c = record {
  represented = ∥∥₁_map c.args.self.now.represented (λ h.
      record {
        notes = record { lines = h.notes.lines; line = with_words h.notes.line c.args.words.now };
        noted = words_noted g.S.LentSink.before _ _ _ _ _ _ c.args.self.now.said c.min.result h.notes c.args.words.now h.noted c.min.ensures (some_there (length (take c.min.result c.args.words.now)) (sym c.is_empty.ensures ∙ c.if-is_empty.false)) c.begin.ensures c.put_plain.ensures;
      });
}

pub returns : goal.returns
returns g c = record {
  said = λ notes h.
      words_noted g.S.LentSink.before _ _ _ _ _ _ c.args.self.now.said c.min.result notes c.args.words.now h c.min.ensures (some_there (length (take c.min.result c.args.words.now)) (sym c.is_empty.ensures ∙ c.if-is_empty.false)) c.begin.ensures c.put_plain.ensures;
}
