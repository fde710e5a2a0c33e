use Rattle.std.proofs.Common.{[], Option, List, ℕ, subst}
use Rattle.line_model.specs.basics.Written.{Writes}
use Rattle.annotated_trace.proofs.PageLemmas.{nothing_noted}
use Rattle.annotated_trace.proofs.page.ClosingPage.new.Goals as goal

pub invariant_of-result : goal.invariant_of-result
invariant_of-result g c =
    let now : Option (List ℕ) × ℕ = (g.S.Sink.taken c.args.sink, g.S.Sink.failures c.args.sink) in
    record { represented = ∣ record { notes = record { lines = []; line = [] }; noted = nothing_noted g.S.LentSink.before now c.new.result (subst (λ before. Writes before now c.new.result []) c.requires (c.new.ensures.nothing now)) } ∣₁ }
