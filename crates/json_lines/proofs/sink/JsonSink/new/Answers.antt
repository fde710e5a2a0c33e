use Rattle.std.proofs.Common.{Option, List, ℕ, subst}
use Rattle.json_lines.specs.BetweenCalls.{IsBetweenCalls}
use Rattle.json_lines.proofs.sink.JsonSink.new.Goals as goal

pub invariant_of-result : goal.invariant_of-result
invariant_of-result g c =
    let now : Option (List ℕ) × ℕ = (g.S.Sink.taken c.args.sink, g.S.Sink.failures c.args.sink) in
    record { represented = subst (λ before. IsBetweenCalls before now c.new.result) c.requires.before (c.new.ensures.represented now) }
