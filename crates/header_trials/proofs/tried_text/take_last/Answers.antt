use Rattle.std.proofs.Common.{◌++◌, subst, arith}
use Rattle.std.proofs.lemmas.Grind.{elements}
use Rattle.trace_text.specs.Represents.{last_row}
use Rattle.header_trials.specs.Trials.{IsTrace}
use Rattle.header_trials.proofs.tried_text.take_last.Goals as goal

pub take-requires : goal.take-requires
take-requires g c =
    let next = c.requires.next in
    record { next = (next.0, next.1, next.2, next.3, next.4 c.if-has_row.true, subst (λ has. IsTrace next.0 (next.1 ++ last_row has next.2)) c.if-has_row.true next.5) }

pub returns-then-has_row-clause-trying : goal.returns-then-has_row-clause-trying
returns-then-has_row-clause-trying g c = grind (arith, elements)
