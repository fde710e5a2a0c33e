use Rattle.std.proofs.Common.{◌∙◌, sym, ap, arith, length}
use Rattle.pad.proofs.PairLemmas.{first_pair, no_pair, no_pair_before}
use Rattle.pad.proofs.pairs.PairsIterator.next.Goals as goal

pub returns-in_default-clause-steps : goal.returns-in_default-clause-steps
returns-in_default-clause-steps c =
    let none = sym c.self.view_is ∙ no_pair c.self.inside.indication c.self.inside.octets.now c.in_default.len_below in
    (none, none)

pub returns-in_default-clause-goes : goal.returns-in_default-clause-goes
returns-in_default-clause-goes c = record { on = λ f. tt; keeps = tt; rests = λ f. f }

pub slice_bounds-rest-count : goal.slice_bounds-rest-count
slice_bounds-rest-count c = c.in-len2-up.len_at_least

pub returns-then-is_separator-clause-steps : goal.returns-then-is_separator-clause-steps
returns-then-is_separator-clause-steps c =
    let none = sym c.self.view_is ∙ no_pair_before c.self.inside.indication c.self.inside.octets.now c.in-len2-up.len_at_least (sym c.if-is_separator.ensures) in
    (none, none)

pub returns-then-is_separator-clause-goes : goal.returns-then-is_separator-clause-goes
returns-then-is_separator-clause-goes c = record { on = λ f. tt; keeps = tt; rests = λ f. f }

pub returns-clause-steps : goal.returns-clause-steps
returns-clause-steps c =
    sym c.self.view_is ∙ first_pair c.self.inside.indication c.self.inside.octets.now c.in-len2-up.len_at_least (sym c.if-is_separator.ensures)

pub returns-clause-goes : goal.returns-clause-goes
returns-clause-goes c =
    let first = sym c.self.view_is ∙ first_pair c.self.inside.indication c.self.inside.octets.now c.in-len2-up.len_at_least (sym c.if-is_separator.ensures) in
    record { on = λ f. (tt, tt, omega (arith, ap (λ l. length l) first)); keeps = tt; rests = λ f. tt }
