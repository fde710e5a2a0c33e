use Rattle.std.proofs.Common.{rules, ◌≡◌, ◌+◌, ap, true, arith}
use Rattle.std.proofs.lemmas.Grind.{common_steps}
use Rattle.trace_text.specs.Blocks.{may_pass}
use Rattle.trace_text.specs.Progress.{Progress}
use Rattle.trace_text.proofs.Passing.{passes_none, passes_rows}
use Rattle.trace_text.proofs.lines.Lines.pass_block.Goals as goal

pub returns-then-span-ne0-clause-passed : goal.returns-then-span-ne0-clause-passed
returns-then-span-ne0-clause-passed g c i text block rows shown s headed is of =
    let may : may_pass c.args.self.now c.args.span.now ≡ true = search rules in
    let after : Progress → Progress = λ p. record { ended = p.ended + c.args.span.now.lines; start = p.start + c.args.span.now.bytes; interface = p.interface; last = c.args.span.now.last; begun = p.begun; refused = p.refused } in
    passes_rows i text block rows c.args.self.now _ c.args.span.now may s headed is of c.if-span-ne0.true (ap after c.self.view_is)

pub returns-else-span-ne0-clause-passed : goal.returns-else-span-ne0-clause-passed
returns-else-span-ne0-clause-passed g c i text block rows shown s headed is of =
    let may : may_pass c.args.self.now c.args.span.now ≡ true = search rules in
    let after : Progress → Progress = λ p. record { ended = p.ended + c.args.span.now.lines; start = p.start + c.args.span.now.bytes; interface = p.interface; last = p.last; begun = p.begun; refused = p.refused } in
    passes_none i text block rows c.args.self.now _ c.args.span.now may s headed is of c.if-span-ne0.false (ap after c.self.view_is)

pub overflow_add-self : goal.overflow_add-self
overflow_add-self g c = grind (arith, common_steps)

pub overflow_add-self-2 : goal.overflow_add-self-2
overflow_add-self-2 g c = grind (arith, common_steps)

pub invariant_of-self : goal.invariant_of-self
invariant_of-self g c = grind (arith, common_steps)
