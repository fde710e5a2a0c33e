use Rattle.std.proofs.Common.{◌++◌, ◌∙◌, sym, refl, append_assoc, arith}
use Rattle.std.proofs.lemmas.List.{append-nil, at_drop_all, drop_more}
use Rattle.explanations.specs.Table.{explanations_of}
use Rattle.explanations.proofs.table.push_explanations_in.Goals as goal

pub loop-explanation-init : goal.loop-explanation-init
loop-explanation-init c = refl

pub loop-explanation-preserved : goal.loop-explanation-preserved
loop-explanation-preserved c = grind (arith, append_assoc, drop_more)

pub returns : goal.returns
returns c =
    let found = c.loop-explanation.found.items in
    sym (append-nil found)
    ∙ sym (at_drop_all (λ xs. found ++ explanations_of c.args.word.now xs) c.args.section.now c.loop-explanation.explanation-index c.loop-explanation-test.false)
    ∙ c.loop-explanation.invariant
