use Rattle.std.proofs.Common.{◌+◌, ◌++◌, ◌∙◌, ap, sym, refl, append_assoc, drop}
use Rattle.std.proofs.lemmas.List.{append-nil, at_drop_all, at_drop_more}
use Rattle.std.proofs.lemmas.List.Elements.{filter-append}
use Rattle.explanations.specs.Table.{explanations_of, is_of, rows}
use Rattle.explanations.proofs.table.push_explanations.Goals as goal

pub loop-section-init : goal.loop-section-init
loop-section-init c = refl

pub loop-section-preserved : goal.loop-section-preserved
loop-section-preserved c =
    let sections = c.args.sections.now in
    let word = c.args.word.now in
    let i = c.loop-section.section-index in
    let old = c.loop-section.found.items in
    let rest = rows (drop (i + 1) sections) in
    ap (λ l. l ++ explanations_of word rest) c.in_ok-push_explanations_in.ensures
    ∙ append_assoc old _ (explanations_of word rest)
    ∙ ap (λ l. old ++ l) (sym (filter-append (is_of word) _ rest))
    ∙ sym (at_drop_more (λ xs. old ++ explanations_of word (rows xs)) sections i _ c.loop-section-test.true)
    ∙ c.loop-section.invariant

pub returns : goal.returns
returns c =
    let found = c.loop-section.found.items in
    sym (append-nil found)
    ∙ sym (at_drop_all (λ xs. found ++ explanations_of c.args.word.now (rows xs)) c.args.sections.now c.loop-section.section-index c.loop-section-test.false)
    ∙ c.loop-section.invariant
