use Rattle.std.proofs.Common.{◌+◌, ◌++◌, ◌∙◌, ap, sym, append_assoc, drop, string_bytes}
use Rattle.std.proofs.lemmas.Grind.{flat_map-append}
use Rattle.std.proofs.lemmas.List.{append-nil, at_drop_all, at_drop_more}
use Rattle.explanations.specs.Table.{rows}
use Rattle.explanations.specs.Texts.{heading, headings_text}
use Rattle.explanations.proofs.text.headings_text.Goals as goal

pub loop-section-init : goal.loop-section-init
loop-section-init c = ap (λ l. l ++ headings_text (rows c.args.sections.now)) c.new-text.ensures.bytes

pub loop-section-preserved : goal.loop-section-preserved
loop-section-preserved c =
    let sections = c.args.sections.now in
    let i = c.loop-section.section-index in
    let old = string_bytes c.loop-section.text in
    let rest = rows (drop (i + 1) sections) in
    ap (λ l. l ++ headings_text rest) c.in_ok-push_headings.ensures
    ∙ append_assoc old _ (headings_text rest)
    ∙ ap (λ l. old ++ l) (sym (flat_map-append heading _ rest))
    ∙ sym (at_drop_more (λ xs. old ++ headings_text (rows xs)) sections i _ c.loop-section-test.true)
    ∙ c.loop-section.invariant

pub returns : goal.returns
returns c =
    let text = string_bytes c.loop-section.text in
    sym (append-nil text)
    ∙ sym (at_drop_all (λ xs. text ++ headings_text (rows xs)) c.args.sections.now c.loop-section.section-index c.loop-section-test.false)
    ∙ c.loop-section.invariant
