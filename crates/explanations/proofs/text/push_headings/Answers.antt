use Rattle.std.proofs.Common.{◌+◌, ◌++◌, ◌∙◌, ap, sym, refl, append_assoc, drop, string_bytes}
use Rattle.std.proofs.lemmas.List.{append-nil, at_drop_all, at_drop_more}
use Rattle.explanations.specs.Texts.{headings_text}
use Rattle.explanations.proofs.text.push_headings.Goals as goal

pub loop-explanation-init : goal.loop-explanation-init
loop-explanation-init c = refl

pub loop-explanation-preserved : goal.loop-explanation-preserved
loop-explanation-preserved c =
    let section = c.args.section.now in
    let i = c.loop-explanation.explanation-index in
    let old = string_bytes c.loop-explanation.text in
    let rest = headings_text (drop (i + 1) section) in
    ap (λ l. l ++ rest) c.in_ok-push_str.ensures.bytes
    ∙ append_assoc old _ rest
    ∙ ap (λ l. old ++ (l ++ rest)) (c.deref.ensures ∙ c.in_ok-line.ensures)
    ∙ sym (at_drop_more (λ xs. old ++ headings_text xs) section i _ c.loop-explanation-test.true)
    ∙ c.loop-explanation.invariant

pub returns : goal.returns
returns c =
    let text = string_bytes c.loop-explanation.text in
    sym (append-nil text)
    ∙ sym (at_drop_all (λ xs. text ++ headings_text xs) c.args.section.now c.loop-explanation.explanation-index c.loop-explanation-test.false)
    ∙ c.loop-explanation.invariant
