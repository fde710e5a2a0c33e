use Rattle.std.proofs.Common.{◌+◌, ◌++◌, ◌∙◌, ap, sym, append_assoc, drop, string_bytes}
use Rattle.std.proofs.lemmas.List.{append-nil, at_drop_all, at_drop_more}
use Rattle.explanations.specs.Texts.{explanations_text}
use Rattle.explanations.proofs.text.explanations_text.Goals as goal

pub loop-explanation-init : goal.loop-explanation-init
loop-explanation-init c = ap (λ l. l ++ explanations_text c.args.found.now) c.new-text.ensures.bytes

pub loop-explanation-preserved : goal.loop-explanation-preserved
loop-explanation-preserved c =
    let found = c.args.found.now in
    let i = c.loop-explanation.explanation-index in
    let old = string_bytes c.loop-explanation.text in
    let rest = explanations_text (drop (i + 1) found) in
    ap (λ l. l ++ rest) c.in_ok-push_str.ensures.bytes
    ∙ append_assoc old _ rest
    ∙ ap (λ l. old ++ (l ++ rest)) (c.deref.ensures ∙ c.in_ok-more.ensures)
    ∙ sym (at_drop_more (λ xs. old ++ explanations_text xs) found i _ c.loop-explanation-test.true)
    ∙ c.loop-explanation.invariant

pub returns : goal.returns
returns c =
    let text = string_bytes c.loop-explanation.text in
    sym (append-nil text)
    ∙ sym (at_drop_all (λ xs. text ++ explanations_text xs) c.args.found.now c.loop-explanation.explanation-index c.loop-explanation-test.false)
    ∙ c.loop-explanation.invariant
