use Rattle.std.proofs.Common.{◌≡◌, ◌++◌, ◌∙◌, string_bytes, refl}
use Rattle.std.specs.Prelude.{codes}
use Rattle.std.proofs.lemmas.Result.{IfOk-weaker}
use Rattle.explanations.specs.Texts.{heading}
use Rattle.explanations.proofs.text.heading.Goals as goal

pub returns : goal.returns
returns c =
    let e = c.args.explanation.now in
    let topic = c.word-topic.result.now in
    let text : e.word.now ++ (codes " (" ++ (topic ++ (codes "): " ++ (e.name.now ++ codes "\n")))) ≡ heading e = rw c.word-topic.ensures refl in
    IfOk-weaker c.format.result (λ s. string_bytes s ≡ e.word.now ++ (codes " (" ++ (topic ++ (codes "): " ++ (e.name.now ++ codes "\n"))))) (λ s. string_bytes s ≡ heading e) (λ s wrote. wrote ∙ text) c.format.ensures.ok
