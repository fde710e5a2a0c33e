use Rattle.std.proofs.Common.{◌≡◌, ◌∙◌, string_bytes, List, ℕ, [], ◌∷◌, ap, ap₂}
use Rattle.std.specs.Prelude.{codes}
use Rattle.std.proofs.lemmas.Result.{IfOk-weaker}
use Rattle.explanations.specs.declared.explanation.Explanation.{Explanation}
use Rattle.explanations.specs.Texts.{explanation_text, joined, topic_document}
use Rattle.explanations.proofs.text.explanation_text.Goals as goal

-- the lines of an explanation, with this heading, this document and this place of its example
lines : Explanation → (head see at : List ℕ) → List ℕ
lines e head see at = joined
    (head
    ∷ codes "  " ∷ e.meaning.now
    ∷ codes "\n  When: " ∷ e.when.now
    ∷ codes "\n  Clause: " ∷ e.clause.now
    ∷ codes "\n  See: " ∷ see
    ∷ codes "\n  Example: " ∷ e.example.now ∷ at ∷ [])

pub returns : goal.returns
unfolding lines
returns c =
    let e = c.args.explanation.now in
    let head = string_bytes c.in_ok-heading.heading in
    let see = c.document-see.result.now in
    let at = string_bytes c.in_ok-place.place in
    let text : lines e head see at ≡ explanation_text e =
    ap (λ d. lines e head d at) c.document-see.ensures ∙ ap₂ (λ h a. lines e h (topic_document e.topic) a) c.in_ok-heading.ensures c.in_ok-place.ensures in
    IfOk-weaker c.format.result (λ s. string_bytes s ≡ lines e head see at) (λ s. string_bytes s ≡ explanation_text e) (λ s wrote. wrote ∙ text) c.format.ensures.ok
