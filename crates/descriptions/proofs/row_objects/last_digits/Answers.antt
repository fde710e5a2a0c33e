use Rattle.std.proofs.Common.{◌≡◌, ◌∙◌, ◌++◌, List, ℕ, ap, arith, length, length-drop, sym, take}
use Rattle.std.proofs.lemmas.List.{take-append-drop}
use Rattle.descriptions.proofs.DigitLemmas.{digits_text}
use Rattle.descriptions.proofs.row_objects.last_digits.Goals as goal

pub returns-in-32 : goal.returns-in-32
returns-in-32 c l r is row len =
    let words = c.without_lf-words.result.now in
    let place = c.in_ok-place.place in
    let same : words ≡ l = c.without_lf-words.ensures l is in
    let count = c.in_ok-count.ensures in
    let rest = c.in_ok-place.ensures in
    digits_text l (take place words) c.in_ok-front.digits.now r row (sym same ∙ sym (take-append-drop place words) ∙ ap (λ xs. take place words ++ xs) (sym c.in_ok-front.ensures.cases.2))
    (omega (arith, len, count.1, rest.0, rest.1, length-drop place words, ap (λ (l : List ℕ). length l) c.in_ok-front.ensures.cases.2))
