-- What a sink accepted, part by part.
use Rattle.std.proofs.Common.{◌≡◌, ◌∙◌, sym, ap, refl, ℕ, List, [], ◌++◌, Option, Some, None, append_assoc, take, drop, length, ◌-◌, arith}
use Rattle.std.proofs.lemmas.List.{append-nil, take-append-drop}
use Rattle.std.proofs.lemmas.Grind.{common_steps}
use Rattle.std.proofs.Math.Seq.{take-append_seam}
use Rattle.line_model.specs.basics.Device.{with_more}

pub front_of : (front rest text : List ℕ) → text ≡ front ++ rest → front ≡ take (length front) text
front_of front rest text e = rw e (sym (take-append_seam front rest))

pub with_more-append : (o : Option (List ℕ)) (xs ys : List ℕ) → with_more (with_more o xs) ys ≡ with_more o (xs ++ ys)
with_more-append None xs ys = refl
with_more-append (Some zs) xs ys = ap Some (append_assoc zs xs ys)

pub with_more-nil : (o : Option (List ℕ)) → with_more o [] ≡ o
with_more-nil None = refl
with_more-nil (Some xs) = ap Some (append-nil xs)

-- `&xs[k..]` is what is left after k
pub rest_of : (xs : List ℕ) (k : ℕ) → take (length xs - k) (drop k xs) ≡ drop k xs
rest_of xs k = grind (arith, common_steps)

pub split_rest : (front rest text : List ℕ) (n : ℕ) → text ≡ front ++ rest → text ≡ (front ++ take n rest) ++ take (length rest - n) (drop n rest)
split_rest front rest text n e =
    e ∙ ap (λ xs. front ++ xs) (sym (take-append-drop n rest)) ∙ sym (append_assoc front (take n rest) (drop n rest)) ∙ ap (λ xs. (front ++ take n rest) ++ xs) (sym (rest_of rest n))
