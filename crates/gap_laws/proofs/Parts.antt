-- Lists that are parts of others.
use Rattle.std.proofs.Common.{◌≡◌, true, refl, sym, ◌∙◌, ap, subst, List, [], ◌∷◌, ◌++◌}
use Rattle.std.specs.Prelude.{not, map}
use Rattle.std.proofs.lemmas.Bool.{and_parts, and_from}
use Rattle.line_model.specs.declared.event.What.{What}
use Rattle.line_model.specs.observer.Report.{is_finding}
use Rattle.gap_laws.specs.Thinned.{IsPart}
use Rattle.gap_laws.proofs.Circuits.{silent}

assoc : {A : Type 0} (xs ys zs : List A) → (xs ++ ys) ++ zs ≡ xs ++ (ys ++ zs)
assoc [] ys zs = refl
assoc (x ∷ xs) ys zs = ap (λ l. x ∷ l) (assoc xs ys zs)

mapped : {A B : Type 0} (f : A → B) (xs ys : List A) → map f (xs ++ ys) ≡ map f xs ++ map f ys
mapped f [] ys = refl
mapped f (x ∷ xs) ys = ap (λ l. f x ∷ l) (mapped f xs ys)

pub part_same : {A : Type 0} (us : List A) → IsPart us us
part_same [] = tt
part_same (u ∷ us) = ([], us, refl, part_same us)

pub part_after : {A : Type 0} (us ws xs : List A) → IsPart us xs → IsPart us (ws ++ xs)
part_after [] ws xs h = tt
part_after (u ∷ us) ws xs (front, back, e, rest) = (ws ++ front, back, ap (λ l. ws ++ l) e ∙ sym (assoc ws front (u ∷ back)), rest)

pub part_append : {A : Type 0} (us ws vs xs : List A) → IsPart us ws → IsPart vs xs → IsPart (us ++ vs) (ws ++ xs)
part_append [] ws vs xs h k = part_after vs ws xs k
part_append (u ∷ us) ws vs xs (front, back, e, rest) k = (front, back ++ xs, ap (λ l. l ++ xs) e ∙ assoc front (u ∷ back) xs, part_append us back vs xs rest k)

pub part_map : {A B : Type 0} (f : A → B) (us ws : List A) → IsPart us ws → IsPart (map f us) (map f ws)
part_map f [] ws h = tt
part_map f (u ∷ us) ws (front, back, e, rest) = (map f front, map f back, ap (λ l. map f l) e ∙ mapped f front (u ∷ back), part_map f us back rest)

silent_parts : (us ws : List What) → silent (us ++ ws) ≡ true → (silent us ≡ true) × (silent ws ≡ true)
silent_parts [] ws h = (refl, h)
silent_parts (u ∷ us) ws h =
    let both = and_parts (not (is_finding u)) (silent (us ++ ws)) h in
    let rest = silent_parts us ws both.1 in
    (and_from (not (is_finding u)) (silent us) both.0 rest.0, rest.1)

-- a part of what has no finding has none
pub part_silent : (us ws : List What) → silent ws ≡ true → IsPart us ws → silent us ≡ true
part_silent [] ws h part = refl
part_silent (u ∷ us) ws h (front, back, e, rest) =
    let both = silent_parts front (u ∷ back) (subst (λ l. silent l ≡ true) e h) in
    let own = and_parts (not (is_finding u)) (silent back) both.1 in
    and_from (not (is_finding u)) (silent us) own.0 (part_silent us back own.1 rest)
