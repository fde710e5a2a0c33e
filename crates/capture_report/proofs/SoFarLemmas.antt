-- Lists that are made element by element: those so far and those that are left are all of them.
use Rattle.std.proofs.Common.{◌≡◌, ◌∙◌, ◌++◌, ◌+◌, ◌<◌, ◌≤◌, ℕ, List, [], ◌∷◌, Option, None, Some, ap, append-nil, append_assoc, drop, get_or, length, map, subst, sym}
use Rattle.std.specs.List.{cons_option, filter_map}
use Rattle.std.specs.Io.KnownBytes.{Consumes}
use Rattle.std.specs.Option.{option_to_list}
use Rattle.std.proofs.KnownBytes.{Consumes-trans}
use Rattle.std.proofs.lemmas.List.{at_drop_more, drop_all}

-- the next one comes behind those so far
pub put_more : {Y : Type 0} (y : Y) (later left out new all : List Y) → left ≡ y ∷ later → new ≡ out ++ y ∷ [] → out ++ left ≡ all → new ++ later ≡ all
put_more y later left out new all next pushed so_far = ap (λ ys. ys ++ later) pushed ∙ (append_assoc out (y ∷ []) later ∙ (ap (λ ys. out ++ ys) (sym next) ∙ so_far))

pub mapped_more : {X Y : Type 0} (h : X → Y) (xs : List X) (i : ℕ) (d : X) (out new all : List Y) → i < length xs → new ≡ out ++ h (get_or xs i d) ∷ [] → out ++ map h (drop i xs) ≡ all → new ++ map h (drop (i + 1) xs) ≡ all
mapped_more h xs i d out new all less pushed so_far =
    put_more (h (get_or xs i d)) (map h (drop (i + 1) xs)) (map h (drop i xs)) out new all (at_drop_more (map h) xs i d less) pushed so_far

pub found_more : {X Y : Type 0} (h : X → Option Y) (xs : List X) (i : ℕ) (d : X) (y : Y) (out new all : List Y) → i < length xs → h (get_or xs i d) ≡ Some y → new ≡ out ++ y ∷ [] → out ++ filter_map h (drop i xs) ≡ all
    → new ++ filter_map h (drop (i + 1) xs) ≡ all
found_more h xs i d y out new all less is pushed so_far =
    let later = filter_map h (drop (i + 1) xs) in
    put_more y later (filter_map h (drop i xs)) out new all (at_drop_more (filter_map h) xs i d less ∙ ap (λ o. cons_option o later) is) pushed so_far

-- the next one is left out
pub passed_more : {X Y : Type 0} (h : X → Option Y) (xs : List X) (i : ℕ) (d : X) (out new all : List Y) → i < length xs → h (get_or xs i d) ≡ None → new ≡ out → out ++ filter_map h (drop i xs) ≡ all
    → new ++ filter_map h (drop (i + 1) xs) ≡ all
passed_more h xs i d out new all less is same so_far =
    let later = filter_map h (drop (i + 1) xs) in
    ap (λ ys. ys ++ later) same ∙ (ap (λ ys. out ++ ys) (sym (at_drop_more (filter_map h) xs i d less ∙ ap (λ o. cons_option o later) is)) ∙ so_far)

-- none is left
pub put_all : {X Y : Type 0} (f : List X → List Y) (xs : List X) (i : ℕ) (out all : List Y) → length xs ≤ i → f [] ≡ [] → out ++ f (drop i xs) ≡ all → out ≡ all
put_all f xs i out all enough none so_far = sym (append-nil out) ∙ (ap (λ ys. out ++ ys) (sym (ap f (drop_all i xs enough) ∙ none)) ∙ so_far)

-- an octet was read
pub octet_read : (first before after : Option (List ℕ)) (octet : Option ℕ) (o : ℕ) (front new : List ℕ) → octet ≡ Some o → Consumes first before front → Consumes before after (option_to_list octet) → new ≡ front ++ o ∷ [] → Consumes first after new
octet_read first before after octet o front new is so_far next pushed =
    subst (Consumes first after) (sym pushed) (Consumes-trans first before after front (o ∷ []) so_far (subst (λ x. Consumes before after (option_to_list x)) is next))
