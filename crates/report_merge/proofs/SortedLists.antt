-- A list in the order of its keys is the one list of its elements whose keys rise; lists of parts in any order.
use Rattle.std.proofs.Common.{◌≡◌, ℕ, suc, ◌<◌, ◌≤◌, List, [], ◌∷◌, ◌++◌, length, map, get_or, refl, sym, ap, ◌∙◌, subst, arith, append_assoc}
use Rattle.std.specs.List.{AllByRecursion, flat_map}
use Rattle.std.specs.List.Sorted.{IsPermutation, IsNonDecreasingBy}
use Rattle.std.proofs.lemmas.List.Sorted.{IsPermutation-refl, IsPermutation-trans, IsPermutation-append, IsPermutation-append_comm}
use Rattle.line_model.proofs.Rearranged.{Rearranged, rearranged-from_IsPermutation}
use Rattle.line_model.proofs.Rising.{Rises, rises-from_RisesFrom, all_above, all_at, all_rearranged}

abbrev Climbs : {X : Type 0} → (X → ℕ) → List X → Type 0
Climbs n [] = Unit {0}
Climbs n (x ∷ xs) = AllByRecursion (λ y. n x ≤ n y) xs × Climbs n xs

all_from_index : {X : Type 0} → (n : X → ℕ) (b : ℕ) (ys : List X) → ((j : ℕ) (d : X) → j < length ys → b ≤ n (get_or ys j d)) → AllByRecursion (λ y. b ≤ n y) ys
all_from_index n b [] h = tt
all_from_index n b (y ∷ ys) h = (h 0 y (omega arith), all_from_index n b ys (λ j d lt. h (suc j) d (omega arith)))

climbs : {X : Type 0} → (n : X → ℕ) (xs : List X) → IsNonDecreasingBy n xs → Climbs n xs
climbs n [] h = tt
climbs n (x ∷ xs) h = (
  all_from_index n (n x) xs (λ j d lt. h 0 (suc j) d (omega arith) (omega arith)),
  climbs n xs (λ i j d le lt. h (suc i) (suc j) d (omega arith) (omega arith)),
)

climbing_unique : {X : Type 0} → (n : X → ℕ) (xs ys : List X) → Rises (map n xs) → Climbs n ys → Rearranged xs ys → xs ≡ ys
climbing_unique n [] ys h k r = sym r
climbing_unique {X} n (x ∷ xs) ys h k r =
    at r.0 r.2 r.3 (climbing_unique n xs r.1 (rises-from_RisesFrom (n x) (map n xs) h))
  where
    at : (p : List X) → ys ≡ p ++ x ∷ r.1 → Rearranged xs (p ++ r.1) → (Climbs n r.1 → Rearranged xs r.1 → xs ≡ r.1) → x ∷ xs ≡ ys
    at [] e s later =
        let k' : Climbs n (x ∷ r.1) = subst (λ l. Climbs n l) e k in
        ap (λ l. x ∷ l) (later k'.1 s) ∙ sym e
    at (y ∷ p) e s later =
        let k' : Climbs n (y ∷ (p ++ x ∷ r.1)) = subst (λ l. Climbs n l) e k in
        let below : n y ≤ n x = all_at (λ z. n y ≤ n z) p x r.1 k'.0 in
        let above : n x < n y = (all_rearranged (λ z. n x < n z) xs (y ∷ (p ++ r.1)) s (all_above n (n x) xs h)).0 in
        absurd (omega arith)

-- a list whose keys rise, and the same elements sorted by their keys
pub sorted_unique : {X : Type 0} → (n : X → ℕ) (xs ys : List X) → Rises (map n xs) → IsNonDecreasingBy n ys → IsPermutation xs ys → ys ≡ xs
sorted_unique n xs ys h k r = sym (climbing_unique n xs ys h (climbs n ys k) (rearranged-from_IsPermutation xs ys r))

-- ---- lists of parts

pub flat_map-append : {X Y : Type 0} → (f : X → List Y) (xs ys : List X) → flat_map f (xs ++ ys) ≡ flat_map f xs ++ flat_map f ys
flat_map-append f [] ys = refl
flat_map-append f (x ∷ xs) ys = ap (λ l. f x ++ l) (flat_map-append f xs ys) ∙ sym (append_assoc (f x) (flat_map f xs) (flat_map f ys))

-- a part taken from the middle to the front
to_middle : {Y : Type 0} → (a b c : List Y) → IsPermutation (a ++ (b ++ c)) (b ++ (a ++ c))
to_middle a b c =
    subst (λ l. IsPermutation l (b ++ (a ++ c))) (append_assoc a b c)
    (subst (λ l. IsPermutation ((a ++ b) ++ c) l) (append_assoc b a c)
    (IsPermutation-append (a ++ b) (b ++ a) c c (IsPermutation-append_comm a b) (IsPermutation-refl c)))

flat_map_rearranged : {X Y : Type 0} → (f : X → List Y) (xs ys : List X) → Rearranged xs ys → IsPermutation (flat_map f xs) (flat_map f ys)
flat_map_rearranged {X} {Y} f [] ys h = subst (λ (l : List X). IsPermutation {X = Y} [] (flat_map f l)) (sym h) (IsPermutation-refl [])
flat_map_rearranged {X} {Y} f (x ∷ xs) ys h =
    let front = flat_map f h.0 in
    let back = flat_map f h.1 in
    let later : IsPermutation (flat_map f xs) (front ++ back) = subst (λ l. IsPermutation (flat_map f xs) l) (flat_map-append f h.0 h.1) (flat_map_rearranged f xs (h.0 ++ h.1) h.3) in
    subst (λ (l : List X). IsPermutation (f x ++ flat_map f xs) (flat_map f l)) (sym h.2)
    (subst (λ l. IsPermutation (f x ++ flat_map f xs) l) (sym (flat_map-append f h.0 (x ∷ h.1)))
    (IsPermutation-trans (f x ++ flat_map f xs) (f x ++ (front ++ back)) (front ++ (f x ++ back))
    (IsPermutation-append (f x) (f x) (flat_map f xs) (front ++ back) (IsPermutation-refl (f x)) later)
    (to_middle (f x) front back)))

pub flat_map_permuted : {X Y : Type 0} → (f : X → List Y) (xs ys : List X) → IsPermutation xs ys → IsPermutation (flat_map f xs) (flat_map f ys)
flat_map_permuted f xs ys h = flat_map_rearranged f xs ys (rearranged-from_IsPermutation xs ys h)

pub flat_map-map : {X Y Z : Type 0} → (f : Y → List Z) (g : X → Y) (xs : List X) → flat_map f (map g xs) ≡ flat_map (λ x. f (g x)) xs
flat_map-map f g [] = refl
flat_map-map f g (x ∷ xs) = ap (λ l. f (g x) ++ l) (flat_map-map f g xs)
