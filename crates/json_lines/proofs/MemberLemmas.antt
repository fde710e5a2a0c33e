-- Members that are put one after the other.
use Rattle.std.proofs.Common.{◌≡◌, ℕ, zero, suc, ◌+◌, ◌<◌, List, [], ◌∷◌, ◌++◌, length, get_or, drop, refl, sym, ap, ◌∙◌, subst, arith, append_assoc}
use Rattle.std.specs.Prelude.{map}
use Rattle.json_lines.specs.Json.{first_word, member, members}
use Rattle.json_lines.specs.Shown.{field_shown}
use Rattle.json_lines.specs.declared.fields.Field.{Field}

at_place : (fields : List Field) (i : ℕ) (d : Field) (words : List (List ℕ)) → i < length fields
    → members (map field_shown (drop i fields)) words ≡ member (field_shown (get_or fields i d)) (first_word words) ++ members (map field_shown (drop (i + 1) fields)) (drop 1 words)
at_place [] i d words lt = absurd (omega arith)
at_place (f ∷ fs) zero d words lt = refl
at_place (f ∷ fs) (suc i) d words lt =
    let e : suc i + 1 ≡ suc (i + 1) = omega arith in
    subst (λ k. members (map field_shown (drop i fs)) words ≡ member (field_shown (get_or fs i d)) (first_word words) ++ members (map field_shown (drop k (f ∷ fs))) (drop 1 words)) (sym e)
    (at_place fs i d words (omega arith))

-- one pass of a loop over fields, for what is true of the texts before and after
pub member_turn : {B : Type 0} → (fields : List Field) (i : ℕ) (d : Field) (words rest : List (List ℕ)) (word all : List ℕ) (first before after : B → List ℕ → Type 0) → i < length fields
    → word ≡ first_word words → rest ≡ drop 1 words
    → (done : List ℕ) × (done ++ members (map field_shown (drop i fields)) words ≡ all) × ((b : B) (text : List ℕ) → first b text → before b (text ++ done))
    → ((b : B) (text : List ℕ) → before b text → after b (text ++ member (field_shown (get_or fields i d)) word))
    → (done : List ℕ) × (done ++ members (map field_shown (drop (i + 1) fields)) rest ≡ all) × ((b : B) (text : List ℕ) → first b text → after b (text ++ done))
member_turn fields i d words rest word all first before after lt is left t step =
    let put : List ℕ = member (field_shown (get_or fields i d)) word in
    let same : put ++ members (map field_shown (drop (i + 1) fields)) rest ≡ members (map field_shown (drop i fields)) words =
    ap (λ w. member (field_shown (get_or fields i d)) w ++ members (map field_shown (drop (i + 1) fields)) rest) is
    ∙ ap (λ r. member (field_shown (get_or fields i d)) (first_word words) ++ members (map field_shown (drop (i + 1) fields)) r) left
    ∙ sym (at_place fields i d words lt) in
    (t.0 ++ put, append_assoc t.0 put (members (map field_shown (drop (i + 1) fields)) rest) ∙ ap (λ l. t.0 ++ l) same ∙ t.1, λ b text w. subst (after b) (append_assoc text t.0 put) (step b (text ++ t.0) (t.2 b text w)))
