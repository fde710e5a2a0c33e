-- What is explained of the words of a line, one after the other.
use Rattle.std.proofs.Common.{◌≡◌, ℕ, ◌+◌, ◌<◌, ◌≤◌, List, [], ◌∷◌, ◌++◌, length, get_or, drop, refl, sym, ap, ◌∙◌, append_assoc}
use Rattle.std.specs.Prelude.{map}
use Rattle.std.proofs.lemmas.List.{append-nil, at_drop_all, at_drop_more}
use Rattle.explanations.specs.declared.explanation.Explanation.{Explanation}
use Rattle.json_lines.specs.Forms as forms
use Rattle.json_lines.specs.Shown.{field_shown}
use Rattle.json_lines.specs.declared.fields.Field.{Field}
use Rattle.command_line.specs.Pasted.{field_rows, word_rows}

none_left : (fields : List forms.Field) (table : List Explanation) → field_rows fields [] table ≡ []
none_left [] table = refl
none_left (f ∷ fs) table = refl

-- one pass of a loop over fields, with the word of one
pub fields_turn : (fields : List Field) (i : ℕ) (d : Field) (words rest : List (List ℕ)) (word : List ℕ) (table old found all : List Explanation) → i < length fields → words ≡ word ∷ rest
    → found ≡ old ++ word_rows (field_shown (get_or fields i d)).name word table
    → old ++ field_rows (map field_shown (drop i fields)) words table ≡ all
    → found ++ field_rows (map field_shown (drop (i + 1) fields)) rest table ≡ all
fields_turn fields i d words rest word table old found all lt is pushed before =
    let behind : List Explanation = field_rows (map field_shown (drop (i + 1) fields)) rest table in
    let here : List Explanation = word_rows (field_shown (get_or fields i d)).name word table in
    ap (λ l. l ++ behind) pushed
    ∙ append_assoc old here behind
    ∙ ap (λ ws. old ++ field_rows (map field_shown (get_or fields i d ∷ drop (i + 1) fields)) ws table) (sym is)
    ∙ sym (at_drop_more (λ xs. old ++ field_rows (map field_shown xs) words table) fields i d lt)
    ∙ before

-- no word is left
pub words_end : (fields : List Field) (i : ℕ) (words : List (List ℕ)) (table found all : List Explanation) → words ≡ []
    → found ++ field_rows (map field_shown (drop i fields)) words table ≡ all → found ≡ all
words_end fields i words table found all none before =
    sym (append-nil found)
    ∙ ap (λ l. found ++ l) (sym (none_left (map field_shown (drop i fields)) table))
    ∙ ap (λ ws. found ++ field_rows (map field_shown (drop i fields)) ws table) (sym none)
    ∙ before

-- no field is left
pub fields_end : (fields : List Field) (i : ℕ) (words : List (List ℕ)) (table found all : List Explanation) → length fields ≤ i
    → found ++ field_rows (map field_shown (drop i fields)) words table ≡ all → found ≡ all
fields_end fields i words table found all le before =
    sym (append-nil found)
    ∙ sym (at_drop_all (λ xs. found ++ field_rows (map field_shown xs) words table) fields i le)
    ∙ before
