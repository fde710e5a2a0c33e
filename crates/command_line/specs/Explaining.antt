-- What the program prints when asked for the meaning of a word or of a line that it prints (profile).
use Rattle.std.specs.Prelude.{◌≡◌, ℕ, ◌⊎◌, ◌==◌, List, [], ◌∷◌, ◌++◌, Option, Some, None, if◌then◌else◌, length, map, take}
use Rattle.line_model.specs.basics.Device.{with_more}
use Rattle.explanations.specs.declared.explanation.Explanation.{Explanation}
use Rattle.explanations.specs.Table.{explanations_of, key, table_keys}
use Rattle.explanations.specs.Texts.{explanations_text, headings_text}
use Rattle.command_line.specs.Pasted.{pasted_rows, unprefixed}

-- the text of some explanations, if there are any
abbrev pub answer_by : List Explanation → Option (List ℕ)
answer_by [] = None
answer_by (e ∷ es) = Some (explanations_text (e ∷ es))

-- what is found of a word of the table, and where that is nothing what is found of a line
abbrev pub or_line : (word line : List Explanation) → List Explanation
or_line word line = if length word == 0 then word ++ line else word

-- the explanations of a text: a word of the table, or a line that the program prints
abbrev pub asked_rows : (text : List ℕ) → (table : List Explanation) → List Explanation
asked_rows text table = or_line (explanations_of text table) (pasted_rows text table)

-- what is printed by a table: the list of its words where no word is named, otherwise all explanations of the word
abbrev pub answer : (word : List ℕ) → (table : List Explanation) → Option (List ℕ)
answer [] table = Some (headings_text table)
answer (c ∷ word) table = answer_by (asked_rows (unprefixed (c ∷ word)) table)

-- what is printed of a word is what a table with all words has
pub record IsAnswer (word : List ℕ) (printed : Option (List ℕ)) : Type 0 where
  pub table : List Explanation
  pub whole : map key table ≡ table_keys
  pub exact : printed ≡ answer word table

-- a first part of the explanation of a word was accepted
pub record IsBegun (word : List ℕ) (before after : Option (List ℕ)) : Type 0 where
  pub text : List ℕ
  pub count : ℕ
  pub whole : IsAnswer word (Some text)
  pub part : after ≡ with_more before (take count text)

-- what the status says of the explanation of a word: the sink had `before` and has `after`
pub record IsAnswered (word : List ℕ) (before after : Option (List ℕ)) (status : ℕ) : Type 0 where
  pub printed : status ≡ 0 → (text : List ℕ) × IsAnswer word (Some text) × (after ≡ with_more before text)
  pub unknown : status ≡ 64 → IsAnswer word None × (after ≡ before)
  pub other : status ≡ 3 → (after ≡ before) ⊎ IsBegun word before after
  pub range : (status ≡ 0) ⊎ ((status ≡ 3) ⊎ (status ≡ 64))
