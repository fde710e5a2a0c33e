-- What is explained of a text that the program prints: a line of the report, or a refusal (profile).
use Rattle.std.specs.Prelude.{ℕ, Bool, false, ◌==◌, List, [], ◌∷◌, ◌++◌, Option, None, Some, codes, drop, length, nat_le, take, if◌then◌else◌}
use Rattle.std.specs.Str.{bytes_eq}
use Rattle.explanations.specs.declared.explanation.Explanation.{Explanation}
use Rattle.explanations.specs.Table.{explanations_of, of_topic}
use Rattle.json_lines.specs.Forms.{Field, form_of}
use Rattle.json_lines.specs.Json.{first_word, line_words}

-- whether a code is one of a PAD message, as X1
abbrev pub is_message : (code : List ℕ) → Bool
is_message [] = false
is_message (byte ∷ code) = byte == 88

-- the topic of the codes that a code is one of
abbrev pub code_topic : (code : List ℕ) → List ℕ
code_topic code = if is_message code then codes "message" else codes "code"

-- the topic of the words in a field of the report, where they are words of the table
abbrev pub word_topic : (field word : List ℕ) → Option (List ℕ)
word_topic field word =
    if bytes_eq field (codes "side") then Some (codes "side")
    else if bytes_eq field (codes "state") then Some (codes "state")
    else if bytes_eq field (codes "code") then Some (code_topic word)
    else if bytes_eq field (codes "direction") then Some (codes "direction")
    else if bytes_eq field (codes "how") then Some (codes "end")
    else if bytes_eq field (codes "parameter") then Some (codes "parameter")
    else if bytes_eq field (codes "word") then Some (codes "setting")
    else None

-- what is explained of a word in a field: the word by its topic, otherwise the field
abbrev pub asked_of : (topic : Option (List ℕ)) → (field word : List ℕ) → List ℕ
asked_of None field word = of_topic (codes "field") field
asked_of (Some topic) field word = of_topic topic word

-- the rows that explain a word in a field
abbrev pub word_rows : (field word : List ℕ) → (table : List Explanation) → List Explanation
word_rows field word table = explanations_of (asked_of (word_topic field word) field word) table

-- the rows that explain words in their fields, as long as there are both
abbrev pub field_rows : List Field → (words : List (List ℕ)) → (table : List Explanation) → List Explanation
field_rows [] words table = []
field_rows (field ∷ fields) [] table = []
field_rows (field ∷ fields) (word ∷ words) table = word_rows field.name word table ++ field_rows fields words table

-- the word of the table for a refusal that begins with a word, except a trace's
abbrev pub refusal_word : (first : List ℕ) → List ℕ
refusal_word first =
    if bytes_eq first (codes "piece") then codes "piece"
    else if bytes_eq first (codes "cannot") then codes "open"
    else if bytes_eq first (codes "no") then codes "word"
    else []

-- the rows that explain a line that begins with a word and goes on with others: `line L: kind K`, another refusal, or a
-- line of the report
abbrev pub line_rows : (first : List ℕ) → (words : List (List ℕ)) → (table : List Explanation) → List Explanation
line_rows first words table =
    if bytes_eq first (codes "line") then explanations_of (of_topic (codes "kind") (first_word (drop 1 (drop 1 words)))) table
    else if bytes_eq (form_of first).title (codes "unknown") then explanations_of (of_topic (codes "refusal") (refusal_word first)) table
    else explanations_of (of_topic (codes "line") first) table ++ field_rows (form_of first).fields words table

-- the rows that explain a line that is printed
abbrev pub pasted_rows : (text : List ℕ) → (table : List Explanation) → List Explanation
pasted_rows text table = line_rows (first_word (line_words text)) (drop 1 (line_words text)) table

-- a text without the name of the program that a refusal begins with
abbrev pub unprefixed : (text : List ℕ) → List ℕ
unprefixed text =
    if nat_le 9 (length text) then (if bytes_eq (take 9 text) (codes "x25scan: ") then drop 9 text else text) else text
