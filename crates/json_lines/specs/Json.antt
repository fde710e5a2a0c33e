-- The report as JSON lines: one object for each line, in the report's order (profile).
use Rattle.std.specs.Prelude.{ℕ, List, [], ◌∷◌, ◌++◌, flat_map, drop, length, nat_le, codes, if◌then◌else◌}
use Rattle.std.specs.Str.{bytes_eq}
use Rattle.line_model.specs.text.Text.{ended_lines}
use Rattle.line_model.specs.text.Header.{words_of}
use Rattle.line_model.specs.observer.Report.{dash}
use Rattle.json_lines.specs.declared.fields.FieldKind.{FieldKind}
use Rattle.json_lines.specs.declared.fields.FieldKind.TheVariants.{Number, Text}
use Rattle.json_lines.specs.Forms.{Field, form_of}

-- a word between quotation marks
abbrev pub quoted : List ℕ → List ℕ
quoted word = 34 ∷ word ++ 34 ∷ []

-- a word as a value of JSON
abbrev pub written : FieldKind → List ℕ → List ℕ
written Number word = word
written Text word = quoted word

-- the value of a word; a dash is what is absent
abbrev pub value : FieldKind → List ℕ → List ℕ
value kind word = if bytes_eq word dash then codes "null" else written kind word

-- a field after others, with its word
abbrev pub member : Field → List ℕ → List ℕ
member field word = 44 ∷ quoted field.name ++ 58 ∷ value field.kind word

-- the first of some words; one that is not there is absent
abbrev pub first_word : List (List ℕ) → List ℕ
first_word [] = dash
first_word (word ∷ words) = word

-- fields, each with its word
abbrev pub members : List Field → List (List ℕ) → List ℕ
members [] words = []
members (field ∷ fields) words = member field (first_word words) ++ members fields (drop 1 words)

-- an object up to what it says
abbrev pub beginning : (title : List ℕ) → List ℕ
beginning title = codes "{" ++ quoted (codes "line") ++ codes ":" ++ quoted title

-- an object in its line: what it says, and its members
abbrev pub object : (title : List ℕ) → (members : List ℕ) → List ℕ
object title members = beginning title ++ members ++ 125 ∷ 10 ∷ []

-- the object of a line's words
abbrev pub object_of : List (List ℕ) → List ℕ
object_of words = object (form_of (first_word words)).title (members (form_of (first_word words)).fields (drop 1 words))

-- each line of a report has fewer octets than this (profile)
abbrev pub line_room : ℕ
line_room = 256

-- the words of a line; one that is too long for a report has none
abbrev pub line_words : List ℕ → List (List ℕ)
line_words line = if nat_le line_room (length line) then [] else words_of line

-- the object of a line
abbrev pub json_line : List ℕ → List ℕ
json_line line = object_of (line_words line)

-- the objects of the lines of a text that a line feed ends
abbrev pub json_text : List ℕ → List ℕ
json_text text = flat_map json_line (ended_lines text)
