-- The words of comments.
use Rattle.std.specs.Prelude.{◌≡◌, ℕ, ◌==◌, ◌<◌, ◌≤◌, List, [], ◌∷◌, ◌++◌, codes, if◌then◌else◌, length, map, take}
use Rattle.std.specs.List.{AllByRecursion}
use Rattle.line_model.specs.text.Text.{Line, begun_line, ended_lines, is_lf}
use Rattle.annotated_trace.specs.Annotation.{IsOneLine}

-- how many bytes the words of a line may have (profile)
abbrev pub words_limit : ℕ
words_limit = 8000

-- the byte that a line has for a byte: a space for an LF
abbrev pub plain_byte : ℕ → ℕ
plain_byte b = if is_lf b then 32 else b

-- bytes without an LF
abbrev pub plain : List ℕ → List ℕ
plain bytes = map plain_byte bytes

-- words with others after them, as far as there is room
abbrev pub with_words : (said words : List ℕ) → List ℕ
with_words said words = take words_limit (said ++ plain words)

-- bytes were appended to these, or none
abbrev pub BeginsWith : (before after : List ℕ) → Type 0
BeginsWith before after = (added : List ℕ) × (after ≡ before ++ added)

-- words without an LF, not too many
pub record IsWords (words : List ℕ) : Type 0 where
  pub one : IsOneLine words
  pub short : length words ≤ words_limit

-- the line that notes words
abbrev pub note_line : (words : List ℕ) → Line
note_line words = codes "# " ++ words

-- a line that is the note of some words
pub record IsNote (line : Line) : Type 0 where
  pub words : List ℕ
  pub are_words : IsWords words
  pub line_is : line ≡ note_line words

-- each line is a note
abbrev pub AreNotes : List Line → Type 0
AreNotes ls = AllByRecursion IsNote ls

-- bytes that are such lines, each with its LF
pub record AreNoteBytes (bytes : List ℕ) : Type 0 where
  pub notes : AreNotes (ended_lines bytes)
  pub whole : begun_line bytes ≡ []

-- the lines that ended, and the words of the one that has not
pub record Remarks : Type 0 where
  pub lines : List Line
  pub line : List ℕ

-- notes whose last line has ended
abbrev pub ended_notes : Remarks → Remarks
ended_notes notes = record { lines = notes.lines ++ note_line notes.line ∷ []; line = [] }

-- the note of some words, none where there are none
abbrev pub note_or_none : (words : List ℕ) → List Line
note_or_none [] = []
note_or_none words = note_line words ∷ []

-- how a line begins in which `said` bytes were said
abbrev pub hash_of : (said : ℕ) → List ℕ
hash_of said = if said == 0 then codes "# " else []

-- how it ends: a line without words has not begun
abbrev pub feed_of : (said : ℕ) → List ℕ
feed_of said = if said == 0 then [] else 10 ∷ []

-- the line that notes words and has not ended, none where there are none
abbrev pub begun_note : (words : List ℕ) → List ℕ
begun_note [] = []
begun_note words = note_line words

-- all notes, with the last line if it has words
abbrev pub notes_of : Remarks → List Line
notes_of notes = notes.lines ++ note_or_none notes.line

-- there is at least one note
abbrev pub IsSaid : Remarks → Type 0
IsSaid notes = 0 < length (notes_of notes)
