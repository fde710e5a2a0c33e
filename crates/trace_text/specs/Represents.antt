-- Which texts a reader of lines may have been fed.
use Rattle.std.specs.Prelude.{◌≡◌, ◌⊎◌, ℕ, Bool, true, false, List, [], ◌∷◌, Option, None, Some, Result, Err, length, is_some, take, ◌++◌}
use Rattle.line_model.specs.text.Text.{ended_lines, begun_line, size_of, head_of, has_header, last_number, early, early_rows, lines_of, begun_kind}
use Rattle.line_model.specs.declared.fault.Kind.{Kind}
use Rattle.line_model.specs.declared.fault.Fault.{Fault}
use Rattle.line_model.specs.declared.fault.Fault.TheVariants.{Memory, Trace}
use Rattle.line_model.specs.basics.Records.{Row}
use Rattle.line_model.specs.declared.interface.Interface.{Interface}
use Rattle.trace_text.specs.Progress.{Progress}

-- it keeps of the text what its lines so far say, and none of them is faulty
pub record Represents (reader : Progress) (text : List ℕ) : Type 0 where
  pub ended : reader.ended ≡ length (ended_lines text)
  pub start : reader.start ≡ size_of (ended_lines text)
  pub interface : reader.interface ≡ head_of (ended_lines text)
  pub header : is_some reader.interface ≡ has_header (ended_lines text)
  pub last : reader.last ≡ last_number (ended_lines text)
  pub begun : reader.begun ≡ begun_line text
  pub sound : early text ≡ None
  pub running : reader.refused ≡ None

-- the fault is the one of the text's first faulty line, or refused memory
abbrev pub IsFaultOf : Option (ℕ × Kind) → Fault → Type 0
IsFaultOf at Memory = Unit {0}
IsFaultOf at (Trace line kind) = at ≡ Some (line, kind)
IsFaultOf at _ = ⊥

-- rows were appended to these: all of the text's, or where memory ran out some first ones
abbrev pub AreAppended : {T : Type 0} → Result T Fault → List Row → List Row → List Row → Type 0
AreAppended (Err Memory) out rows more = (n : ℕ) × (out ≡ rows ++ take n more)
AreAppended _ out rows more = out ≡ rows ++ more

-- the same rows were appended to both lists
pub record HasAppended (out out_after known known_after : List Row) : Type 0 where
  pub more : List Row
  pub out_has : out_after ≡ out ++ more
  pub known_has : known_after ≡ known ++ more

-- the first ones of the same rows were appended to one list, and all to the other
pub record HasBegun (out out_after known known_after : List Row) : Type 0 where
  pub more : List Row
  pub rest : List Row
  pub out_has : out_after ≡ out ++ more
  pub known_has : known_after ≡ known ++ more ++ rest

-- the new rows were appended to a list, or where memory ran out some first ones
abbrev pub IsAppended : {T : Type 0} → Result T Fault → List Row → List Row → List Row → List Row → Type 0
IsAppended (Err Memory) out out_after known known_after = HasBegun out out_after known known_after
IsAppended _ out out_after known known_after = HasAppended out out_after known known_after

-- all rows of a refused text are known, or where memory ran out its first ones
abbrev pub AreKnown : List Row → List Row → Fault → Type 0
AreKnown known all Memory = (rest : List Row) × (all ≡ known ++ rest)
AreKnown known all (Trace line kind) = all ≡ known
AreKnown known all _ = ⊥

-- a row was read from the front of a chunk: the reader represents the text with what was read, which has this row more
pub record TakesRow (before after : Progress) (chunk rest : List ℕ) (row : Row) : Type 0 where
  pub taken : List ℕ
  pub whole : chunk ≡ taken ++ rest
  pub represented : (text : List ℕ) → Represents before text → Represents after (text ++ taken)
  pub rows : (text : List ℕ) → Represents before text → early_rows (text ++ taken) ≡ early_rows text ++ row ∷ []

-- a chunk was read to its end, and no line that ends in it writes a row
pub record ReadsChunk (before after : Progress) (chunk : List ℕ) : Type 0 where
  pub represented : (text : List ℕ) → Represents before text → Represents after (text ++ chunk)
  pub rows : (text : List ℕ) → Represents before text → early_rows (text ++ chunk) ≡ early_rows text

-- the row of a last line that no LF ended, if it has one
abbrev pub last_row : Bool → Row → List Row
last_row false row = []
last_row true row = row ∷ []

-- the interface that is kept is the text's; where memory ran out it may be none yet
abbrev pub IsHeadKept : {T : Type 0} → Result T Fault → Option Interface → Option Interface → Type 0
IsHeadKept (Err Memory) kept head = (kept ≡ None) ⊎ (kept ≡ head)
IsHeadKept _ kept head = kept ≡ head

-- refused memory, or a fault of this line
abbrev pub IsAtLine : ℕ → Fault → Type 0
IsAtLine line Memory = Unit {0}
IsAtLine line (Trace l kind) = l ≡ line
IsAtLine line _ = ⊥

-- refused memory, or a faulty line
abbrev pub IsTextFault : Fault → Type 0
IsTextFault Memory = Unit {0}
IsTextFault (Trace line kind) = Unit {0}
IsTextFault _ = ⊥

-- at the end of a text that has `count` lines, none of them faulty, the reader keeps its header
pub record EndsText (reader : Progress) (count : ℕ) (text : List ℕ) : Type 0 where
  pub lines : count ≡ length (lines_of text)
  pub interface : reader.interface ≡ head_of (lines_of text)
  pub header : is_some reader.interface ≡ has_header (lines_of text)
  pub sound : begun_kind (ended_lines text) (begun_line text) ≡ None
  pub early : early text ≡ None
