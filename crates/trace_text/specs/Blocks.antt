-- Blocks of a text: whole lines that are read apart from those before them.
use Rattle.std.specs.Prelude.{◌≡◌, ◌==◌, ◌&&◌, ◌||◌, ℕ, ◌+◌, ◌^◌, Bool, nat_le, nat_lt, List, [], ◌∷◌, ◌++◌, length, map, None, Some, is_none, is_some}
use Rattle.line_model.specs.text.Header.{interface_of}
use Rattle.line_model.specs.text.Text.{Line, begun_line, content_of, early, early_rows, ended_lines, last_or}
use Rattle.line_model.specs.basics.Records.{Row}
use Rattle.line_model.specs.declared.interface.Interface.{Interface}
use Rattle.trace_text.specs.Progress.{Progress}
use Rattle.trace_text.specs.Represents.{Represents}
use Rattle.trace_text.specs.declared.lines.block.BlockSpan.{BlockSpan}

-- a text that has a header of this interface and no row: what a block is read after, in two lines and 200 bytes
pub record IsHeading (i : Interface) (heading : List ℕ) : Type 0 where
  pub header : Line
  pub content : content_of (ended_lines heading) ≡ header ∷ []
  pub interface : interface_of header ≡ Some i
  pub whole : begun_line heading ≡ []
  pub sound : early heading ≡ None
  pub lines : length (ended_lines heading) ≡ 2
  pub bytes : length heading ≡ 200

-- a reader has read such a text
pub record IsAtRows (i : Interface) (reader : Progress) : Type 0 where
  pub heading : List ℕ
  pub is : IsHeading i heading
  pub represented : Represents reader heading

-- the number of the first of some rows, or 0
abbrev pub first_number : List Row → ℕ
first_number [] = 0
first_number (row ∷ rows) = row.number

-- the number of the last of some rows, or 0
abbrev pub last_of : List Row → ℕ
last_of rows = last_or 0 (map (λ r. r.number) rows)

-- whole lines that have no fault after a header of this interface, and write these rows
pub record IsBlock (i : Interface) (block : List ℕ) (rows : List Row) : Type 0 where
  pub heading : List ℕ
  pub is : IsHeading i heading
  pub whole : begun_line block ≡ []
  pub sound : early (heading ++ block) ≡ None
  pub rows_are : early_rows (heading ++ block) ≡ rows

-- the numbers of a block's first and last row, and how many lines and bytes it has
pub record IsSpanOf (block : List ℕ) (rows : List Row) (span : BlockSpan) : Type 0 where
  pub first : span.first ≡ first_number rows
  pub last : span.last ≡ last_of rows
  pub lines : span.lines ≡ length (ended_lines block)
  pub bytes : span.bytes ≡ length block

-- whether the rows after some number may begin with this one, or there are none
abbrev pub may_follow : ℕ → ℕ → Bool
may_follow last first = (first == 0) || nat_lt last first

-- whether a reader has read a header and whole lines, and nothing was refused
abbrev pub is_between_lines : Progress → Bool
is_between_lines reader = is_some reader.interface && ((length reader.begun == 0) && is_none reader.refused)

-- whether a reader may pass a block: it is between lines, the numbers rise, and the text has room
abbrev pub may_pass : Progress → BlockSpan → Bool
may_pass reader span = is_between_lines reader && (may_follow reader.last span.first && (nat_le span.lines span.bytes && nat_le (reader.start + span.bytes) (2 ^ 30)))

-- a reader passed a block: it represents the text with the block, which has the rows of the block more
pub record HasPassed (before after : Progress) (text block : List ℕ) (rows : List Row) : Type 0 where
  pub represented : Represents after (text ++ block)
  pub interface : after.interface ≡ before.interface
  pub rows_are : early_rows (text ++ block) ≡ early_rows text ++ rows
