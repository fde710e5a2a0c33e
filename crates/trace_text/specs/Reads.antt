-- What one line says.
use Rattle.std.specs.Prelude.{◌≡◌, ℕ, Bool, true, false, List, [], ◌∷◌, ◌++◌, Option, None, Some, length, if◌then◌else◌}
use Rattle.line_model.specs.text.Header.{interface_of}
use Rattle.line_model.specs.text.RowLine.{rising_number, row_kind, row_of, side_of}
use Rattle.line_model.specs.text.Text.{is_comment}
use Rattle.line_model.specs.declared.fault.Kind.{Kind}
use Rattle.line_model.specs.declared.interface.Interface.{Interface}
use Rattle.line_model.specs.basics.Records.{ReadRow, Row}
use Rattle.line_model.specs.packets.Says.{read_octets}
use Rattle.line_model.specs.declared.state.Side.{Side}
use Rattle.trace_text.specs.Cuts.{Lacks}
use Rattle.trace_text.specs.declared.content.Content.{Content}
use Rattle.trace_text.specs.declared.content.Content.TheVariants.{Comment, Header, Packet}
use Rattle.trace_text.specs.declared.content.LineFault.{LineFault}
use Rattle.trace_text.specs.declared.content.LineFault.TheVariants.{Memory, Broken}

-- the row that has these octets
abbrev pub whole_row : ReadRow → Row
whole_row r = record { number = r.number; side = r.side; octets = r.octets; gap = r.gap }

-- a row with all its octets, or as it is read
abbrev pub kept_row : Bool → Row → ReadRow
kept_row whole r = record {
  number = r.number;
  side = r.side;
  length = length r.octets;
  octets = if whole then r.octets else read_octets r.octets;
  gap = r.gap;
}

-- what a line without a fault says, and the row that it writes, if it does
abbrev pub ReadsAs : Bool → ℕ → List ℕ → Content → Row → Type 0
ReadsAs after_header last line Comment row = is_comment line ≡ true
ReadsAs after_header last line (Header interface) row = (is_comment line ≡ false) × (after_header ≡ false) × (interface_of line ≡ Some interface)
ReadsAs after_header last line Packet row = (is_comment line ≡ false) × (after_header ≡ true) × (row_of line ≡ Some row)

-- the rule that a line breaks, or refused memory
abbrev pub Breaks : Option Kind → LineFault → Type 0
Breaks kind Memory = Unit {0}
Breaks kind (Broken k) = kind ≡ Some k

-- a line begins as a row's: a number above the last one, a side, and what follows the space after it
pub record BeginsRow (last : ℕ) (line : List ℕ) (number : ℕ) (side : Side) (rest : List ℕ) : Type 0 where
  pub word : List ℕ
  pub letter : ℕ
  pub whole : line ≡ word ++ 32 ∷ letter ∷ 32 ∷ rest
  pub one_word : Lacks 32 word
  pub no_space : Lacks 32 (letter ∷ [])
  pub rises : rising_number last word ≡ Some number
  pub names : side_of (letter ∷ []) ≡ Some side

-- a text begins with a line that writes this row, and its LF
pub record BeginsLine (last : ℕ) (text : List ℕ) (row : Row) (rest : List ℕ) : Type 0 where
  pub line : List ℕ
  pub whole : text ≡ line ++ 10 ∷ rest
  pub one_line : Lacks 10 line
  pub no_comment : is_comment line ≡ false
  pub sound : (i : Interface) → row_kind i last line ≡ None
  pub writes : row_of line ≡ Some row
