-- How far a text was read, and its rows cut.
use Rattle.std.specs.Prelude.{◌≡◌, ℕ, List, [], ◌++◌, length, map, Option, Some, None, IfSome}
use Rattle.line_model.specs.declared.interface.Interface.{Interface}
use Rattle.line_model.specs.work.Book.{KnownPlan}
use Rattle.line_model.specs.basics.Bounds.{all_octets}
use Rattle.line_model.specs.basics.Records.{Row, Item, Piece}
use Rattle.line_model.specs.packets.Says.{items_of}
use Rattle.line_model.specs.text.Text.{early_head, early_rows, last_or}
use Rattle.line_model.specs.traces.Traces.{trace_plan}
use Rattle.restart_epochs.specs.Cutting.{Cutting, Represents as IsCutterOf, given_of}
use Rattle.shared_work.specs.queue.Passes.{PassView}
use Rattle.trace_text.specs.Progress.{Progress}
use Rattle.trace_text.specs.Represents.{Represents}
use Rattle.trace_reading.specs.declared.text_cutter.RowCutter.{RowCutter}
use Rattle.trace_reading.specs.declared.text_cutter.TextCutter.{TextCutter}

-- the counts of a cutter that was given these rows: the number of the last one, and the octets
pub record IsCounting (rs : List Item) (c : Cutting) : Type 0 where
  pub last : c.last ≡ last_or 0 (map (λ r. r.number) rs)
  pub octets : c.octets ≡ all_octets rs

-- the cutter was given these rows
pub record HasCut {A : Type 0} (rs : List Item) (f : RowCutter A) : Type 0 where
  pub represented : IsCutterOf f.interface rs f.cutter
  pub counting : IsCounting rs f.cutter

-- a text was read so far, and the rows of the lines that an LF ended were cut
pub record IsCutTo {A : Type 0} (text : List ℕ) (lines : Progress) (f : RowCutter A) : Type 0 where
  pub reads : Represents lines text
  pub header : lines.interface ≡ Some f.interface
  pub cut : HasCut (items_of f.interface (early_rows text)) f

-- of any rows that it was given
abbrev pub OfCut : {A : Type 0} → RowCutter A → (List Item → Type 0) → Type 0
OfCut f Fact = (before : List Item) → HasCut before f → Fact before

-- of any text that was read so far
abbrev pub OfCutTo : {A : Type 0} → Progress → RowCutter A → (List ℕ → Type 0) → Type 0
OfCutTo lines f Fact = (text : List ℕ) → IsCutTo text lines f → Fact text

-- the rows were cut, if there are any
abbrev pub AreCut : {A : Type 0} → List Row → Option Interface → Option (RowCutter A) → Type 0
AreCut rows head None = rows ≡ []
AreCut rows head (Some f) = (head ≡ Some f.interface) × HasCut (items_of f.interface rows) f

-- it was given this text
pub record HasTaken {A : Type 0} (text : List ℕ) (c : TextCutter A) : Type 0 where
  pub reads : Represents c.lines text
  pub cut : AreCut (early_rows text) c.lines.interface c.row_cutter

-- of any text that it was given
abbrev pub OfTaken : {A : Type 0} → TextCutter A → (List ℕ → Type 0) → Type 0
OfTaken c Fact = (text : List ℕ) → HasTaken text c → Fact text

-- the complete pieces of a text, under a header
abbrev pub given_in : Interface → List ℕ → List Piece
given_in i text = given_of i (items_of i (early_rows text))

-- the same, where the text has a header
abbrev pub known_of : Option Interface → List ℕ → List Piece
known_of None text = []
known_of (Some i) text = given_in i text

-- the complete pieces of a text
abbrev pub known_pieces : List ℕ → List Piece
known_pieces text = known_of (early_head text) text

-- it was given this text, and the complete pieces were fed
pub record IsFedTo {A : Type 0} (text : List ℕ) (fed : PassView) (c : TextCutter A) : Type 0 where
  pub taken : HasTaken text c
  pub count : fed.record_of.fed ≡ length (known_pieces text)
  pub pieces : fed.pieces ≡ known_pieces text

-- the plan, where it is known, is that of a text that begins so
abbrev pub IsPlanOf : KnownPlan → List ℕ → Type 0
IsPlanOf plan text = IfSome plan (λ ps. (rest : List ℕ) × (ps ≡ trace_plan (text ++ rest)))
