-- Blocks of a text that are read apart.
use Rattle.std.specs.Prelude.{◌≡◌, ℕ, ◌≤◌, List, ◌++◌, length, not, Option, IfSome}
use Rattle.line_model.specs.basics.Records.{Row}
use Rattle.line_model.specs.channels.GapRestart.{GapInterfaceState}
use Rattle.line_model.specs.packets.Says.{items_of}
use Rattle.line_model.specs.pieces.Plan.{has_some}
use Rattle.line_model.specs.text.Text.{early_rows}
use Rattle.restart_epochs.specs.BlockStates.{IsBlockCut, IsCutSoFar}
use Rattle.trace_text.specs.Blocks.{IsBlock, IsSpanOf, first_number}
use Rattle.trace_text.specs.Progress.{Progress}
use Rattle.trace_text.specs.Represents.{Represents}
use Rattle.trace_reading.specs.declared.text_block.BlockRows.{BlockRows}
use Rattle.trace_reading.specs.declared.text_block.Start.{Start}
use Rattle.trace_reading.specs.declared.text_block.RowsSoFar.{RowsSoFar}

-- what contracts see of a block
pub record BlockView : Type 0 where
  pub place : ℕ
  pub start : Start
  pub bytes : List ℕ

-- what contracts see of a room: the bytes that were read, and how many more it has place for
pub record RoomView : Type 0 where
  pub items : List ℕ
  pub spare : ℕ

-- bytes are at this place of a text
pub record IsPartAt (whole : List ℕ) (place : ℕ) (bytes : List ℕ) : Type 0 where
  pub before : List ℕ
  pub rest : List ℕ
  pub is : whole ≡ (before ++ bytes) ++ rest
  pub place_is : length before ≡ place

-- a block of at most `most` bytes is at this place of the text that a source shows, if it shows one
pub record IsBlockAt (known : Option (List ℕ)) (place most : ℕ) (block : BlockView) : Type 0 where
  pub place_is : block.place ≡ place
  pub few : length block.bytes ≤ most
  pub represented : IfSome known (λ whole. IsPartAt whole place block.bytes)

-- the rows of a block that is read after a header, and cut as a restart machine receives them
pub record IsReadAs {A : Type 0} (start : Start) (bytes : List ℕ) (r : BlockRows A) : Type 0 where
  pub rows : List Row
  pub block : IsBlock start.interface bytes rows
  pub span_is : IsSpanOf bytes rows r.span
  pub cut : IsBlockCut start.machine (items_of start.interface rows) r.cut

-- these rows were read, and are cut as a restart machine receives them
pub record AreRead {A : Type 0} (l : GapInterfaceState) (rs : List Row) (r : RowsSoFar A) : Type 0 where
  pub empty : r.is_empty ≡ not (has_some rs)
  pub first : r.first ≡ first_number rs
  pub cut : IsCutSoFar l (items_of r.interface rs) r.cutter

-- a text was read so far, and the rows of the lines that an LF ended
pub record HasReadTo {A : Type 0} (l : GapInterfaceState) (text : List ℕ) (lines : Progress) (r : RowsSoFar A) : Type 0 where
  pub reads : Represents lines text
  pub rows : AreRead l (early_rows text) r
