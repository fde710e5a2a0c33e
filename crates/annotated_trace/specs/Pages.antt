-- What a page has written to its sink.
use Rattle.std.specs.Prelude.{◌≡◌, ℕ, List, ◌++◌, Option, length}
use Rattle.line_model.specs.traces.Traces.{text}
use Rattle.line_model.specs.basics.Written.{Writes}
use Rattle.line_model.specs.declared.write_buffer.WriteBuffer.{WriteBuffer}
use Rattle.annotated_trace.specs.Wording.{AreNotes, IsWords, Remarks, begun_note}

-- a sink that had `before` accepted these notes, except what is on its way; the line that has not ended has `said` bytes
pub record HasNoted (before taken : Option (List ℕ) × ℕ) (buffer : WriteBuffer) (said : ℕ) (notes : Remarks) : Type 0 where
  pub lines : AreNotes notes.lines
  pub words : IsWords notes.line
  pub said_is : said ≡ length notes.line
  pub writes : Writes before taken buffer (text notes.lines ++ begun_note notes.line)

-- the same of some notes
pub record HasNotes (before taken : Option (List ℕ) × ℕ) (buffer : WriteBuffer) (said : ℕ) : Type 0 where
  pub notes : Remarks
  pub noted : HasNoted before taken buffer said notes
