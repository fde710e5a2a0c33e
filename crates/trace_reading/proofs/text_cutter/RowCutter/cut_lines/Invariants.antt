use Rattle.std.proofs.Common.{◌≡◌, ◌+◌, ℕ, List, length}
use Rattle.trace_text.specs.Progress.{bytes_fed}
use Rattle.trace_reading.specs.TextCuts.{IsCutTo}
use Rattle.trace_reading.proofs.Cuts.{Come}
use Rattle.trace_reading.proofs.text_cutter.RowCutter.cut_lines.Given as goal

abbrev pub invariant-loop-after : goal.invariant-loop-after
invariant-loop-after g l = record {
  size : bytes_fed l.lines + length l.rest ≡ bytes_fed l.fn.lines + length l.bytes;
  same : l.self.interface ≡ l.fn.self.interface;
  come : (text : List ℕ) → IsCutTo text l.fn.lines l.fn.self → Come l.fn.self.interface text l.bytes l.lines l.self l.rest l.fn.pieces.items l.pieces.items;
}

abbrev pub decreases-loop-after : goal.decreases-loop-after
decreases-loop-after g l = length l.rest
