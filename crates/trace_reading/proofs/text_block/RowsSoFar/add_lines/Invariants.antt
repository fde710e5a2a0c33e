use Rattle.std.proofs.Common.{◌≡◌, ℕ, List, length}
use Rattle.line_model.specs.channels.GapRestart.{GapInterfaceState}
use Rattle.trace_reading.specs.TextBlocks.{HasReadTo}
use Rattle.trace_reading.proofs.BlockReads.{ReadSome}
use Rattle.trace_reading.proofs.text_block.RowsSoFar.add_lines.Given as goal

abbrev pub invariant-loop-after : goal.invariant-loop-after
invariant-loop-after g l = record {
  same : l.self.interface ≡ l.fn.self.interface;
  read : (m : GapInterfaceState) (text : List ℕ) → HasReadTo m text l.fn.lines l.fn.self → ReadSome m text l.bytes l.lines l.self l.rest;
}

abbrev pub decreases-loop-after : goal.decreases-loop-after
decreases-loop-after g l = length l.rest
