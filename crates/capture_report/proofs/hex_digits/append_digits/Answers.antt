-- A block of digits goes to those before it.
use Rattle.capture_report.proofs.HexDigitLemmas.{block-appended}
use Rattle.capture_report.proofs.hex_digits.append_digits.Goals as goal

pub loop-block-preserved : goal.loop-block-preserved
loop-block-preserved c =
    block-appended c.loop-block.out.items c.extend_from_slice.new.self.items c.block_digits.result c.in-Some.block.now c.in-Some.more.now c.loop-block.rest.now _ _
    c.in_ok-extend_from_slice.ensures.items c.block_digits.ensures c.in-Some.ensures.cases.1 c.in-Some.ensures.cases.2 c.loop-block.invariant
