-- What was appended comes before the digits of the rest.
use Rattle.std.proofs.Common.{◌≡◌, ◌++◌, length}
use Rattle.hex.specs.Hex.{encode_upper}
use Rattle.capture_report.proofs.hex_digits.append_digits.Given as goal

abbrev pub invariant-loop-block : goal.invariant-loop-block
invariant-loop-block l = l.out.items ++ encode_upper l.rest ≡ l.fn.out.items ++ encode_upper l.fn.octets

abbrev pub decreases-loop-block : goal.decreases-loop-block
decreases-loop-block l = length l.rest
