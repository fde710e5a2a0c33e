-- The address of the octets so far.
use Rattle.std.proofs.Common.{◌≡◌, ◌^◌, ◌%◌, take}
use Rattle.std.specs.Int.Digits.{number_from_digits}
use Rattle.capture_report.proofs.xot_frames.address_of.Given as goal

abbrev pub invariant-loop-octet : goal.invariant-loop-octet
invariant-loop-octet l = l.address ≡ number_from_digits 256 (take l.octet-index l.octets) % 2 ^ 128
