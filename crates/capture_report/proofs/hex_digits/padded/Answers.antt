use Rattle.std.proofs.Common.{ap₂, length, ◌++◌}
use Rattle.std.proofs.lemmas.List.{drop-replicate}
use Rattle.capture_report.proofs.hex_digits.padded.Goals as goal

pub returns : goal.returns
returns c = ap₂ (λ xs ys. xs ++ ys) c.copy_from_slice.ensures.after (drop-replicate (length c.args.octets.now) 16 0)
