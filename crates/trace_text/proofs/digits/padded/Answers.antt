use Rattle.std.proofs.Common.{ap₂, length, ◌++◌}
use Rattle.std.proofs.lemmas.List.{drop-replicate}
use Rattle.trace_text.proofs.digits.padded.Goals as goal

pub returns : goal.returns
returns g c = ap₂ (λ xs ys. xs ++ ys) c.copy_from_slice.ensures.after (drop-replicate (length c.args.text.now) g.row.N 0)
