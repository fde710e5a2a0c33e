use Rattle.std.proofs.Common.{◌∙◌, cond, ltb}
use Rattle.trace_text.proofs.LaneLemmas.{itself, joined, selected, splat_is}
use Rattle.capture_report.proofs.HexDigitLemmas.{lanes_are}
use Rattle.capture_report.proofs.hex_digits.digits_of.Goals as goal

pub returns : goal.returns
returns c =
    let v = c.args.halves in
    let n = c.fits-halves.0 in
    let great = joined (λ a b. cond (ltb a b) 255 0) _ _ v (splat_is v 16 9 n) (itself v) in
    let base = selected _ _ _ v great (splat_is v 16 55 n) (splat_is v 16 48 n) in
    joined _ _ _ v base (itself v) ∙ lanes_are v c.requires
