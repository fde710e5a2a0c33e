use Rattle.std.proofs.Common.{◌≤◌, ℕ, List, arith, cond, ltb, refl, subst, sym, take}
use Rattle.std.specs.List.{AllPass}
use Rattle.std.proofs.lemmas.Simd.{length-chunk}
use Rattle.hex.specs.Hex.{is_hex_digit}
use lib.Lanes.{chunk}
use Rattle.trace_text.proofs.DigitCounts.{first-digits}
use Rattle.trace_text.proofs.LaneLemmas.{itself, joined, selected, splat_is}
use Rattle.trace_text.proofs.digits.leading_digits.Goals as goal

pub returns : goal.returns
returns c =
    let v : List ℕ = chunk 0 64 c.args.bytes.now in
    let n = length-chunk 0 64 c.args.bytes.now (omega (arith, c.requires)) in
    let sum = joined _ _ _ v (itself v) (splat_is v 64 198 n) in
    let most = selected _ _ _ v (joined (λ a b. cond (ltb a b) 255 0) _ _ v sum (splat_is v 64 118 n)) (splat_is v 64 118 n) sum in
    let digit = joined _ _ _ v most (splat_is v 64 118 n) in
    let upper = joined _ _ _ v (joined _ _ _ v (itself v) (splat_is v 64 223 n)) (splat_is v 64 185 n) in
    let far = selected _ _ _ v (joined (λ a b. cond (ltb a b) 255 0) _ _ v upper (splat_is v 64 122 n)) (splat_is v 64 122 n) upper in
    let letter = joined _ _ _ v far (splat_is v 64 122 n) in
    let found = subst (λ (n : ℕ). (n ≤ 64) × AllPass is_hex_digit (take n c.args.bytes.now)) (sym c.trailing_ones.ensures)
    (first-digits _ c.args.bytes.now _ c.requires c.type_inv.bytes (joined _ _ _ v digit letter) refl) in record { few = found.0; digits = found.1 }
