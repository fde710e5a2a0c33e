-- Vectors that are computed lane by lane.
use Rattle.std.proofs.Common.{◌≡◌, ◌∙◌, ap, ap₂, arith, length, length-take-le, map, subst, sym, take, take_all, ℕ, List, w8}
use Rattle.std.specs.List.{AllPass}
use Rattle.std.proofs.lemmas.Simd.{below_from_Fits}
use Rattle.hex.specs.Hex.{encode_upper}
use Rattle.trace_text.proofs.LaneLemmas.{itself, joined, splat_is}
use Rattle.capture_report.specs.HexDigits.{half_digit, is_half}
use Rattle.capture_report.proofs.HexDigitLemmas.{high_halves, interleaved, by_turns, low_bits, low_halves}
use Rattle.capture_report.proofs.hex_digits.block_digits.Goals as goal

pub digits_of-high-requires : goal.digits_of-high-requires
digits_of-high-requires c =
    let octets = c.args.octets.now in
    let v : List ℕ = take 16 octets in
    let n : length v ≡ 16 = length-take-le 16 octets (omega (arith, c.requires)) in
    subst (AllPass is_half) (sym (joined _ _ _ v (itself v) (splat_is v 16 4 n))) (high_halves v (below_from_Fits w8 v c.type_inv.octets.1))

pub digits_of-low-requires : goal.digits_of-low-requires
digits_of-low-requires c =
    let octets = c.args.octets.now in
    let v : List ℕ = take 16 octets in
    let n : length v ≡ 16 = length-take-le 16 octets (omega (arith, c.requires)) in
    subst (AllPass is_half) (sym (joined _ _ _ v (itself v) (splat_is v 16 15 n) ∙ low_bits v)) (low_halves v)

pub returns : goal.returns
returns c =
    let octets = c.args.octets.now in
    let v : List ℕ = take 16 octets in
    let n : length v ≡ 16 = length-take-le 16 octets (omega (arith, c.requires)) in
    let whole : v ≡ octets = take_all 16 octets (omega (arith, c.requires)) in
    let high = c.digits_of-high.ensures ∙ ap (map half_digit) (joined _ _ _ v (itself v) (splat_is v 16 4 n)) in
    let low = c.digits_of-low.ensures ∙ ap (map half_digit) (joined _ _ _ v (itself v) (splat_is v 16 15 n) ∙ low_bits v) in
    ap₂ by_turns high low ∙ interleaved v n ∙ ap encode_upper whole
