-- The digits of the zeros are left out.
use Rattle.std.proofs.Common.{◌≡◌, ◌-◌, ◌*◌, ◌∙◌, ap, length, replicate, rules, take}
use Rattle.hex.specs.Hex.{encode_upper}
use Rattle.capture_report.proofs.HexDigitLemmas.{encode-front}
use Rattle.capture_report.proofs.hex_digits.append_few.Goals as goal

pub returns : goal.returns
returns c =
    let octets = c.args.octets.now in
    let front : take (2 * length octets) c.block_digits-digits.result ≡ encode_upper octets =
    ap (take (2 * length octets)) (c.block_digits-digits.ensures ∙ ap encode_upper c.padded.ensures) ∙ encode-front octets (replicate (16 - length octets) 0) in
    search (rules, front)
