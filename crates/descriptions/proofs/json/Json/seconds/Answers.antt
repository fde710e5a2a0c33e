use Rattle.std.proofs.Common.{◌∙◌, ◌+◌, ap, arith, decimal, drop}
use Rattle.descriptions.specs.CallTable.{point_before, trimmed, with_point}
use Rattle.descriptions.proofs.MemberLemmas.{as_form}
use Rattle.descriptions.proofs.ValueLemmas.{seconds_value, these_same, these_then}
use Rattle.descriptions.proofs.json.Json.seconds.Goals as goal

pub returns-clause-written : goal.returns-clause-written
returns-clause-written g c =
    let part = c.trimmed-part.ensures ∙ ap trimmed (c.after_first.ensures ∙ ap (drop 1) (c.as_bytes-digits.ensures.value ∙ c.format.ensures.text ∙ ap (λ n. decimal (1000000000 + n)) c.from.ensures)) in
    these_then c.number.ensures (these_same (ap with_point part) (these_then (these_same (c.point_before.ensures ∙ ap point_before c.is_empty.ensures) c.raw.ensures) c.raw-2.ensures))

pub returns-clause-value : goal.returns-clause-value
returns-clause-value g c =
    let part = c.trimmed-part.ensures ∙ ap trimmed (c.after_first.ensures ∙ ap (drop 1) (c.as_bytes-digits.ensures.value ∙ c.format.ensures.text ∙ ap (λ n. decimal (1000000000 + n)) c.from.ensures)) in
    as_form (seconds_value c.args.seconds c.args.billionths (omega (arith, c.ranges.billionths.fits))) (these_then c.number.ensures (these_same (ap with_point part) (these_then (these_same (c.point_before.ensures ∙ ap point_before c.is_empty.ensures) c.raw.ensures) c.raw-2.ensures)))
