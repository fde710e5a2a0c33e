use Rattle.std.proofs.Common.{ap, decimal}
use Rattle.descriptions.specs.FindingLines.{call_words}
use Rattle.descriptions.proofs.ValueLemmas.{these_same, these_then}
use Rattle.descriptions.proofs.finding_words.put_head.Goals as goal

pub returns : goal.returns
returns g c =
    these_then c.raw.ensures (these_then (these_same (ap decimal c.from.ensures) c.number.ensures) (these_then c.raw-2.ensures (these_then (these_same c.side_name.ensures c.raw-3.ensures) (these_then c.put_channel.ensures
    (these_then (these_same (ap call_words c.of_row.ensures) c.put_call.ensures) (these_then c.put_state.ensures (these_then c.raw-4.ensures (these_then (these_same c.code_digits.ensures c.raw-5.ensures) c.put_follows.ensures))))))))
