use Rattle.std.proofs.Common.{ap, decimal}
use Rattle.descriptions.proofs.ValueLemmas.{these_same, these_then}
use Rattle.descriptions.proofs.row_head.write_states.Goals as goal

pub returns : goal.returns
returns g c =
    these_then c.raw.ensures (these_then (these_same (ap decimal c.from.ensures) c.number.ensures) (these_then c.raw-2.ensures (these_then (these_same c.side_word.ensures c.raw-3.ensures) (these_then c.raw-4.ensures (these_then (these_same c.channel_value.ensures c.value.ensures.written)
    (these_then c.raw-5.ensures (these_then (these_same c.state_words.ensures.before c.raw-6.ensures) (these_then c.raw-7.ensures (these_then (these_same c.state_words.ensures.after c.raw-8.ensures) c.raw-9.ensures)))))))))
