use Rattle.std.proofs.Common.{◌∙◌, ap, decimal}
use Rattle.descriptions.specs.RowObjects.{flag_word}
use Rattle.descriptions.proofs.ObjectLemmas.{head_put}
use Rattle.descriptions.proofs.ValueLemmas.{these_same, these_then}
use Rattle.descriptions.proofs.row_head.write_packet.Goals as goal

pub returns : goal.returns
returns g c i earlier r h =
    head_put i earlier r c.args.facts.now h c.write_states.ensures (c.write_counted.ensures _ h.fate)
    (these_then c.raw.ensures (these_then (these_same (ap decimal c.from.ensures) c.number.ensures) (these_then c.raw-2.ensures (these_then (these_same (c.flag_word.ensures ∙ ap flag_word c.is_owed.ensures) c.raw-3.ensures) c.raw-4.ensures))))
    c.write_finding.ensures
