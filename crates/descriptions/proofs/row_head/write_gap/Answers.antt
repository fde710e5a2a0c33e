use Rattle.std.proofs.Common.{◌∙◌, ap, append-nil, decimal, sym}
use Rattle.descriptions.specs.RowObjects.{number_word}
use Rattle.descriptions.proofs.ValueLemmas.{these_same, these_then}
use Rattle.descriptions.proofs.row_head.write_gap.Goals as goal

pub returns-in-Some : goal.returns-in-Some
returns-in-Some g c =
    these_then c.raw.ensures (these_then (these_same (ap decimal c.from.ensures) c.number.ensures) (these_then c.raw-2.ensures
    (these_same (ap decimal c.from-in-Some.ensures ∙ ap number_word (sym c.in-Some.is) ∙ sym (append-nil (number_word c.args.channel))) c.number-in-Some.ensures)))

pub returns-in-None : goal.returns-in-None
returns-in-None g c =
    these_then c.raw.ensures (these_then (these_same (ap decimal c.from.ensures) c.number.ensures) (these_then c.raw-2.ensures
    (these_same (ap number_word (sym c.in-None.is) ∙ sym (append-nil (number_word c.args.channel))) c.raw-in-None.ensures)))
