use Rattle.std.proofs.Common.{ne_eqb}
use Rattle.descriptions.proofs.FindingLemmas.{sides_are}
use Rattle.descriptions.proofs.ValueLemmas.{these_same, these_then}
use Rattle.descriptions.proofs.finding_sums.put_sides.Goals as goal

pub returns : goal.returns
returns g c =
    these_same (sides_are c.args.all c.args.of_dte c.args.of_dce (ne_eqb c.args.all 0 c.if-all-eq0.false))
    (these_then c.raw.ensures (these_then c.number.ensures (these_then c.raw-2.ensures (these_then c.number-2.ensures c.raw-3.ensures))))
