use Rattle.std.proofs.Common.{ap, decimal, subst}
use Rattle.descriptions.specs.Facts.{IsFateOf}
use Rattle.descriptions.proofs.LineLemmas.{counted_is}
use Rattle.descriptions.proofs.ValueLemmas.{these_same, these_then}
use Rattle.descriptions.proofs.row_head.write_counted.Goals as goal

pub returns : goal.returns
returns g c lengths h =
    these_same (counted_is lengths c.in-Counted.octets c.in-Counted.segments (subst (IsFateOf lengths) c.in-Counted.is h))
    (these_then c.raw-2.ensures (these_then (these_same (ap decimal c.from.ensures) c.number.ensures) (these_then c.raw-3.ensures (these_then c.number-2.ensures c.raw-4.ensures))))
