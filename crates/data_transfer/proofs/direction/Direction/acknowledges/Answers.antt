use Rattle.std.proofs.Common.{refl, false, ◌≡◌, arith}
use Rattle.std.specs.Prelude.{nat_lt}
use Rattle.data_transfer.proofs.FlowLemmas.{outstanding_by_residue, acknowledged_by_test, acknowledged-none_above}
use Rattle.data_transfer.proofs.direction.Direction.acknowledges.Goals as goal

pub returns-then-number-modulus-clause-counts : goal.returns-then-number-modulus-clause-counts
returns-then-number-modulus-clause-counts c s a r =
    rw (c.residue.ensures, c.outstanding.ensures, outstanding_by_residue _ s a _ _ c.requires.eight r, ← r.acknowledged_is)
    (acknowledged_by_test _ s a _ c.requires.eight (grind (arith, c.if-number-modulus.true)) r.ordered _ refl)

pub returns-else-number-modulus-clause-counts : goal.returns-else-number-modulus-clause-counts
returns-else-number-modulus-clause-counts c s a r =
    let owner_bits : nat_lt c.args.number c.args.modulus ≡ false = grind (arith, c.if-number-modulus.false) in
    rw owner_bits (acknowledged-none_above _ s a _ c.requires.eight (grind (arith, c.if-number-modulus.false)))
