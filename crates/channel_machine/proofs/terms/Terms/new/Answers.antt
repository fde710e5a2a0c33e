use Rattle.std.proofs.Common.{sym, subst}
use Rattle.channel_machine.specs.Terms.{AreUsable}
use Rattle.channel_machine.proofs.Usable.{usable_of}
use Rattle.channel_machine.proofs.terms.Terms.new.Goals as goal

pub invariant_of-result : goal.invariant_of-result
invariant_of-result c = record { usable = subst (λ v. AreUsable c.args.interface.modulus v) (sym c.of.ensures) (usable_of c.args.interface) }
