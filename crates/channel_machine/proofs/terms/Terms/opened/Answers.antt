use Rattle.std.proofs.Common.{sym, ◌∙◌, ap, subst}
use Rattle.channel_machine.specs.Terms.{AreUsable}
use Rattle.channel_machine.specs.TermsRepresent.{values_of, with_asked}
use Rattle.channel_machine.proofs.Usable.{usable_of, usable_asked}
use Rattle.channel_machine.proofs.terms.Terms.opened.Goals as goal

pub invariant_of-result : goal.invariant_of-result
invariant_of-result c = record {
  usable = subst (λ v. AreUsable c.args.interface.modulus v) (sym (c.asked.ensures ∙ ap (λ v. with_asked c.args.out c.args.fields.now.sizes c.args.fields.now.windows v) c.of.ensures))
      (usable_asked c.args.interface.modulus c.args.out c.args.fields.now.sizes c.args.fields.now.windows (values_of c.args.interface) c.requires.usable.sizes c.requires.usable.windows (usable_of c.args.interface));
}
