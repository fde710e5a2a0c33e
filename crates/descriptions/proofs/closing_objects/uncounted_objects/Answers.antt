use Rattle.std.proofs.Common.{refl, subst, sym}
use Rattle.std.specs.Prelude.{codes}
use Rattle.descriptions.specs.Closing.{AreUncounted}
use Rattle.descriptions.specs.Members.{IsFurther}
use Rattle.descriptions.specs.Writing.{Adds}
use Rattle.descriptions.proofs.MemberLemmas.{further_then, nothing_put}
use Rattle.descriptions.proofs.ClosingLemmas.{line_put, uncounted_then}
use Rattle.descriptions.proofs.closing_objects.uncounted_objects.Goals.{then-amount-ne0, else-amount-ne0}
use Rattle.descriptions.proofs.closing_objects.uncounted_objects.Goals as goal

pub loop-reason-init : goal.loop-reason-init
loop-reason-init g c = nothing_put (0, refl)

pub loop-reason-preserved : goal.loop-reason-preserved
loop-reason-preserved g c = elim c.if-amount-ne0.branch [
  | then-amount-ne0 w ↦ subst (λ j. Adds g.O.Out.has AreUncounted c.args.json.now.out j.out) (sym w.json-is) (uncounted_then c.loop-reason.invariant
      (line_put (codes "not_counted") IsFurther w.raw.ensures (further_then w.member.ensures (further_then w.member-then-amount-ne0.ensures w.member-then-amount-ne0-2.ensures)) w.raw-then-amount-ne0.ensures))
  | else-amount-ne0 w ↦ subst (λ j. Adds g.O.Out.has AreUncounted c.args.json.now.out j.out) (sym w.json-is) c.loop-reason.invariant
]
