use Rattle.std.proofs.Common.{ap, subst, sym, ◌+◌, arith}
use Rattle.line_model.specs.declared.interface.Interface.{Interface}
use Rattle.line_model.specs.basics.Bounds.{IsPiece}
use Rattle.restart_epochs.specs.Cutting.{items_out, IsCutting}
use Rattle.restart_epochs.proofs.Bounds.{channel_piece}
use Rattle.restart_epochs.specs.Walks.{IsStep}
use Rattle.restart_epochs.proofs.Taken.{pushed_by, taken_bounds, taken_by}
use Rattle.restart_epochs.proofs.cutter.Cutter.push.Goals as goal

pub apply-requires-clause-pieces : goal.apply-requires-clause-pieces
apply-requires-clause-pieces g c k = subst (λ (i : Interface). IsPiece i k (items_out c.self.inside.pieces.gap c.self.inside.pieces.rows k)) (sym c.in_ok-step.ensures.same.interface) (channel_piece _ k c.self.invariant)

pub invariant_of-self-2 : goal.invariant_of-self-2
invariant_of-self-2 g c =
    let item = c.args.item.now in
    let t = taken_by c.args.self.now c.self.inside.walk c.step.new.self c.advance.new.self _ c.apply.new.self.given _ c.apply.new.self.gap _ c.apply.new.self.rows _ _ c.item.inside.number (c.self.inside.octets + c.item.inside.length) item c.in_ok-step.step c.self.view_is
    c.in_ok-step.ensures.step c.in_ok-step.ensures.same c.advance.ensures c.in_ok-apply.ensures.rows c.in_ok-apply.ensures.gap c.in_ok-apply.ensures.count (ap (λ x. x.number) c.item.view_is) (ap (λ x. c.self.inside.octets + x.length) c.item.view_is) in
    let is = subst (λ v. IsStep v.level v.epoch item c.in_ok-step.step) c.self.view_is c.in_ok-step.ensures.step in
    taken_bounds c.args.self.now _ item c.in_ok-step.step (subst IsCutting c.self.view_is c.self.invariant) c.requires.said c.requires.rising c.requires.number c.requires.octets is t

pub returns-clause-represented : goal.returns-clause-represented
returns-clause-represented g c i rows s =
    (pushed_by c.args.self.now c.self.inside.walk c.step.new.self c.advance.new.self _ c.apply.new.self.given _ c.apply.new.self.gap _ c.apply.new.self.rows _ _ c.item.inside.number (c.self.inside.octets + c.item.inside.length) c.args.item.now c.in_ok-step.step c.args.out.now.items c.apply.new.out.items
    c.self.view_is (subst IsCutting c.self.view_is c.self.invariant) c.requires.rising c.requires.said c.in_ok-step.ensures.step c.in_ok-step.ensures.same c.advance.ensures c.in_ok-apply.ensures.rows c.in_ok-apply.ensures.gap c.in_ok-apply.ensures.count (ap (λ x. x.number) c.item.view_is) (ap (λ x. c.self.inside.octets + x.length) c.item.view_is) c.in_ok-apply.ensures.given).represented i rows s

pub returns-clause-given : goal.returns-clause-given
returns-clause-given g c i rows pieces s was =
    (pushed_by c.args.self.now c.self.inside.walk c.step.new.self c.advance.new.self _ c.apply.new.self.given _ c.apply.new.self.gap _ c.apply.new.self.rows _ _ c.item.inside.number (c.self.inside.octets + c.item.inside.length) c.args.item.now c.in_ok-step.step c.args.out.now.items c.apply.new.out.items
    c.self.view_is (subst IsCutting c.self.view_is c.self.invariant) c.requires.rising c.requires.said c.in_ok-step.ensures.step c.in_ok-step.ensures.same c.advance.ensures c.in_ok-apply.ensures.rows c.in_ok-apply.ensures.gap c.in_ok-apply.ensures.count (ap (λ x. x.number) c.item.view_is) (ap (λ x. c.self.inside.octets + x.length) c.item.view_is) c.in_ok-apply.ensures.given).given i rows pieces s was

pub returns-clause-appended : goal.returns-clause-appended
returns-clause-appended g c i rows s =
    (pushed_by c.args.self.now c.self.inside.walk c.step.new.self c.advance.new.self _ c.apply.new.self.given _ c.apply.new.self.gap _ c.apply.new.self.rows _ _ c.item.inside.number (c.self.inside.octets + c.item.inside.length) c.args.item.now c.in_ok-step.step c.args.out.now.items c.apply.new.out.items
    c.self.view_is (subst IsCutting c.self.view_is c.self.invariant) c.requires.rising c.requires.said c.in_ok-step.ensures.step c.in_ok-step.ensures.same c.advance.ensures c.in_ok-apply.ensures.rows c.in_ok-apply.ensures.gap c.in_ok-apply.ensures.count (ap (λ x. x.number) c.item.view_is) (ap (λ x. c.self.inside.octets + x.length) c.item.view_is) c.in_ok-apply.ensures.given).appended i rows s

pub overflow_add-self : goal.overflow_add-self
overflow_add-self g c =
    let few = c.requires.octets in
    omega (arith, few, ap (λ x. x.length) c.item.view_is, ap (λ v. v.octets) c.self.view_is)

pub returns-clause-counted : goal.returns-clause-counted
returns-clause-counted g c =
    (pushed_by c.args.self.now c.self.inside.walk c.step.new.self c.advance.new.self _ c.apply.new.self.given _ c.apply.new.self.gap _ c.apply.new.self.rows _ _ c.item.inside.number (c.self.inside.octets + c.item.inside.length) c.args.item.now c.in_ok-step.step c.args.out.now.items c.apply.new.out.items
    c.self.view_is (subst IsCutting c.self.view_is c.self.invariant) c.requires.rising c.requires.said c.in_ok-step.ensures.step c.in_ok-step.ensures.same c.advance.ensures c.in_ok-apply.ensures.rows c.in_ok-apply.ensures.gap c.in_ok-apply.ensures.count (ap (λ x. x.number) c.item.view_is) (ap (λ x. c.self.inside.octets + x.length) c.item.view_is) c.in_ok-apply.ensures.given).counted

pub apply-requires-clause-ids : goal.apply-requires-clause-ids
apply-requires-clause-ids g c = let ids = c.self.invariant.ids in omega (arith, ids)
