use Rattle.std.proofs.Common.{◌∙◌, ap, refl, sym, subst}
use Rattle.std.specs.Prelude.{All}
use Rattle.std.proofs.lemmas.List.Elements.{All-head, All-rest}
use Rattle.line_model.specs.basics.Bounds.{IsItem, IsPiece}
use Rattle.tests_reports.proofs.channels.step_through.Goals as goal

pub loop-item-init : goal.loop-item-init
loop-item-init g c =
    let p = c.args.piece.now in
    let is = c.piece.view_is in
    let whole : IsPiece p.interface p.channel p.items = subst (λ q. IsPiece q.interface q.channel q.items) is c.piece.invariant in
    record {
      interface = c.fresh-channel.ensures.interface ∙ ap (λ v. v.interface) is;
      number = c.fresh-channel.ensures.number ∙ ap (λ v. v.channel) is;
      represented = (_, c.fresh-channel.ensures.represented);
      left = subst (All (IsItem p.interface p.channel)) (sym (c.into_iter-item-iterator.ensures.into_iter_gives ∙ c.rows-item-items.ensures)) whole.packets;
    }

pub step-requires : goal.step-requires
step-requires g c =
    let p = c.args.piece.now in
    let first : IsItem p.interface p.channel c.in-Some.item =
    All-head (IsItem p.interface p.channel) c.in-Some.item c.next.new.self (subst (All (IsItem p.interface p.channel)) c.in-Some.ensures.steps c.loop-item.invariant.left) in
    let own = subst (λ n. IsItem p.interface n c.in-Some.item) (sym c.loop-item.invariant.number) first in
    let is = subst (λ x. IsItem x (g.C.Channel.number_of c.loop-item.channel) c.in-Some.item) (sym c.loop-item.invariant.interface) own in
    λ k. ((refl, tt), is)

pub loop-item-preserved : goal.loop-item-preserved
loop-item-preserved g c =
    let p = c.args.piece.now in
    let known = c.loop-item.invariant.represented in
    record {
      interface = c.in_ok-step.ensures.interface known.0 known.1 ∙ c.loop-item.invariant.interface;
      number = c.in_ok-step.ensures.number known.0 known.1 ∙ c.loop-item.invariant.number;
      represented = c.in_ok-step.ensures.represented known.0 known.1;
      left = All-rest (IsItem p.interface p.channel) c.in-Some.item c.next.new.self c.loop-item.item-iterator c.in-Some.ensures.steps c.loop-item.invariant.left;
    }
