use Rattle.std.proofs.Common.{◌≡◌, ◌∙◌, ◌++◌, ◌∷◌, [], refl, ap, sym, subst, append_assoc, append-nil, rules}
use Rattle.line_model.specs.basics.Bounds.{IsPiece}
use Rattle.line_model.specs.basics.Records.{Piece}
use Rattle.line_model.specs.pieces.Plans.{result_of}
use Rattle.channel_run.proofs.LiveLemmas.{next_item}
use Rattle.channel_run.proofs.run.run_piece.Goals as goal

pub loop-item-init : goal.loop-item-init
loop-item-init g c =
    let is = c.piece.view_is in
    record {
      represented = c.in_ok-live.ensures.represented (record c.args.piece.now { items = [] }) (sym (ap (λ v. v.interface) is)) (sym (ap (λ v. v.channel) is)) (sym (ap (λ v. v.epoch) is)) (sym (ap (λ v. v.start) is)) refl;
      left = sym c.rows-item-items.ensures ∙ sym c.into_iter-item-iterator.ensures.into_iter_gives;
    }

pub take-requires : goal.take-requires
take-requires g c =
    let p = c.args.piece.now in
    let whole : IsPiece p.interface p.channel p.items = subst (λ q. IsPiece q.interface q.channel q.items) c.piece.view_is c.piece.invariant in
    let room = next_item p.interface p.channel p.items c.loop-item.yielded _ c.next.new.self c.in-Some.item whole c.loop-item.invariant.left c.in-Some.ensures.steps in
    record { room = (record p { items = c.loop-item.yielded }, c.loop-item.invariant.represented, room) }

pub loop-item-preserved : goal.loop-item-preserved
loop-item-preserved g c =
    let p = c.args.piece.now in
    let whole : IsPiece p.interface p.channel p.items = subst (λ q. IsPiece q.interface q.channel q.items) c.piece.view_is c.piece.invariant in
    let room = next_item p.interface p.channel p.items c.loop-item.yielded _ c.next.new.self c.in-Some.item whole c.loop-item.invariant.left c.in-Some.ensures.steps in
    record {
      represented = c.in_ok-take.ensures.represented (record p { items = c.loop-item.yielded }) c.loop-item.invariant.represented room;
      left = c.loop-item.invariant.left ∙ ap (λ l. c.loop-item.yielded ++ l) c.in-Some.ensures.steps ∙ sym (append_assoc c.loop-item.yielded (c.in-Some.item ∷ []) c.next.new.self);
    }

pub returns-clause-value : goal.returns-clause-value
returns-clause-value g c =
    let p : Piece = c.args.piece.now in
    let s = c.piece.inside in
    let is = c.piece.view_is in
    let rows = c.loop-item.yielded in
    let done : c.loop-item.item-iterator ≡ [] = search rules in
    let all : p.items ≡ rows = c.loop-item.invariant.left ∙ ap (λ l. rows ++ l) done ∙ append-nil rows in
    let same : record p { items = rows; id = s.id; end = s.end } ≡ p =
    ap (λ l. record p { items = l; id = s.id; end = s.end }) (sym all) ∙ ap (λ n. record p { id = n; end = s.end }) (ap (λ v. v.id) is) ∙ ap (λ e. record p { end = e }) (ap (λ v. v.end) is) in
    c.in_ok-report.ensures.value (record p { items = rows }) c.loop-item.invariant.represented ∙ ap result_of same
