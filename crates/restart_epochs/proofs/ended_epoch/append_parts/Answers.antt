use Rattle.std.proofs.Common.{◌≡◌, ◌∙◌, sym, ap, subst, ◌+◌, ◌<◌, ◌++◌, ◌∷◌, [], List, length, arith, append-nil}
use Rattle.std.proofs.lemmas.List.{nil_from_length}
use Rattle.std.specs.List.{AllByRecursion}
use Rattle.std.specs.Vec.Iter.{into_iter_items}
use Rattle.line_model.specs.basics.Bounds.{IsPiece}
use Rattle.restart_epochs.specs.BlockCuts.{ChannelRows, part_pieces}
use Rattle.restart_epochs.specs.OpenRows.{with_gap}
use Rattle.restart_epochs.proofs.EndedEpochs.{part_given}
use Rattle.restart_epochs.proofs.ended_epoch.append_parts.Goals as goal

pub loop-part-init : goal.loop-part-init
loop-part-init g c =
    let given = sym c.into_iter-part-iterator.ensures.into_iter_gives.0 in
    let e = c.args.epoch in
    record {
      ids = subst (λ (ps : List ChannelRows). c.args.first + length ps < 4294967296) given c.requires.ids;
      pieces = subst (AllByRecursion (λ p. IsPiece e.interface p.channel (with_gap e.gap p.items))) given c.requires.pieces;
      given = ap (λ ps. c.args.out.now.items ++ part_pieces e.interface e.number e.start e.end e.gap c.args.first ps) (sym given);
    }

pub overflow_add-next : goal.overflow_add-next
overflow_add-next g c =
    let ids = c.loop-part.invariant.ids in
    let one = ap (λ (ps : List ChannelRows). length ps) c.in-Some.ensures.steps.0 in
    omega (arith, ids, one)

pub into_piece-requires : goal.into_piece-requires
into_piece-requires g c =
    let e = c.args.epoch in
    let fits = (subst (AllByRecursion (λ p. IsPiece e.interface p.channel (with_gap e.gap p.items))) c.in-Some.ensures.steps.0 c.loop-part.invariant.pieces).0 in
    let view : c.part.inside.channel ≡ c.in-Some.part.channel = ap (λ p. p.channel) c.part.view_is in
    record { piece = subst (λ k. IsPiece e.interface k (with_gap e.gap c.of.result)) (sym view) (subst (λ rows. IsPiece e.interface c.in-Some.part.channel (with_gap e.gap rows)) (sym c.of.ensures) fits) }

pub loop-part-preserved : goal.loop-part-preserved
loop-part-preserved g c =
    let e = c.args.epoch in
    let inv = c.loop-part.invariant in
    let ids = inv.ids in
    let steps = c.in-Some.ensures.steps.0 in
    let one = ap (λ (ps : List ChannelRows). length ps) steps in
    record {
      ids = omega (arith, ids, one);
      pieces = (subst (AllByRecursion (λ p. IsPiece e.interface p.channel (with_gap e.gap p.items))) steps inv.pieces).1;
      given = part_given e.interface e.number e.start e.end e.gap c.loop-part.next c.in-Some.part _ _ c.loop-part.out.items c.push.new.self.items _ c.part.inside.channel c.of.result steps (ap (λ p. p.channel) c.part.view_is) c.of.ensures
          (c.in_ok-push.ensures.items ∙ ap (λ p. c.loop-part.out.items ++ p ∷ []) c.into_piece.ensures) inv.given;
    }

pub returns : goal.returns
returns g c =
    let e = c.args.epoch in
    let empty = nil_from_length (into_iter_items c.loop-part.part-iterator) (sym c.loop-part.part-iterator.rest.ok.0 ∙ c.in-None.ensures.steps.0) in
    sym (append-nil c.loop-part.out.items) ∙ ap (λ ps. c.loop-part.out.items ++ part_pieces e.interface e.number e.start e.end e.gap c.loop-part.next ps) (sym empty) ∙ c.loop-part.invariant.given
