use Rattle.std.proofs.Common.{◌∙◌, ap, sym, subst, ◌+◌, ◌++◌, ◌∷◌, [], length, arith}
use Rattle.line_model.specs.basics.Bounds.{IsPiece}
use Rattle.restart_epochs.specs.OpenRows.{with_gap, IsTakenOut}
use Rattle.restart_epochs.proofs.GivenOut.{Giving, giving_none, giving_more, first_rows}
use Rattle.restart_epochs.proofs.ended_epoch.append_pieces.Goals as goal

pub loop-channel-init : goal.loop-channel-init
loop-channel-init g c = record {
  room = c.requires.room;
  ids = c.requires.ids;
  given = giving_none c.args.epoch.interface c.args.epoch.number c.args.epoch.start c.args.epoch.end c.args.epoch.gap c.args.first c.args.epoch_rows.now c.args.out.now.items;
}

pub into_piece-requires : goal.into_piece-requires
into_piece-requires g c =
    let e = c.args.epoch in
    let taken : IsTakenOut c.in-Some.channel c.in-Some.open_channel c.loop-channel.epoch_rows c.take_first.new.rows = c.in-Some.ensures in
    record { piece = subst (λ rows. IsPiece e.interface c.in-Some.channel (with_gap e.gap rows)) (sym (first_rows _ _ _ _ _ _ _ _ _ _ _ _ c.in-Some.channel c.in-Some.open_channel c.loop-channel.invariant.given taken)) (c.requires.pieces c.in-Some.channel) }

pub loop-channel-preserved : goal.loop-channel-preserved
loop-channel-preserved g c =
    let taken : IsTakenOut c.in-Some.channel c.in-Some.open_channel c.loop-channel.epoch_rows c.take_first.new.rows = c.in-Some.ensures in
    let one = ap (λ ks. length ks) taken.channels in
    let room = c.loop-channel.invariant.room in
    let ids = c.loop-channel.invariant.ids in
    record {
      room = omega (arith, one, room, c.push_reserved.ensures.len, c.push_reserved.ensures.capacity);
      ids = omega (arith, one, ids);
      given = subst (Giving c.args.epoch.interface c.args.epoch.number c.args.epoch.start c.args.epoch.end c.args.epoch.gap c.args.first c.args.epoch_rows.now c.args.out.now.items (c.loop-channel.id + 1) c.take_first.new.rows) (sym (c.push_reserved.ensures.items ∙ ap (λ p. c.loop-channel.out.items ++ p ∷ []) c.into_piece.ensures))
          (giving_more c.args.epoch.interface c.args.epoch.number c.args.epoch.start c.args.epoch.end c.args.epoch.gap c.args.first c.args.epoch_rows.now c.args.out.now.items c.loop-channel.id c.loop-channel.epoch_rows c.take_first.new.rows c.loop-channel.out.items c.in-Some.channel c.in-Some.open_channel c.loop-channel.invariant.given taken);
    }
