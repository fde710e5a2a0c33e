use Rattle.std.proofs.Common.{◌∷◌, ◌++◌, [], sym, subst}
use Rattle.line_model.specs.basics.Bounds.{IsPiece}
use Rattle.line_model.specs.packets.Says.{gap_item}
use Rattle.channel_run.specs.Live.{Represents as IsLive, with_item}
use Rattle.live_report.specs.OpenChannels.{begun_piece}
use Rattle.restart_epochs.proofs.GapRows.{last_pushed}
use Rattle.std.proofs.lemmas.Result.{IfOk-from_err}
use Rattle.live_report.proofs.open_channels.OpenChannel.step_over.Goals as goal

pub take-requires : goal.take-requires
take-requires g c =
    let room = c.requires.room in
    record { room = (begun_piece room.0 room.1 room.2, room.3.live, subst (λ item. IsPiece room.0.interface room.1 (room.2 ++ item ∷ [])) (sym c.gap_of_all.ensures) room.4) }

pub returns-clause-represented : goal.returns-clause-represented
returns-clause-represented g c e k items represented small =
    let p = begun_piece e k items in
    let gap = c.gap_of_all.ensures in
    record {
      live = subst (λ item. IsLive g.C.Channel.interface_of g.C.Channel.number_of g.C.Channel.represents c.take.new.self (with_item p item)) gap
          (c.in_ok-take.ensures.represented p represented.live (subst (λ item. IsPiece e.interface k (items ++ item ∷ [])) (sym gap) small));
      last = sym (last_pushed items (gap_item c.args.gap));
    }

pub returns-in_err-take-clause-represented : goal.returns-in_err-take-clause-represented
returns-in_err-take-clause-represented g c e k items represented small = IfOk-from_err _ _ c.from_residual.ensures.0
