use Rattle.std.proofs.Common.{subst, sym}
use Rattle.std.proofs.lemmas.Result.{IfOk-weaker}
use Rattle.restart_epochs.specs.OpenRows.{with_gap}
use Rattle.channel_run.specs.Live.{Represents as IsLive}
use Rattle.live_report.specs.OpenChannels.{begun_piece, OpenFor}
use Rattle.live_report.proofs.open_channels.OpenChannel.end.Goals as goal

pub take_gap-requires : goal.take_gap-requires
take_gap-requires g c =
    let room = c.requires.room in
    record {
      room = (
        room.0,
        room.1,
        room.2,
        subst (λ x. OpenFor g.C.Channel.interface_of g.C.Channel.number_of g.C.Channel.represents x (begun_piece room.0 room.1 room.2)) (sym c.deref_mut.ensures.value) room.3,
        room.4,
      );
    }

pub end-requires : goal.end-requires
end-requires g c =
    let room = c.requires.room in
    let piece = begun_piece room.0 room.1 (with_gap c.args.gap room.2) in
    let represented = subst (λ x. OpenFor g.C.Channel.interface_of g.C.Channel.number_of g.C.Channel.represents x (begun_piece room.0 room.1 room.2)) (sym c.deref_mut.ensures.value) room.3 in
    record { represented = (piece, subst (λ x. IsLive g.C.Channel.interface_of g.C.Channel.number_of g.C.Channel.represents x.live piece) (sym c.into_inner.ensures) (c.in_ok-take_gap.ensures.represented room.0 room.1 room.2 represented room.4).live) }

pub returns-clause-value : goal.returns-clause-value
returns-clause-value g c =
    IfOk-weaker c.end.result _ _ (λ report value_is e k items represented small.
    value_is (begun_piece e k (with_gap c.args.gap items))
    (subst (λ x. IsLive g.C.Channel.interface_of g.C.Channel.number_of g.C.Channel.represents x.live (begun_piece e k (with_gap c.args.gap items))) (sym c.into_inner.ensures)
    (c.in_ok-take_gap.ensures.represented e k items
    (subst (λ x. OpenFor g.C.Channel.interface_of g.C.Channel.number_of g.C.Channel.represents x (begun_piece e k items)) (sym c.deref_mut.ensures.value) represented) small).live)) c.end.ensures.value
