use Rattle.std.proofs.Common.{◌∙◌, ◌++◌, ◌∷◌, [], ap, refl, sym}
use Rattle.restart_epochs.specs.OpenRows.{with_gap}
use Rattle.live_report.specs.OpenChannels.{begun_piece}
use Rattle.restart_epochs.proofs.GapRows.{last_pushed}
use Rattle.std.proofs.lemmas.Result.{IfOk-from_err}
use Rattle.live_report.proofs.open_channels.OpenChannel.step.Goals as goal

pub take_gap-requires : goal.take_gap-requires
take_gap-requires g c =
    let room = c.requires.room in
    record { room = (room.0, c.args.channel, room.1, room.2, room.3) }

pub take-requires : goal.take-requires
take-requires g c =
    let room = c.requires.room in
    let p = begun_piece room.0 c.args.channel (with_gap c.args.gap room.1) in
    record { room = (p, (c.in_ok-take_gap.ensures.represented room.0 c.args.channel room.1 room.2 room.3).live, room.4) }

pub returns-clause-represented : goal.returns-clause-represented
returns-clause-represented g c e items represented small more =
    let all = with_gap c.args.gap items in
    let caught = c.in_ok-take_gap.ensures.represented e c.args.channel items represented small in
    record {
      live = c.in_ok-taken.ensures.represented (begun_piece e c.args.channel all) caught.live more;
      last = ap (λ x. x.number) c.item.view_is ∙ sym (last_pushed all c.args.item.now);
    }

pub returns-clause-judge : goal.returns-clause-judge
returns-clause-judge g c e items represented small more =
    let k = c.args.channel in
    let all = with_gap c.args.gap items in
    let p = begun_piece e k all in
    let caught = c.in_ok-take_gap.ensures.represented e k items represented small in (
      refl,
      c.word-before.ensures p caught.live,
      c.word-after.ensures (begun_piece e k (all ++ c.args.item.now ∷ [])) (c.in_ok-taken.ensures.represented p caught.live more),
    )

pub returns-clause-finding : goal.returns-clause-finding
returns-clause-finding g c e items represented small =
    c.in_ok-taken.ensures.finding (begun_piece e c.args.channel (with_gap c.args.gap items)) (c.in_ok-take_gap.ensures.represented e c.args.channel items represented small).live

pub returns-clause-events : goal.returns-clause-events
returns-clause-events g c e items represented small =
    c.in_ok-taken.ensures.events (begun_piece e c.args.channel (with_gap c.args.gap items)) (c.in_ok-take_gap.ensures.represented e c.args.channel items represented small).live

pub returns-in_err-take_gap-clause-represented : goal.returns-in_err-take_gap-clause-represented
returns-in_err-take_gap-clause-represented g c e items represented small more = IfOk-from_err _ _ c.from_residual.ensures.0

pub returns-in_err-take_gap-clause-judge : goal.returns-in_err-take_gap-clause-judge
returns-in_err-take_gap-clause-judge g c e items represented small more = IfOk-from_err _ _ c.from_residual.ensures.0

pub returns-in_err-take_gap-clause-finding : goal.returns-in_err-take_gap-clause-finding
returns-in_err-take_gap-clause-finding g c e items represented small = IfOk-from_err _ _ c.from_residual.ensures.0

pub returns-in_err-take_gap-clause-events : goal.returns-in_err-take_gap-clause-events
returns-in_err-take_gap-clause-events g c e items represented small = IfOk-from_err _ _ c.from_residual.ensures.0

pub returns-in_err-taken-clause-represented : goal.returns-in_err-taken-clause-represented
returns-in_err-taken-clause-represented g c e items represented small more = IfOk-from_err _ _ c.from_residual-in_err-taken.ensures.0

pub returns-in_err-taken-clause-judge : goal.returns-in_err-taken-clause-judge
returns-in_err-taken-clause-judge g c e items represented small more = IfOk-from_err _ _ c.from_residual-in_err-taken.ensures.0

pub returns-in_err-taken-clause-finding : goal.returns-in_err-taken-clause-finding
returns-in_err-taken-clause-finding g c e items represented small = IfOk-from_err _ _ c.from_residual-in_err-taken.ensures.0

pub returns-in_err-taken-clause-events : goal.returns-in_err-taken-clause-events
returns-in_err-taken-clause-events g c e items represented small = IfOk-from_err _ _ c.from_residual-in_err-taken.ensures.0
