use Rattle.std.proofs.Common.{◌<◌, ◌≤◌, sym, subst}
use Rattle.std.specs.Prelude.{OnOk}
use Rattle.line_model.specs.basics.Bounds.{IsPiece}
use Rattle.live_report.specs.OpenChannels.{IsOpenFor}
use Rattle.restart_epochs.proofs.GapRows.{no_gap, one_gap}
use Rattle.live_report.proofs.open_channels.OpenChannel.take_gap.Goals as goal

pub step_over-requires : goal.step_over-requires
step_over-requires g c =
    let room = c.requires.room in
    let there = one_gap c.args.gap room.2 (subst (λ n. n < c.args.gap) room.3.last c.if-self-gap.true) in
    record { room = (room.0, room.1, room.2, room.3, subst (IsPiece room.0.interface room.1) there room.4) }

pub returns-then-self-gap-clause-represented : goal.returns-then-self-gap-clause-represented
returns-then-self-gap-clause-represented g c e k items represented small =
    let there = one_gap c.args.gap items (subst (λ n. n < c.args.gap) represented.last c.if-self-gap.true) in
    subst (λ rows. OnOk c.step_over.result (IsOpenFor g.C.Channel e k rows c.step_over.new.self)) (sym there) (c.step_over.ensures.represented e k items represented (subst (IsPiece e.interface k) there small))

pub returns-clause-represented : goal.returns-clause-represented
returns-clause-represented g c e k items represented small =
    subst (λ rows. IsOpenFor g.C.Channel e k rows c.args.self.now) (sym (no_gap c.args.gap items (subst (λ n. c.args.gap ≤ n) represented.last c.if-self-gap.false))) represented
