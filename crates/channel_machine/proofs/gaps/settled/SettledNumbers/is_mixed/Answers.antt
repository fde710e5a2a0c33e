use Rattle.std.proofs.Common.{◌∙◌, ap}
use Rattle.data_transfer.specs.Assembler.{begun_on}
use Rattle.data_transfer.specs.Assembly.{is_like}
use Rattle.line_model.specs.channels.GapStep.{may_be_begun}
use Rattle.line_model.specs.packets.Formats.{size_in_force}
use Rattle.channel_machine.specs.GapView.{InDoubt}
use Rattle.channel_machine.proofs.Sequencing.{mixed, not_mixed}
use Rattle.channel_machine.proofs.gaps.settled.SettledNumbers.is_mixed.Goals as goal

pub returns-then-is_known : goal.returns-then-is_known
returns-then-is_known g c i k p same ss =
    let s : InDoubt = c.args.self.now in
    let x = c.args.side in
    mixed c.is_alike.result c.is_known.result s x c.args.qualified p (may_be_begun s.doubts.hidden (size_in_force i k x) x k.accepted) c.is_known.ensures c.if-is_known.true (ss x) same
    (c.is_alike.ensures ∙ ap (λ (t : InDoubt). is_like (begun_on t.assembler x).qualified c.args.qualified) c.self.view_is)

pub returns-else-is_known : goal.returns-else-is_known
returns-else-is_known g c i k p same ss =
    let s : InDoubt = c.args.self.now in
    let x = c.args.side in
    not_mixed c.is_known.result s x p (may_be_begun s.doubts.hidden (size_in_force i k x) x k.accepted) c.is_known.ensures c.if-is_known.false
