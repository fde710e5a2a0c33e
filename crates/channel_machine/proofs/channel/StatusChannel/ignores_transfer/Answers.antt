use Rattle.std.proofs.Common.{◌∙◌, ap}
use Rattle.std.specs.Prelude.{not, ◌||◌}
use Rattle.line_model.specs.channels.Channels.{other}
use Rattle.line_model.specs.channels.GapStep.{is_resetting}
use Rattle.channel_machine.proofs.channel.StatusChannel.ignores_transfer.Goals as goal

pub returns-then-is_in_use : goal.returns-then-is_in_use
returns-then-is_in_use g c k s =
    c.is_resetting.ensures k s ∙ ap (λ x. is_resetting x k.state) c.other.ensures ∙ ap (λ u. not u || is_resetting (other c.args.side) k.state) (c.if-is_in_use.ensures k s)

pub returns-else-is_in_use : goal.returns-else-is_in_use
returns-else-is_in_use g c k s = ap (λ u. not u || is_resetting (other c.args.side) k.state) (c.if-is_in_use.ensures k s)
