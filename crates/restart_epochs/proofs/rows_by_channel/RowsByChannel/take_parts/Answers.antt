use Rattle.std.proofs.Common.{subst, sym}
use Rattle.std.specs.Prelude.{OnOk, IfOk}
use Rattle.restart_epochs.proofs.rows_by_channel.RowsByChannel.take_parts.Goals as goal

pub invariant_of-self : goal.invariant_of-self
invariant_of-self g c = c.take_parts.ensures.others
