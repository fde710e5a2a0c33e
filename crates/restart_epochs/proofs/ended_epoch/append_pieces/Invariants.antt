use Rattle.std.proofs.Common.{◌+◌, ◌<◌, ◌≤◌, length}
use Rattle.std.specs.Vec.{vec_len, vec_capacity}
use Rattle.restart_epochs.proofs.GivenOut.{Giving}
use Rattle.restart_epochs.proofs.ended_epoch.append_pieces.Given as goal

abbrev pub invariant-loop-channel : goal.invariant-loop-channel
invariant-loop-channel g l = record {
  room : vec_len l.out + length l.epoch_rows.channels ≤ vec_capacity l.out;
  ids : l.id + length l.epoch_rows.channels < 4294967296;
  given : Giving l.epoch.interface l.epoch.number l.epoch.start l.epoch.end l.epoch.gap l.fn.first l.fn.epoch_rows l.fn.out.items l.id l.epoch_rows l.out.items;
}

abbrev pub decreases-loop-channel : goal.decreases-loop-channel
decreases-loop-channel g l = length l.epoch_rows.channels
