use Rattle.std.proofs.Common.{◌≡◌, ◌+◌, ◌<◌, ◌++◌, length}
use Rattle.restart_epochs.specs.Cutting.{items_out, pieces_out}
use Rattle.restart_epochs.proofs.showing.copy_pieces.Given as goal

abbrev pub invariant-loop-channel : goal.invariant-loop-channel
invariant-loop-channel g l = record {
  ids : l.id + length l.channel-iterator < 4294967296;
  copied : l.pieces.items ++ pieces_out l.epoch.interface l.epoch.number l.epoch.start l.epoch.end (items_out l.epoch.gap l.epoch_rows) l.id l.channel-iterator
      ≡ pieces_out l.epoch.interface l.epoch.number l.epoch.start l.epoch.end (items_out l.epoch.gap l.epoch_rows) l.fn.first l.epoch_rows.channels;
}
