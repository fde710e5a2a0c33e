use Rattle.std.proofs.Common.{◌≡◌, ◌++◌}
use Rattle.std.specs.List.{flat_map}
use Rattle.restart_epochs.specs.OpenRows.{rows_of}
use Rattle.restart_epochs.proofs.block_rows.all_rows.Given as goal

abbrev pub invariant-loop-channel : goal.invariant-loop-channel
invariant-loop-channel g l = l.rows ++ flat_map (rows_of l.table) l.channel-iterator ≡ flat_map (rows_of l.table) l.table.channels
