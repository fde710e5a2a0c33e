use Rattle.std.specs.List.{flat_map}
use Rattle.restart_epochs.specs.OpenRows.{rows_of}
use Rattle.restart_epochs.proofs.SharedParts.{rows_more}
use Rattle.restart_epochs.proofs.block_rows.all_rows.Goals as goal

pub loop-channel-preserved : goal.loop-channel-preserved
loop-channel-preserved g c =
    rows_more (rows_of c.args.table.now) c.loop-channel.rows c.append_rows.new.rows (flat_map (rows_of c.args.table.now) c.args.table.now.channels) c.in-Some.channel.now c.loop-channel.channel-iterator c.next.new.self
    c.in_ok-append_rows.ensures c.in-Some.ensures.steps c.loop-channel.invariant
