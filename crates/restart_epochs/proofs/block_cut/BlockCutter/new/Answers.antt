use Rattle.std.proofs.Common.{refl}
use Rattle.restart_epochs.proofs.BlockJoins.{cut_begun}
use Rattle.restart_epochs.proofs.block_cut.BlockCutter.new.Goals as goal

pub returns : goal.returns
returns g c = cut_begun c.args.machine _ (record {
  level = c.of_block.ensures.machine;
  epoch = c.of_block.ensures.epoch;
  packets = c.of_block.ensures.packets;
  gaps = c.of_block.ensures.gaps;
  octets = refl;
  findings = c.of_block.ensures.findings;
  ended = c.new.ensures.items;
  gap = refl;
  rows = c.emptied.ensures.rows;
  channels = c.emptied.ensures.channels;
})
