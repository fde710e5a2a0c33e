use Rattle.std.proofs.Common.{◌∙◌, ap}
use Rattle.restart_epochs.specs.BlockCuts.{rows_on}
use Rattle.restart_epochs.proofs.block_cut.BlockCutter.end.Goals as goal

pub returns : goal.returns
returns g c l items apart = record {
  rows = c.args.self.rows;
  parts = c.in_ok-tail.ensures.parts;
  tail = λ k. ap (rows_on k) c.in_ok-tail.ensures.parts ∙ c.in_ok-tail.ensures.out.parts k;
  cut = apart;
}
