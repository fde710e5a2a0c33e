use Rattle.std.proofs.Common.{◌∙◌}
use Rattle.line_model.specs.pieces.Plans.{plan}
use Rattle.line_model.proofs.BookTotals.{totals_law, numbers_law}
use Rattle.line_model.proofs.Schedules.{always_prefix, always_once, always_posted, always_totals}
use Rattle.shared_work.proofs.queue.laws.schedule.Goals as goal

pub returns : goal.returns
returns c = record {
  prefix = always_prefix;
  once = always_once;
  posted = always_posted;
  totals = always_totals;
  observer = λ i rs capacity moves s said leads settled whole. always_totals (plan i rs) capacity moves s (numbers_law i rs) leads settled whole ∙ totals_law i rs said;
}
