-- The rows of the items that are left, behind those so far, are those of all.
use Rattle.std.proofs.Common.{◌≡◌, drop}
use Rattle.capture_report.specs.CircuitChannels.{channel_of}
use Rattle.capture_report.specs.CircuitRows.{item_rows, printed}
use Rattle.capture_report.proofs.circuit_page.CircuitPage.print_all.Given as goal

abbrev pub invariant-loop-index : goal.invariant-loop-index
invariant-loop-index l = printed (item_rows l.self.rule (channel_of l.self.channels) (drop l.index l.batch)) l.self ≡ printed (item_rows l.fn.self.rule (channel_of l.fn.self.channels) l.batch) l.fn.self
