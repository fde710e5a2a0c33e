-- Its circuit may begin, it may be a row, and its circuit may end.
use Rattle.std.proofs.Common.{option_map}
use Rattle.xot_circuits.specs.Items.{item_view}
use Rattle.capture_report.specs.CircuitRows.{circuit_row_view}
use Rattle.capture_report.specs.CircuitSights.{sight_in}
use Rattle.capture_report.proofs.CircuitLemmas.{seen_item}
use Rattle.capture_report.proofs.circuits.Circuits.see_item.Goals as goal

pub returns-clause-seen : goal.returns-clause-seen
returns-clause-seen c =
    seen_item c.end.result (item_view c.args.item.now) (option_map circuit_row_view c.row_of-row.result) (sight_in c.args.self.now) (sight_in c.join.new.self) (sight_in c.see_row.new.self) (sight_in c.end.new.self)
    c.in_ok-join.ensures c.row_of-row.ensures.row c.in_ok-see_row.ensures c.end.ensures
