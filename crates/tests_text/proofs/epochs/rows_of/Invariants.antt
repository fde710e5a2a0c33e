use Rattle.std.proofs.Common.{◌≤◌, ◌*◌}
use Rattle.line_model.specs.basics.Bounds.{AreRows}
use Rattle.line_model.specs.declared.interface.Interface.{Interface}
use Rattle.line_model.proofs.RowsSoFar.{RowsTo}
use Rattle.tests_text.proofs.epochs.rows_of.Given as goal

abbrev pub invariant-loop-side : goal.invariant-loop-side
invariant-loop-side g l = record {
  few : l.number ≤ 1000;
  rows : RowsTo l.number (l.number * 1000) l.rows.items;
  lawful : (i : Interface) → AreRows i l.rows.items;
}
