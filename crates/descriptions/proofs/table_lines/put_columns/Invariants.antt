use Rattle.std.proofs.Common.{flat_map, take}
use Rattle.descriptions.specs.CallTable.{column_text}
use Rattle.descriptions.specs.Writing.{Adds, These}
use Rattle.descriptions.proofs.table_lines.put_columns.Given as goal

abbrev pub invariant-loop-column : goal.invariant-loop-column
invariant-loop-column g l = Adds g.O.Out.has (These (flat_map (column_text l.form) (take l.column-index l.columns))) l.fn.json.out l.json.out
