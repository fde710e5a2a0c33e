use Rattle.std.proofs.Common.{◌≡◌, ◌++◌, drop}
use Rattle.std.specs.Prelude.{map}
use Rattle.explanations.specs.Table.{rows}
use Rattle.json_lines.specs.Shown.{field_shown}
use Rattle.command_line.specs.Pasted.{field_rows}
use Rattle.command_line.proofs.pasted.push_fields.Given as goal

abbrev pub invariant-loop-field : goal.invariant-loop-field
invariant-loop-field l =
    l.found.items ++ field_rows (map field_shown (drop l.field-index l.fn.fields)) l.words (rows l.fn.table)
    ≡ l.fn.found.items ++ field_rows (map field_shown l.fn.fields) l.fn.words (rows l.fn.table)
