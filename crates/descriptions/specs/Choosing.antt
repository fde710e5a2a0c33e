-- Which rows are printed, line by line.
use Rattle.std.specs.Prelude.{◌≡◌, Bool, List, Option, None, Some, IfSome, length}
use Rattle.line_model.specs.declared.interface.Interface.{Interface}
use Rattle.line_model.specs.basics.Records.{Row}
use Rattle.line_model.specs.packets.Says.{items_of}
use Rattle.line_model.specs.text.Text.{Line, head_of, rows_in}
use Rattle.annotated_trace.specs.Rows.{asked_call, is_chosen_if, row_written}
use Rattle.annotated_trace.specs.declared.rows.Rows.{Rows}
use Rattle.descriptions.specs.CallRows.{Follows}
use Rattle.descriptions.specs.declared.chosen.Chosen.{Chosen}

-- it has judged the rows of these lines
pub record HasChosen (ls : List Line) (c : Chosen) : Type 0 where
  pub packets : c.packets ≡ length (rows_in ls)
  pub number : c.call.number ≡ asked_call c.rows
  pub call : (i : Interface) → IfSome (head_of ls) (λ j. j ≡ i) → Follows i (items_of i (rows_in ls)) c.call

-- whether a row is printed, where there is one
abbrev pub picked_where : Rows → Option Interface → (before : List Row) → Option Row → Option Bool
picked_where rows i before None = None
picked_where rows i before (Some r) = Some (is_chosen_if rows i before (Some r))

-- whether the row of the line after others is printed, where it writes one
abbrev pub picked_by_line : Chosen → (before : List Line) → Line → Option Bool
picked_by_line c before l = picked_where c.rows (head_of before) (rows_in before) (row_written before l)
