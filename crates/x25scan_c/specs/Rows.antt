-- The objects of the rows of a trace, as they come.
use Rattle.std.specs.Prelude.{◌≡◌, ℕ, List, [], ◌++◌, Option, Some, None}
use Rattle.annotated_trace.specs.Printed.{HasAppended, IsPrintOf}
use Rattle.annotated_trace.specs.Printers.{IsPrinted, WasFed as WasPrinted}
use Rattle.annotated_trace.specs.declared.rows.Rows.TheVariants.{All}
use Rattle.channel_run.specs.declared.run.Channel.{Ghosts as Machine}
use Rattle.descriptions.specs.Choosing.{HasChosen}
use Rattle.descriptions.specs.RowObjects.{IsClosing, IsLineObject, KeepsPast}
use Rattle.descriptions.specs.declared.row_objects.RowObjects.{RowObjects}
use Rattle.line_model.specs.declared.fault.Fault.{Fault}
use Rattle.line_model.specs.declared.fault.Fault.TheVariants.{Trace}
use Rattle.line_model.specs.declared.totals.Summary.{Summary}
use Rattle.line_model.specs.text.Text.{Line, ended_lines, good_lines}
use Rattle.live_report.specs.Lives.{KeepsRowsOf}
use Rattle.live_report.specs.declared.live.Live.{Live}
use Rattle.x25scan_c.specs.declared.row_reading.RowReading.{RowReading}

-- an observer was fed a text, and the objects of its rows were printed
abbrev pub HasFollowed : {A C : Type 0} → Machine C A → Live A C → RowObjects A → (text : List ℕ) → Type 0
HasFollowed m live objects text = KeepsRowsOf m text live × (HasChosen (ended_lines text) objects.chosen × KeepsPast (ended_lines text) objects.past.origins) × (objects.chosen.rows ≡ All)

-- the rows of this text were printed, none of them is held back, and none of the text was refused
abbrev pub HasPrintedRows : {A C : Type 0} → Machine C A → List ℕ → RowReading A C → Type 0
HasPrintedRows m text rows = WasPrinted (HasFollowed m) rows.printer text × (rows.printer.held.items ≡ []) × (rows.refused ≡ None)

-- the same of some text, or it refused
abbrev pub IsPrintingRows : {A C : Type 0} → Machine C A → RowReading A C → Type 0
IsPrintingRows m rows = rows.refused ≡ None → (text : List ℕ) × HasPrintedRows m text rows

-- bytes are the objects of the rows that some lines write, one after the other
abbrev pub AreRowObjects : List Line → List ℕ → Type 0
AreRowObjects ls bytes = IsPrintOf (IsLineObject All) [] ls bytes

-- more waits: whatever are the objects of some lines are with it those of others
abbrev pub AddsRows : (ls ls_after : List Line) → (waits waits_after : List ℕ) → Type 0
AddsRows ls ls_after waits waits_after = (gone : List ℕ) → AreRowObjects ls gone → HasAppended (λ more. AreRowObjects ls_after (gone ++ more)) waits waits_after

-- where a line is faulty: those of the lines before it
abbrev pub AddsRowsBefore : (ls ls_after : List Line) → (waits waits_after : List ℕ) → Fault → Type 0
AddsRowsBefore ls ls_after waits waits_after (Trace line kind) = AddsRows ls (good_lines (Some (line, kind)) ls_after) waits waits_after
AddsRowsBefore ls ls_after waits waits_after _ = Unit {0}

-- more waits at the end of a text: after the objects of the lines that had ended, all that is printed of the text
abbrev pub EndsRows : (text : List ℕ) → (waits waits_after : Option (List ℕ)) → Type 0
EndsRows text waits waits_after = (gone : List ℕ) → AreRowObjects (ended_lines text) gone
    → (sums : Summary) × IsPrinted (λ ls bytes. AreRowObjects ls (gone ++ bytes)) (λ ls report bytes. IsClosing report bytes) text waits waits_after sums
