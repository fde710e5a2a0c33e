-- What an observer of a trace returns: what its rows found, and its report.
use Rattle.std.specs.Prelude.{◌≡◌, ℕ, List, [], Some, None}
use Rattle.line_model.specs.basics.Records.{Report}
use Rattle.line_model.specs.observer.Report.{report_of}
use Rattle.line_model.specs.packets.Says.{items_of}
use Rattle.line_model.specs.text.Text.{Line, fault, head, head_of, rows, rows_in}
use Rattle.line_model.specs.declared.finding.Finding.{Finding}
use Rattle.line_model.specs.declared.interface.Interface.{Interface}

-- the findings of the rows that some lines write, none without a header
abbrev pub found_in : List Line → List Finding
found_in ls = elim (head_of ls) [ None ↦ [] | Some i ↦ (report_of i (items_of i (rows_in ls))).findings ]

-- a text without a fault, and its report
pub record IsReportOf (x : List ℕ) (r : Report) : Type 0 where
  pub sound : fault x ≡ None
  pub interface : Interface
  pub header : head x ≡ Some interface
  pub report : r ≡ report_of interface (items_of interface (rows x))
