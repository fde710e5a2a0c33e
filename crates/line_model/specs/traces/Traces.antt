-- What is said of a whole trace text.
use Rattle.std.specs.Prelude.{◌≡◌, ℕ, zero, suc, List, [], ◌∷◌, ◌++◌, Some, None}
use Rattle.line_model.specs.declared.totals.Summary.{Summary}
use Rattle.line_model.specs.basics.Records.{Piece}
use Rattle.line_model.specs.text.Text.{fault, head, rows}
use Rattle.line_model.specs.packets.Says.{items_of}
use Rattle.line_model.specs.observer.Report.{report_of, report, no_summary}
use Rattle.line_model.specs.pieces.Plans.{plan}

-- the report of an input, nothing where it has no header
abbrev pub trace_report : List ℕ → List ℕ
trace_report x = elim (head x) [ None ↦ [] | Some i ↦ report i (items_of i (rows x)) ]

-- its last line as numbers
abbrev pub trace_summary : List ℕ → Summary
trace_summary x = elim (head x) [ None ↦ no_summary | Some i ↦ (report_of i (items_of i (rows x))).summary ]

-- its pieces
abbrev pub trace_plan : List ℕ → List Piece
trace_plan x = elim (head x) [ None ↦ [] | Some i ↦ plan i (items_of i (rows x)) ]

-- the input has no fault, and this is its report
pub record IsReported (x bytes : List ℕ) : Type 0 where
  pub sound : fault x ≡ None
  pub report : trace_report x ≡ bytes

-- lines, each with its line feed
abbrev pub text : List (List ℕ) → List ℕ
text [] = []
text (l ∷ ls) = l ++ 10 ∷ text ls

-- some bytes, repeated
abbrev pub repeated : ℕ → List ℕ → List ℕ
repeated zero xs = []
repeated (suc n) xs = xs ++ repeated n xs
