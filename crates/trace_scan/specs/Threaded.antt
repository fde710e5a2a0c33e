-- What a scan with workers returns.
use Rattle.std.specs.Prelude.{◌≡◌, ℕ, List, [], All, map, Option, Some, None}
use Rattle.line_model.specs.declared.fault.Fault.{Fault}
use Rattle.line_model.specs.declared.fault.Fault.TheVariants.{Memory, Trace, Read, Write, Start}
use Rattle.line_model.specs.basics.Records.{Piece, PieceReport}
use Rattle.line_model.specs.work.Book.{KnownPlan}
use Rattle.line_model.specs.packets.Says.{items_of}
use Rattle.line_model.specs.pieces.Plans.{channel_totals, result_of}
use Rattle.line_model.specs.traces.Traces.{trace_plan}
use Rattle.line_model.specs.text.Text.{head, rows}
use Rattle.line_model.specs.declared.totals.Totals.{Totals}
use Rattle.workers.specs.Gathers.{IsWhole}
use Rattle.workers.specs.Vouching.{IsRunOfOne}
use Rattle.trace_text.specs.Sources.{IsRefusedBy}
use Rattle.trace_reading.specs.Readings.{IsReadOf, in_flight}
use Rattle.trace_scan.specs.declared.threaded.ScanParts.{ScanParts}
use Rattle.trace_text.specs.Refusals.{IsRefusal}

-- the totals over the channels of a text, those of nothing where it has no header
abbrev pub trace_totals : List ℕ → Totals
trace_totals x = elim (head x) [ None ↦ record { posts = 0; findings = 0; octets = 0; segments = 0 } | Some i ↦ channel_totals i (items_of i (rows x)) ]

-- these pieces were fed, those of a text that was read, which is the text that the source shows, if it shows one; each piece was run and
-- posted once
pub record AreScanParts {A : Type 0} (plan : KnownPlan) (ran : Piece → PieceReport → Type 0) (workers : ℕ) (before after asked : Option (List ℕ)) (t : ScanParts A) : Type 0 where
  pub fed : List Piece
  pub whole : IsWhole plan ran workers fed t.gathered
  pub shown : (text : List ℕ) → before ≡ Some text → IsReadOf text fed t.read × (after ≡ Some []) × (asked ≡ Some [])
  pub of_text : (text : List ℕ) × IsReadOf text fed t.read

-- each report of the text's pieces was made in this way
abbrev pub AreRuns : (ran : Piece → PieceReport → Type 0) → List ℕ → Type 0
AreRuns ran text = All (IsRunOfOne ran (trace_plan text)) (map result_of (trace_plan text))

-- the faults that may stop reading and working
abbrev pub IsStopFault : Fault → Type 0
IsStopFault Memory = Unit {0}
IsStopFault (Trace line kind) = Unit {0}
IsStopFault Read = Unit {0}
IsStopFault Start = Unit {0}
IsStopFault _ = ⊥

-- a refusal, by the bytes that were read
pub record IsStopped (before after asked : Option (List ℕ)) (f : Fault) : Type 0 where
  pub kinds : IsStopFault f
  pub refused : (text : List ℕ) → before ≡ Some text → IsRefusedBy in_flight (IsRefusal in_flight) text after asked f

-- the faults that a scan with workers may meet
abbrev pub IsWorkedFault : Fault → Type 0
IsWorkedFault Memory = Unit {0}
IsWorkedFault (Trace line kind) = Unit {0}
IsWorkedFault Read = Unit {0}
IsWorkedFault Write = Unit {0}
IsWorkedFault Start = Unit {0}
IsWorkedFault _ = ⊥
