-- What a merged report is of the reports of the pieces and of the findings of the restart machine (profile).
use Rattle.std.specs.Prelude.{◌≡◌, ℕ, ◌-◌, ◌++◌, ◌∷◌, List, length, map, sum_by}
use Rattle.std.specs.List.Sorted.{IsPermutation, IsNonDecreasingBy, IsStrictlyIncreasing}
use Rattle.line_model.specs.declared.interface.Interface.{Interface}
use Rattle.line_model.specs.declared.fault.Fault.{Fault}
use Rattle.line_model.specs.declared.fault.Fault.TheVariants.{Memory}
use Rattle.line_model.specs.declared.finding.Finding.{Finding}
use Rattle.line_model.specs.basics.Records.{Item, CallRecord, PieceReport, Report}
use Rattle.line_model.specs.basics.Bounds.{AreSaid}
use Rattle.line_model.specs.observer.Accounts.{accounts_of}
use Rattle.line_model.specs.observer.Calls.{up_at}
use Rattle.line_model.specs.observer.Peak.{IsPeakOfTimes}
use Rattle.line_model.specs.observer.Report.{gaps_among, gaps_of, report_of}
use Rattle.line_model.specs.pieces.Plans.{plan, result_of, level_findings}
use Rattle.report_merge.specs.Gathered.{all_calls, piece_findings}
use Rattle.report_merge.specs.declared.row_counts.RowCounts.{RowCounts}

-- the findings of the interface level and of the pieces
abbrev pub all_findings : List PieceReport → List Finding → List Finding
all_findings ps line = line ++ piece_findings ps

-- the lists of a report in their orders, and its numbers
pub record IsArranged (r : Report) (findings : List Finding) (calls : List CallRecord) (octets segments : ℕ) (rows : RowCounts) : Type 0 where
  pub same_findings : IsPermutation findings r.findings
  pub findings_sorted : IsNonDecreasingBy (λ f. f.packet) r.findings
  pub same_calls : IsPermutation calls r.calls
  pub calls_sorted : IsNonDecreasingBy (λ c. c.opened) r.calls
  pub accounts : r.accounts ≡ accounts_of r.calls
  pub peak : IsPeakOfTimes (up_at r.calls) r.peak.count r.peak.packet
  pub gaps : r.gaps ≡ rows.gaps
  pub summary : r.summary ≡ record { packets = rows.packets; findings = length r.findings; calls = length r.calls; octets = octets; segments = segments }

-- the findings by packet, the calls by opening packet, and what is counted over them and over the pieces
abbrev pub IsMerged : Report → List PieceReport → List Finding → RowCounts → Type 0
IsMerged r ps line rows = IsArranged r (all_findings ps line) (all_calls ps) (sum_by (λ p. p.octets) ps) (sum_by (λ p. p.segments) ps) rows

-- what is merged comes of the walk over what some rows say, whose numbers rise from above 0: the reports are the values of the
-- plan's pieces, in any order; with the findings of the restart machine, and with the numbers of packets, of gaps where the
-- interface records them, and of pieces
pub record IsOfWalk (i : Interface) (rs : List Item) (reports : List PieceReport) (line : List Finding) (counts : RowCounts) (pieces : ℕ) : Type 0 where
  pub said : AreSaid i rs
  pub rising : IsStrictlyIncreasing (0 ∷ map (λ r. r.number) rs)
  pub values : IsPermutation (map result_of (plan i rs)) reports
  pub line_is : line ≡ level_findings i rs
  pub packets_are : counts.packets ≡ length rs - gaps_of rs
  pub gaps_are : counts.gaps ≡ gaps_among i.gaps rs
  pub pieces_are : pieces ≡ length (plan i rs)

-- where that is so, this is the report of the walk
abbrev pub IsReportOfWalk : List PieceReport → List Finding → RowCounts → (pieces : ℕ) → Report → Type 0
IsReportOfWalk reports line counts pieces r = (i : Interface) (rs : List Item) → IsOfWalk i rs reports line counts pieces → r ≡ report_of i rs

-- where that is so, memory ran out
abbrev pub IsMemoryOfWalk : List PieceReport → List Finding → RowCounts → (pieces : ℕ) → Fault → Type 0
IsMemoryOfWalk reports line counts pieces f = (i : Interface) (rs : List Item) → IsOfWalk i rs reports line counts pieces → f ≡ Memory
