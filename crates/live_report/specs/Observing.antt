-- The observer that runs: what it holds after some rows.
use Rattle.std.specs.Prelude.{◌≡◌, ℕ, ◌≤◌, ◌^◌, Bool, true, false, List, [], ◌∷◌, ◌++◌, All, Option, Result, IfOk, OnOk, map, option_to_list, sum_by}
use Rattle.std.specs.List.Sorted.{IsStrictlyIncreasing}
use Rattle.line_model.specs.declared.interface.Interface.{Interface}
use Rattle.line_model.specs.declared.finding.Finding.{Finding}
use Rattle.line_model.specs.basics.Records.{Item, Piece, PieceReport, ReadRow, Report}
use Rattle.line_model.specs.packets.Says.{item_read}
use Rattle.line_model.specs.basics.Bounds.{AreSaid}
use Rattle.line_model.specs.channels.Gaps.{GapChannel}
use Rattle.line_model.specs.observer.Report.{report_of}
use Rattle.line_model.specs.pieces.Plans.{result_of}
use Rattle.line_model.specs.text.Text.{last_or}
use Rattle.channel_run.specs.declared.run.Channel.{Ghosts as Machine}
use Rattle.restart_epochs.specs.Cutting.{Cutting, IsCutting, Represents as IsCutterOf, given_of, items_out}
use Rattle.report_merge.specs.Gathered.{gathered}
use Rattle.live_report.specs.declared.observer.Observer.{Observer}
use Rattle.live_report.specs.JudgedRows.{KnowsLast}
use Rattle.live_report.specs.Uncounted.{uncounted_of}
use Rattle.live_report.specs.declared.uncounted.Uncounted.{Uncounted}
use Rattle.live_report.specs.OpenChannels.{OpenChannelsFor, OpenEpoch, begun_piece}

-- what rows of an interface say, as a trace has them: their numbers rise, and their octets are few
pub record AreItems (i : Interface) (rs : List Item) : Type 0 where
  pub said : AreSaid i rs
  pub rising : IsStrictlyIncreasing (0 ∷ map (λ r. r.number) rs)
  pub numbers : All (λ r. r.number ≤ 999999999) rs
  pub octets : sum_by (λ r. r.length) rs ≤ 2 ^ 31

-- what the row of a last line says that no LF ended, if it has one
abbrev pub last_item : Interface → (has_row : Bool) → ReadRow → List Item
last_item i false row = []
last_item i true row = item_read i row ∷ []

-- the open epoch of a cutter
abbrev pub epoch_at : Cutting → OpenEpoch
epoch_at c = record { interface = c.interface; number = c.epoch; start = c.start }

-- an observer holds what a cutter does, with an open channel in place of the rows of each channel of the open epoch, and
-- what these reports of the pieces give whose epochs have ended
pub record Holds {A C : Type 0} (interface_of : C → Interface) (number_of : C → ℕ) (represents : C → GapChannel → Type 0)
    (c : Cutting) (reports : List PieceReport) (o : Observer A C) : Type 0 where
  pub interface : o.walk.interface ≡ c.interface
  pub level : o.walk.machine ≡ c.level
  pub epoch : o.walk.epoch ≡ c.epoch
  pub start : o.walk.start ≡ c.start
  pub packets : o.walk.packets ≡ c.packets
  pub gaps : o.walk.gaps ≡ c.gaps
  pub findings : o.walk.findings.items ≡ c.findings
  pub ended : o.ended ≡ gathered reports
  pub gap : o.open_channels.gap ≡ c.gap
  pub open_channels : OpenChannelsFor interface_of number_of represents (epoch_at c) c.open_rows o.open_channels.table

-- an observer has read these rows of an interface: it holds what a cutter of them does, and the results of the complete pieces
pub record Represents {A C : Type 0} (interface_of : C → Interface) (number_of : C → ℕ) (represents : C → GapChannel → Type 0)
    (i : Interface) (rs : List Item) (o : Observer A C) : Type 0 where
  pub sound : AreItems i rs
  pub cutting : Cutting
  pub cut : IsCutterOf i rs cutting
  pub bounds : IsCutting cutting
  pub last : cutting.last ≡ last_or 0 (map (λ r. r.number) rs)
  pub octets : cutting.octets ≡ sum_by (λ r. r.length) rs
  pub holds : Holds interface_of number_of represents cutting (map result_of (given_of i rs)) o
  pub row : o.keeps_rows ≡ true → KnowsLast i rs o.last o.events.items
  pub uncounted : o.uncounted ≡ uncounted_of i rs

-- the same two by the members of a machine of one channel
abbrev pub IsHolding : {A C : Type 0} → Machine C A → Cutting → List PieceReport → Observer A C → Type 0
IsHolding m c reports o = Holds m.interface_of m.number_of m.represents c reports o

abbrev pub HasWalked : {A C : Type 0} → Machine C A → Interface → List Item → Observer A C → Type 0
HasWalked m i rows o = Represents m.interface_of m.number_of m.represents i rows o

-- it has walked these rows, and keeps the last one
abbrev pub HasKept : {A C : Type 0} → Machine C A → Interface → List Item → Observer A C → Type 0
HasKept m i rows o = HasWalked m i rows o × (o.keeps_rows ≡ true)

-- the piece of a channel in the open epoch, up to the last gap of all channels
abbrev pub open_piece : Cutting → (channel : ℕ) → Piece
open_piece c channel = begun_piece (epoch_at c) channel (items_out c.gap c.open_rows channel)

-- it has walked some rows
abbrev pub IsObserver : {A C : Type 0} → Machine C A → Observer A C → Type 0
IsObserver m o = (i : Interface) × (rows : List Item) × HasWalked m i rows o

-- it has walked some rows, and these may come after them
abbrev pub MayWalk : {A C : Type 0} → Machine C A → Observer A C → (more : Interface → List Item) → Type 0
MayWalk m o more = (i : Interface) × (rows : List Item) × HasWalked m i rows o × AreItems i (rows ++ more i)

-- of any rows that it has walked: it has walked them and this one
abbrev pub WalksOn : {A C T E : Type 0} → Machine C A → (before : Observer A C) → (row : Interface → Item) → (after : Observer A C) → Result T E → Type 0
WalksOn m before row after result =
    (i : Interface) (rows : List Item) → HasWalked m i rows before → AreItems i (rows ++ row i ∷ []) → OnOk result (HasWalked m i (rows ++ row i ∷ []) after)

-- of any rows that it has walked: the finding on this one comes after all that was found before
abbrev pub ReturnsFinding : {A C E : Type 0} → Machine C A → Observer A C → (row : Interface → Item) → Result (Option Finding) E → Type 0
ReturnsFinding m o row result =
    (i : Interface) (rows : List Item) → HasWalked m i rows o → IfOk result (λ found. (report_of i (rows ++ row i ∷ [])).findings ≡ (report_of i rows).findings ++ option_to_list found)

-- of any rows that it has walked: their report
abbrev pub ReturnsReport : {A C E : Type 0} → Machine C A → Observer A C → Result Report E → Type 0
ReturnsReport m o result = (i : Interface) (rows : List Item) → HasWalked m i rows o → IfOk result (λ report. report ≡ report_of i rows)

-- of any rows that it has walked: the report of them and these
abbrev pub ReturnsReportWith : {A C E : Type 0} → Machine C A → Observer A C → (more : Interface → List Item) → Result Report E → Type 0
ReturnsReportWith m o more result =
    (i : Interface) (rows : List Item) → HasWalked m i rows o → AreItems i (rows ++ more i) → IfOk result (λ report. report ≡ report_of i (rows ++ more i))

-- of any rows that it has walked: what was not counted of them and these
abbrev pub LeavesOutWith : {A C T E : Type 0} → Machine C A → Observer A C → (more : Interface → List Item) → Uncounted → Result T E → Type 0
LeavesOutWith m o more uncounted result =
    (i : Interface) (rows : List Item) → HasWalked m i rows o → AreItems i (rows ++ more i) → OnOk result (uncounted ≡ uncounted_of i (rows ++ more i))
