-- A row, as an observer judged it.
use Rattle.std.specs.Prelude.{◌≡◌, ℕ, List, [], ◌∷◌, ◌++◌, Option, Some, None, MatchOption, option_to_list}
use Rattle.line_model.specs.declared.event.Event.{Event}
use Rattle.line_model.specs.declared.interface.Interface.{Interface}
use Rattle.line_model.specs.declared.state.RState.{RState}
use Rattle.line_model.specs.basics.Records.{Item}
use Rattle.line_model.specs.channels.Gaps.{GapChannel}
use Rattle.line_model.specs.channels.GapRestart.{GapInterfaceState}
use Rattle.line_model.specs.observer.Machine.{Observer, routed}
use Rattle.line_model.specs.observer.Observer.{x25}
use Rattle.line_model.specs.observer.Report.{report_of}
use Rattle.channel_run.specs.Run.{row_events}
use Rattle.channel_run.specs.StatusWord.{view_in}
use Rattle.channel_run.specs.Views.{IsViewOf}
use Rattle.restart_epochs.specs.Cutting.{observer}
use Rattle.live_report.specs.declared.judged_row.Judge.{Judge}
use Rattle.live_report.specs.declared.judged_row.Judge.TheVariants as judge
use Rattle.live_report.specs.declared.judged_row.JudgedRow.{JudgedRow}
use Rattle.live_report.specs.declared.judged_row.RowOutcome.{RowOutcome}

-- the logical channel that a row went to; none where the restart machine judged it
abbrev pub taker : Judge → Option ℕ
taker (judge.Restart before after) = None
taker (judge.Channel k before after accepted) = Some k

-- the restart machine, which was in these states before and after a row
abbrev pub IsRestart : (before after : RState) → Judge → Type 0
IsRestart b a (judge.Restart before after) = (before ≡ b) × (after ≡ a)
IsRestart b a _ = ⊥

-- a logical channel of an interface, which was so before and after a row
abbrev pub IsTaker : Interface → (k : ℕ) → (before after : GapChannel) → Judge → Type 0
IsTaker i k b a (judge.Channel n before after accepted) = (n ≡ k) × IsViewOf i b (view_in before) × IsViewOf i a (view_in after)
IsTaker i k b a _ = ⊥

-- the logical channel that a row went to, or the restart machine where none did, as an observer has it before and after
-- the row
abbrev pub IsJudge : Interface → (taker : Option ℕ) → (before after : Observer GapInterfaceState GapChannel) → Judge → Type 0
IsJudge i None b a j = IsRestart b.level.level.state a.level.level.state j
IsJudge i (Some k) b a j = IsTaker i k (b.states k) (a.states k) j

-- a row after others, as it was judged: its number, its side and its packet, the machine that judged it, what it found,
-- and the events on the channel that it went to
pub record IsJudgedRow (i : Interface) (earlier : List Item) (r : Item) (row : JudgedRow) (events : List Event) : Type 0 where
  pub number : row.number ≡ r.number
  pub side : row.side ≡ r.side
  pub packet : row.packet ≡ r.packet
  pub judge : IsJudge i (routed (x25 i) (observer i earlier).level r) (observer i earlier) (observer i (earlier ++ r ∷ [])) row.judge
  pub finding : (report_of i (earlier ++ r ∷ [])).findings ≡ (report_of i earlier).findings ++ option_to_list row.finding
  pub came : (k : ℕ) → routed (x25 i) (observer i earlier).level r ≡ Some k → events ≡ row_events i (observer i earlier).epoch k ((observer i earlier).states k) r

-- a row of which this came, as it was judged
abbrev pub judged_row : Item → RowOutcome → JudgedRow
judged_row r outcome = record { number = r.number; side = r.side; packet = r.packet; judge = outcome.judge; finding = outcome.finding }

-- the last one of some rows, where there is one
abbrev pub KnowsLast : Interface → List Item → Option JudgedRow → List Event → Type 0
KnowsLast i rs last events = (before : List Item) (r : Item) → rs ≡ before ++ r ∷ [] → MatchOption last ⊥ (λ row. IsJudgedRow i before r row events)
