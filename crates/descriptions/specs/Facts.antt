-- The facts of a row, as the definitions' walk has them.
use Rattle.std.specs.Prelude.{◌≡◌, ℕ, List, [], ◌∷◌, ◌++◌, Option, None, Some, option_to_list}
use Rattle.line_model.specs.basics.Records.{Item}
use Rattle.line_model.specs.declared.interface.Interface.{Interface}
use Rattle.line_model.specs.observer.Calls.{all_lengths, segments_of}
use Rattle.line_model.specs.observer.Machine.{routed}
use Rattle.line_model.specs.observer.Observer.{x25}
use Rattle.line_model.specs.observer.Report.{report_of}
use Rattle.restart_epochs.specs.Cutting.{observer}
use Rattle.live_report.specs.JudgedRows.{IsJudge}
use Rattle.live_report.specs.Uncounted.{reason_at}
use Rattle.live_report.specs.declared.uncounted.Reason.{Reason}
use Rattle.descriptions.specs.Follows.{follows_at}
use Rattle.descriptions.specs.RowCalls.{call_of, row_call}
use Rattle.descriptions.specs.RowObjects.{events_at}
use Rattle.descriptions.specs.declared.facts.Fate.{Fate}
use Rattle.descriptions.specs.declared.facts.Fate.TheVariants.{Counted, NotCounted}
use Rattle.descriptions.specs.declared.facts.RowFacts.{RowFacts}

-- what became of the data of a row whose data packets have these lengths: the first one is counted, with its segments
abbrev pub IsFateOf : List ℕ → Fate → Type 0
IsFateOf [] (Counted octets segments) = ⊥
IsFateOf [] _ = Unit {0}
IsFateOf (n ∷ ns) (Counted octets segments) = (octets ≡ n) × (segments ≡ segments_of (n ∷ []))
IsFateOf (n ∷ ns) _ = ⊥

-- why the data of a row was not counted, as its fate has it; none where it has no data, or where it was counted
abbrev pub reason_in : Fate → Option Reason
reason_in (NotCounted reason) = Some reason
reason_in _ = None

-- a row after others, the machine that judged it, what it found, what it counted, why it did not, its epoch, the finding that its own may follow from, and its call
pub record AreFactsOf (i : Interface) (earlier : List Item) (r : Item) (facts : RowFacts) : Type 0 where
  pub number : facts.last.now.number ≡ r.number
  pub side : facts.last.now.side ≡ r.side
  pub packet : facts.last.now.packet ≡ r.packet
  pub judge : IsJudge i (routed (x25 i) (observer i earlier).level r) (observer i earlier) (observer i (earlier ++ r ∷ [])) facts.last.now.judge
  pub finding : (report_of i (earlier ++ r ∷ [])).findings ≡ (report_of i earlier).findings ++ option_to_list facts.last.now.finding
  pub fate : IsFateOf (all_lengths (events_at i (routed (x25 i) (observer i earlier).level r) (observer i earlier) r)) facts.fate
  pub reason : reason_in facts.fate ≡ reason_at i (observer i earlier) r
  pub epoch : facts.earlier.epoch ≡ (observer i earlier).epoch
  pub follows : facts.earlier.follows ≡ follows_at i earlier r facts.last.now.finding
  pub call : row_call facts.calls ≡ call_of i earlier r
