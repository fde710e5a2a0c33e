-- What an observer has walked after one more row, by what the row did.
use Rattle.std.proofs.Common.{◌≡◌, ◌∙◌, ◌+◌, append-nil, cond, is_some, sym, subst, refl, arith, ℕ, true, List, [], ◌∷◌, ◌++◌, map, length, Some, option_to_list}
use Rattle.line_model.specs.declared.interface.Interface.{Interface}
use Rattle.line_model.specs.declared.event.Event.{Event}
use Rattle.line_model.specs.basics.Records.{Item}
use Rattle.line_model.specs.basics.Bounds.{IsSaid}
use Rattle.line_model.specs.observer.Report.{report_of}
use Rattle.line_model.specs.packets.Says.{gap_of}
use Rattle.line_model.specs.pieces.Plans.{end_at, result_of}
use Rattle.line_model.proofs.Posts.{length-values}
use Rattle.restart_epochs.specs.declared.walk.EpochWalk.{EpochWalk}
use Rattle.restart_epochs.specs.declared.walk.Step.{Step}
use Rattle.restart_epochs.specs.Cutting.{HasEffect, ended_by, gap_by_effect, given_of}
use Rattle.restart_epochs.specs.Walks.{step_to, IsAdvanced, IsSameWalk, IsStep}
use Rattle.restart_epochs.proofs.Listings.{listing}
use Rattle.restart_epochs.proofs.OpenChannelSteps.{start_stays}
use Rattle.report_merge.specs.Gathered.{gathered}
use Rattle.channel_run.specs.declared.run.Channel.{Ghosts as Machine}
use Rattle.live_report.specs.declared.observer.Observer.{Observer}
use Rattle.live_report.specs.declared.judged_row.RowOutcome.{RowOutcome}
use Rattle.live_report.specs.JudgedRows.{IsJudgedRow, KnowsLast, judged_row}
use Rattle.live_report.specs.OpenChannels.{OpenChannelsFor}
use Rattle.live_report.specs.Observing.{AreItems, HasWalked}
use Rattle.live_report.specs.Effects.{FindsBy, HasEvents, JudgesBy, MayAffect, RepresentsAt, epoch_of, with_data}
use Rattle.live_report.specs.Uncounted.{AreFew, uncounted_of}
use Rattle.live_report.proofs.FindingLemmas.{finds_after}
use Rattle.live_report.proofs.LastLemmas.{last_known}
use Rattle.live_report.proofs.UncountedLemmas.{few_with}
use Rattle.live_report.proofs.TakeLemmas.{said_here, cut_after, cutting_after, has_effect, holds_after, is_taken, epoch_here, next_of, open_channels_at, pieces_at, rows_after, represents_after, step_of, effects_at}

pub same_walk : {A : Type 0} → (w : EpochWalk A) → IsSameWalk w w
same_walk w = record { interface = refl; machine = refl; epoch = refl; start = refl; packets = refl; gaps = refl; findings = refl }

-- a walk counted a row that goes to a logical channel, so it advanced over its step
pub counted_on : {A : Type 0} → (channel : ℕ) (item : Item) (w : EpochWalk A) → IsAdvanced (step_to channel w item) w (record w { packets = w.packets + 1; gaps = w.gaps + cond (is_some (gap_of item.packet)) 1 0 })
counted_on channel item w = record {
  interface = refl;
  machine = refl;
  epoch = refl;
  start = sym (start_stays w.epoch w.epoch w.start w.machine refl);
  packets = refl;
  gaps = refl;
  findings = sym (append-nil w.findings.items);
}

-- what the next row says, by the cutter of the rows before it
said_next : {A C : Type 0} → (m : Machine C A) (i : Interface) (rs : List Item) (o : Observer A C) (one : Item) (s : HasWalked m i rs o) → AreItems i (rs ++ one ∷ []) → IsSaid s.cutting.interface one
said_next m i rs o one s sound = said_here m.interface_of m.number_of m.represents i rs o one s.cutting.interface s sound s.holds.interface

step_next : {A C : Type 0} → (m : Machine C A) (i : Interface) (rs : List Item) (o : Observer A C) (one : Item) (step : Step) (s : HasWalked m i rs o) → IsStep o.walk.machine o.walk.epoch one step → IsStep s.cutting.level s.cutting.epoch one step
step_next m i rs o one step s is = step_of m.interface_of m.number_of m.represents s.cutting (map result_of (given_of i rs)) o one step s.holds is

-- the open channels represent the rows of the open epoch, also where room was made in the walk
pub represents_here : {A C : Type 0} → (m : Machine C A) (i : Interface) (rs : List Item) (o : Observer A C) (v : EpochWalk A) (s : HasWalked m i rs o) → IsSameWalk o.walk v → RepresentsAt m v s.cutting.open_rows o.open_channels
represents_here m i rs o v s same = (
  open_channels_at m.interface_of m.number_of m.represents s.cutting (map result_of (given_of i rs)) o v s.holds same,
  pieces_at m.interface_of m.number_of m.represents s.cutting (map result_of (given_of i rs)) o v s.holds same s.bounds,
  listing i rs s.cutting s.cut,
)

-- what the row does to them
pub effects_here : {A C : Type 0} → (m : Machine C A) (i : Interface) (rs : List Item) (o : Observer A C) (one : Item) (step : Step) (v : EpochWalk A) (s : HasWalked m i rs o) → AreItems i (rs ++ one ∷ [])
    → IsStep o.walk.machine o.walk.epoch one step → IsSameWalk o.walk v → MayAffect step.effect v.interface o.open_channels.gap one s.cutting.open_rows
effects_here m i rs o one step v s sound is same =
    effects_at m.interface_of m.number_of m.represents i rs o one step v s sound (said_next m i rs o one s sound) (step_next m i rs o one step s is) same

pub rows_next : {A C : Type 0} → (m : Machine C A) (i : Interface) (rs : List Item) (o : Observer A C) (one : Item) (step : Step) (s : HasWalked m i rs o)
    → HasEffect step.effect one o.open_channels.gap s.cutting.open_rows (rows_after step.effect one s.cutting.gap s.cutting.open_rows)
rows_next m i rs o one step s =
    subst (λ n. HasEffect step.effect one n s.cutting.open_rows (rows_after step.effect one s.cutting.gap s.cutting.open_rows)) (sym s.holds.gap) (has_effect step.effect one s.cutting.gap s.cutting.open_rows)

-- its finding
pub finds_next : {A C : Type 0} → (m : Machine C A) (i : Interface) (rs : List Item) (o : Observer A C) (one : Item) (step : Step) (v : EpochWalk A) (outcome : RowOutcome) (s : HasWalked m i rs o) → IsSaid s.cutting.interface one
    → IsStep o.walk.machine o.walk.epoch one step → IsSameWalk o.walk v → FindsBy step v o.open_channels.gap s.cutting.open_rows one outcome.finding
    → (report_of i (rs ++ one ∷ [])).findings ≡ (report_of i rs).findings ++ option_to_list outcome.finding
finds_next m i rs o one step v outcome s packet is same finding =
    finds_after i rs s.cutting one step v o.open_channels.gap outcome.finding s.cut packet (step_next m i rs o one step s is)
    (epoch_here m.interface_of m.number_of m.represents s.cutting (map result_of (given_of i rs)) o v s.holds same) s.holds.gap finding

-- the row as it was judged
judged_next : {A C : Type 0} → (m : Machine C A) (i : Interface) (rs : List Item) (o : Observer A C) (one : Item) (step : Step) (v : EpochWalk A) (outcome : RowOutcome) (events : List Event) (s : HasWalked m i rs o) → AreItems i (rs ++ one ∷ [])
    → IsStep o.walk.machine o.walk.epoch one step → IsSameWalk o.walk v
    → JudgesBy step.effect v o.open_channels.gap step.machine s.cutting.open_rows (rows_after step.effect one s.cutting.gap s.cutting.open_rows) outcome.judge
    → FindsBy step v o.open_channels.gap s.cutting.open_rows one outcome.finding
    → HasEvents step.effect v o.open_channels.gap s.cutting.open_rows one (with_data v.epoch outcome.judge one events)
    → KnowsLast i (rs ++ one ∷ []) (Some (judged_row one outcome)) (with_data v.epoch outcome.judge one events)
judged_next m i rs o one step v outcome events s sound is same judge finding came =
    let packet = said_next m i rs o one s sound in
    let here = step_next m i rs o one step s is in
    let next = next_of m.interface_of m.number_of m.represents i rs o one s sound in
    last_known i rs s.cutting (cutting_after s.cutting one step) one step v o.open_channels.gap (judged_row one outcome) _ _ s.cut (cut_after i rs s.cutting one step s.cut s.bounds next.rising packet here) (is_taken s.cutting one step) packet here
    (epoch_here m.interface_of m.number_of m.represents s.cutting (map result_of (given_of i rs)) o v s.holds same) s.holds.gap (same.machine ∙ s.holds.level) (omega (arith, next.rising, s.bounds.gap)) refl
    (record { number = refl; side = refl; packet = refl; judge = judge; came = came })
    (finds_next m i rs o one step v outcome s packet is same finding)

-- the observer after the row
pub walks_on : {A C : Type 0} → (m : Machine C A) (i : Interface) (rs : List Item) (o new : Observer A C) (one : Item) (step : Step) (v : EpochWalk A) (outcome : RowOutcome) (events : List Event) (s : HasWalked m i rs o) → AreItems i (rs ++ one ∷ [])
    → IsStep o.walk.machine o.walk.epoch one step → IsSameWalk o.walk v → IsAdvanced step v new.walk
    → new.ended ≡ gathered (map result_of (given_of i rs) ++ map result_of (ended_by step.effect v.interface v.epoch v.start (end_at one) (length (map result_of (given_of i rs))) o.open_channels.gap s.cutting.open_rows))
    → new.open_channels.gap ≡ gap_by_effect step.effect one o.open_channels.gap
    → OpenChannelsFor m.interface_of m.number_of m.represents (epoch_of v) (rows_after step.effect one s.cutting.gap s.cutting.open_rows) new.open_channels.table
    → JudgesBy step.effect v o.open_channels.gap step.machine s.cutting.open_rows (rows_after step.effect one s.cutting.gap s.cutting.open_rows) outcome.judge
    → FindsBy step v o.open_channels.gap s.cutting.open_rows one outcome.finding
    → HasEvents step.effect v o.open_channels.gap s.cutting.open_rows one (with_data v.epoch outcome.judge one events)
    → (new.keeps_rows ≡ true → new.last ≡ Some (judged_row one outcome))
    → (new.keeps_rows ≡ true → new.events.items ≡ with_data v.epoch outcome.judge one events)
    → (IsJudgedRow i rs one (judged_row one outcome) (with_data v.epoch outcome.judge one events) → AreFew (rs ++ one ∷ []) → new.uncounted ≡ uncounted_of i (rs ++ one ∷ []))
    → HasWalked m i (rs ++ one ∷ []) new
walks_on m i rs o new one step v outcome events s sound is same advanced ended gap open_channels judge finding came last kept uncounted =
    let known = judged_next m i rs o one step v outcome events s sound is same judge finding came in
    represents_after m.interface_of m.number_of m.represents i rs one o new one step s refl sound (said_next m i rs o one s sound) (step_next m i rs o one step s is)
    (holds_after m.interface_of m.number_of m.represents i rs s.cutting (map result_of (given_of i rs)) one step o new v s.cut (step_next m i rs o one step s is) s.holds same advanced (length-values (given_of i rs) ∙ sym s.cut.given) ended gap open_channels)
    (λ keeps. subst (λ l. KnowsLast i (rs ++ one ∷ []) l new.events.items) (sym (last keeps)) (subst (KnowsLast i (rs ++ one ∷ []) (Some (judged_row one outcome))) (sym (kept keeps)) known))
    (uncounted (known rs one refl) (few_with m.interface_of m.number_of m.represents i rs one o s sound))
