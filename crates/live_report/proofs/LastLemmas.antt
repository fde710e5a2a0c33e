-- The row that an observer read last, by the route of the row.
use Rattle.std.proofs.Common.{◌≡◌, ◌∙◌, sym, ap, subst, refl, ℕ, ◌≤◌, Bool, true, false, List, [], ◌∷◌, ◌++◌, length, length-append, Option, Some, None, option_to_list, arith}
use Rattle.std.specs.Prelude.{MatchOption}
use Rattle.line_model.specs.declared.event.Event.{Event}
use Rattle.line_model.specs.declared.interface.Interface.{Interface}
use Rattle.line_model.specs.declared.route.Route.{Route}
use Rattle.line_model.specs.declared.route.Route.TheVariants.{ToChannel, Leave, Enter, Renew, Found, Pass}
use Rattle.line_model.specs.basics.Records.{Item}
use Rattle.line_model.specs.channels.Gaps.{GapChannel}
use Rattle.line_model.specs.channels.GapRestart.{GapInterfaceState, is_of_all, is_ready, routing}
use Rattle.line_model.specs.observer.Machine.{Observer}
use Rattle.line_model.specs.observer.Report.{report_of}
use Rattle.channel_run.specs.Live.{channel_so_far}
use Rattle.channel_run.specs.Run.{row_events}
use Rattle.restart_epochs.specs.OpenRows.{OpenRows, HasMore, last_number, rows_of}
use Rattle.restart_epochs.specs.Cutting.{Cutting, HasEffect, IsTakenBy, Represents as IsCutterOf, gap_by_effect, items_out, observer}
use Rattle.restart_epochs.specs.declared.walk.EpochWalk.{EpochWalk}
use Rattle.restart_epochs.specs.declared.walk.Step.{Step}
use Rattle.restart_epochs.specs.declared.walk.ChannelEffect.{ChannelEffect}
use Rattle.restart_epochs.specs.Walks.{epoch_after, passed, effect_of, IsStep}
use Rattle.restart_epochs.proofs.GapRows.{last_pushed, no_gap}
use Rattle.restart_epochs.proofs.OpenChannelSteps.{start_stays}
use Rattle.restart_epochs.proofs.Routes.{is_to_channel}
use Rattle.restart_epochs.proofs.Steps.{on_channel, routed_to, routed_none}
use Rattle.live_report.specs.OpenChannels.{begun_piece}
use Rattle.live_report.specs.Observing.{epoch_at}
use Rattle.live_report.specs.Effects.{epoch_of, reached_piece, HasEvents, JudgesBy}
use Rattle.live_report.specs.JudgedRows.{IsJudge, IsJudgedRow, IsRestart, IsTaker, KnowsLast, taker}
use Rattle.live_report.specs.declared.judged_row.Judge.{Judge}
use Rattle.live_report.specs.declared.judged_row.Judge.TheVariants as judge
use Rattle.live_report.specs.declared.judged_row.JudgedRow.{JudgedRow}
use Rattle.live_report.proofs.FindingLemmas.{events_on, reached_is, state_here}
use Rattle.line_model.specs.basics.Bounds.{IsSaid}
use Rattle.line_model.specs.packets.Says.{gap_of, packet_channel}

-- ---- lists

same_first : {X : Type 0} (x y : X) (a b : List X) → x ∷ a ≡ y ∷ b → x ≡ y
same_first x y a b h = cc

same_rest : {X : Type 0} (x y : X) (a b : List X) → x ∷ a ≡ y ∷ b → a ≡ b
same_rest x y a b h = cc

-- two lists with one more are the same, and so is what was added
pub same_last : {X : Type 0} (a b : List X) (x y : X) → a ++ x ∷ [] ≡ b ++ y ∷ [] → (a ≡ b) × (x ≡ y)
same_last [] [] x y h = (refl, same_first x y [] [] h)
same_last [] (c ∷ b) x y h = absurd (omega (arith, ap (λ l. length l) h, length-append b (y ∷ [])))
same_last (c ∷ a) [] x y h = absurd (omega (arith, ap (λ l. length l) h, length-append a (x ∷ [])))
same_last (c ∷ a) (d ∷ b) x y h =
    let rest = same_last a b x y (same_rest c d (a ++ x ∷ []) (b ++ y ∷ []) h) in
    (ap (λ l. c ∷ l) rest.0 ∙ ap (λ z. z ∷ b) (same_first c d (a ++ x ∷ []) (b ++ y ∷ []) h), rest.1)

-- ---- the last row

pub taker_is : (i : Interface) (to : Option ℕ) (o more : Observer GapInterfaceState GapChannel) (j : Judge) → IsJudge i to o more j → taker j ≡ to
taker_is i None o more (judge.Restart before after) h = refl
taker_is i None o more (judge.Channel k before after accepted) h = absurd h
taker_is i (Some n) o more (judge.Restart before after) h = absurd h
taker_is i (Some n) o more (judge.Channel k before after accepted) h = ap (λ m. Some m) h.0

pub no_row : (i : Interface) (last : Option JudgedRow) (events : List Event) → KnowsLast i [] last events
no_row i last events before r e = absurd (omega (arith, ap (λ (l : List Item). length l) e, length-append before (r ∷ [])))

knows : (i : Interface) (rs : List Item) (r : Item) (l : JudgedRow) (last : Option JudgedRow) (events : List Event) → last ≡ Some l → IsJudgedRow i rs r l events → KnowsLast i (rs ++ r ∷ []) last events
knows i rs r l last events is h before x e =
    let same = same_last rs before r x e in
    subst (λ o. MatchOption o ⊥ (λ m. IsJudgedRow i before x m events)) (sym is)
    (subst (λ y. IsJudgedRow i before y l events) same.1 (subst (λ b. IsJudgedRow i b r l events) same.0 h))

-- what a step makes known of a row
pub record Judged {B : Type 0} (effect : ChannelEffect) (item : Item) (walk : EpochWalk B) (gap : ℕ) (machine : GapInterfaceState) (rows rows_after : OpenRows) (row : JudgedRow) (events : List Event) : Type 0 where
  pub number : row.number ≡ item.number
  pub side : row.side ≡ item.side
  pub packet : row.packet ≡ item.packet
  pub judge : JudgesBy effect walk gap machine rows rows_after row.judge
  pub came : HasEvents effect walk gap rows item events

-- a row that is passed is judged by the restart machine
passed_judges : {B : Type 0} → (of_all : Bool) (walk : EpochWalk B) (gap : ℕ) (machine : GapInterfaceState) (rows after : OpenRows) (by : Judge) → JudgesBy (passed of_all) walk gap machine rows after by → IsRestart walk.machine.level.state machine.level.state by
passed_judges true walk gap machine rows after by h = h
passed_judges false walk gap machine rows after by h = h

-- by what the row did to the channels
pub last_known : {B : Type 0} → (i : Interface) (rs : List Item) (c a : Cutting) (r : Item) (step : Step) (v : EpochWalk B) (gap : ℕ) (row : JudgedRow) (last : Option JudgedRow) (events : List Event)
    → IsCutterOf i rs c → IsCutterOf i (rs ++ r ∷ []) a → IsTakenBy r step c a → IsSaid c.interface r → IsStep c.level c.epoch r step
    → epoch_of v ≡ epoch_at c → gap ≡ c.gap → v.machine ≡ c.level → c.gap ≤ r.number → last ≡ Some row → Judged step.effect r v gap step.machine c.open_rows a.open_rows row events
    → (report_of i (rs ++ r ∷ [])).findings ≡ (report_of i rs).findings ++ option_to_list row.finding → KnowsLast i (rs ++ r ∷ []) last events
last_known {B} i rs c a r step v gap row last events s grown taken said is same same_gap same_machine earlier last_is judged finding =
    knows i rs r row last events last_is (at (routing c.level r).route refl (subst (λ t. Judged t r v gap step.machine c.open_rows a.open_rows row events) is.effect judged))
  where
    k : ℕ
    k = packet_channel r.packet

    o : Observer GapInterfaceState GapChannel
    o = observer i rs

    more : Observer GapInterfaceState GapChannel
    more = observer i (rs ++ r ∷ [])

    routes : (q : Route) → (routing c.level r).route ≡ q → is_to_channel (routing o.level r).route ≡ is_to_channel q
    routes q e = ap (λ x. is_to_channel (routing x r).route) (sym s.level) ∙ ap is_to_channel e

    no_one : (n : ℕ) → ◌≡◌ {A = Option ℕ} None (Some n) → ⊥
    no_one n h = cc

    some_one : (x y : ℕ) → Some x ≡ Some y → x ≡ y
    some_one x y h = cc

    on_level : (q : Route) → (routing c.level r).route ≡ q → is_to_channel q ≡ false → IsRestart v.machine.level.state step.machine.level.state row.judge → IsJudgedRow i rs r row events
    on_level q e to judge =
        let none = routed_none i o.level r (routes q e ∙ to) in
        let before = ap (λ m. m.level.state) (same_machine ∙ s.level) in
        let after = ap (λ m. m.level.state) (sym taken.level ∙ grown.level) in
        record {
          number = judged.number;
          side = judged.side;
          packet = judged.packet;
          judge = subst (λ n. IsJudge i n o more row.judge) (sym none) (subst (λ x. IsRestart o.level.level.state x row.judge) after (subst (λ x. IsRestart x step.machine.level.state row.judge) before judge));
          finding = finding;
          came = λ n there. absurd (no_one n (sym none ∙ there));
        }

    -- after the row of a channel no gap of all channels is left
    all_read : (routing c.level r).route ≡ ToChannel → items_out a.gap a.open_rows k ≡ rows_of a.open_rows k
    all_read e =
        let effect = is.effect ∙ ap (effect_of r.packet) e in
        let has : HasMore c.gap k r c.open_rows a.open_rows = subst (λ t. HasEffect t r c.gap c.open_rows a.open_rows) effect taken.open_rows in
        let gap_is : a.gap ≡ c.gap = taken.gap ∙ ap (λ t. gap_by_effect t r c.gap) effect in
        no_gap a.gap (rows_of a.open_rows k) (omega (arith, gap_is, earlier, ap last_number has.row, last_pushed (items_out c.gap c.open_rows k) r))

    epoch_kept : (routing c.level r).route ≡ ToChannel → epoch_at a ≡ epoch_at c
    epoch_kept e =
        let epoch = is.epoch ∙ ap (epoch_after c.epoch) e in
        let start = taken.start ∙ start_stays c.epoch step.epoch c.start step.machine epoch in
        λ t. record { interface = taken.counted.interface t; number = (taken.epoch ∙ epoch) t; start = start t }

    on_its_channel : (routing c.level r).route ≡ ToChannel → Judged (effect_of r.packet ToChannel) r v gap step.machine c.open_rows a.open_rows row events → IsJudgedRow i rs r row events
    on_its_channel e j =
        let there = routes ToChannel e in
        let on = on_channel i rs r there in
        let to = routed_to i o.level r there in
        let kept = same ∙ sym (epoch_kept e) in
        let reached = reached_is c v gap k same same_gap in
        let before = ap channel_so_far reached ∙ sym (state_here i rs c k s on.ready) in
        let after = (λ t. channel_so_far (begun_piece (kept t) k (sym (all_read e) t))) ∙ sym (state_here i (rs ++ r ∷ []) a k grown (ap is_ready on.level ∙ on.ready)) in
        let came : events ≡ row_events i o.epoch k (o.states k) r =
        j.came ∙ ap (λ p. row_events p.interface p.epoch p.channel (channel_so_far p) r) reached
        ∙ sym (events_on i rs c r s (ap (λ x. is_to_channel (routing x r).route) s.level ∙ there)) in
        record {
          number = j.number;
          side = j.side;
          packet = j.packet;
          judge = subst (λ n. IsJudge i n o more row.judge) (sym to)
              (subst (λ x. IsTaker i k (o.states k) x row.judge) after
              (subst (λ x. IsTaker i k x (channel_so_far (begun_piece (epoch_of v) k (rows_of a.open_rows k))) row.judge) before
              (subst (λ x. IsTaker x k (channel_so_far (reached_piece v gap k c.open_rows)) (channel_so_far (begun_piece (epoch_of v) k (rows_of a.open_rows k))) row.judge) (ap (λ x. x.interface) same ∙ s.interface) j.judge)));
          finding = finding;
          came = λ n here. subst (λ m. events ≡ row_events i o.epoch m (o.states m) r) (some_one k n (sym to ∙ here)) came;
        }

    at : (q : Route) → (routing c.level r).route ≡ q → Judged (effect_of r.packet q) r v gap step.machine c.open_rows a.open_rows row events → IsJudgedRow i rs r row events
    at ToChannel e j = on_its_channel e j
    at (Leave code) e j = on_level (Leave code) e refl j.judge
    at Enter e j = on_level Enter e refl j.judge
    at Renew e j = on_level Renew e refl j.judge
    at (Found state code) e j = on_level (Found state code) e refl j.judge
    at Pass e j = on_level Pass e refl (passed_judges (is_of_all (gap_of r.packet)) v gap step.machine c.open_rows a.open_rows row.judge j.judge)
