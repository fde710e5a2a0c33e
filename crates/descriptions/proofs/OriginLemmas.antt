-- Where the findings of a channel began, row by row.
use Rattle.std.proofs.Common.{◌≡◌, ◌≢◌, ◌∙◌, sym, ap, subst, refl, ℕ, ◌==◌, ◌&&◌, not, Bool, true, false, true≢false, cond, List, [], ◌∷◌, ◌++◌, Option, Some, None}
use Rattle.std.specs.Option.{option_to_list}
use Rattle.std.proofs.lemmas.Bool.{eq-eqb, eqb-true}
use Rattle.std.proofs.lemmas.List.{append_cancel_left}
use Rattle.line_model.specs.basics.Records.{Item}
use Rattle.line_model.specs.channels.Channels.{Channel}
use Rattle.line_model.specs.channels.Gaps.{GapChannel}
use Rattle.line_model.specs.channels.GapRestart.{GapInterfaceState}
use Rattle.line_model.specs.declared.event.Event.{Event}
use Rattle.line_model.specs.declared.finding.Finding.{Finding}
use Rattle.line_model.specs.declared.interface.Interface.{Interface}
use Rattle.line_model.specs.observer.Machine.{Observer, after, routed, walk}
use Rattle.line_model.specs.observer.Observer.{events, start, x25}
use Rattle.line_model.specs.observer.Report.{findings_of}
use Rattle.channel_run.specs.Run.{row_events}
use Rattle.channel_run.specs.StatusWord.{view_in}
use Rattle.channel_run.proofs.LiveLemmas.{findings_added}
use Rattle.data_transfer.specs.Packed.{Packed}
use Rattle.restart_epochs.specs.ChannelTables.{value_at}
use Rattle.restart_epochs.specs.Cutting.{observer}
use Rattle.restart_epochs.proofs.Epochs.{observer_more}
use Rattle.live_report.specs.JudgedRows.{IsJudge, IsJudgedRow, taker}
use Rattle.live_report.specs.declared.judged_row.Judge.TheVariants as judge
use Rattle.live_report.specs.declared.judged_row.JudgedRow.{JudgedRow}
use Rattle.live_report.proofs.LastLemmas.{taker_is}
use Rattle.descriptions.specs.Follows.{KeepsOrigins, after_row, first_in, follows_at, follows_from, follows_on, is_of_course, is_renewing, is_taken_by, origin_at, origin_from, origin_of, seen_by, unless_settled}
use Rattle.descriptions.specs.declared.origins.Origin.{Origin}
use Rattle.descriptions.specs.declared.origins.Origins.{Origins}
use Rattle.descriptions.specs.RowCalls.{AreQuiet, KeepsCalls}
use Rattle.descriptions.proofs.FollowLemmas.{events_on_channel, same_epoch}
use Rattle.descriptions.proofs.RowCallLemmas.{kept_calls_quiet}

-- ---- one more row

from_more : (i : Interface) (o : Observer GapInterfaceState GapChannel) (k : ℕ) (q : Option Origin) (rs : List Item) (r : Item) → origin_from i o k q (rs ++ r ∷ []) ≡ origin_at i (walk (x25 i) o rs) r k (origin_from i o k q rs)
from_more i o k q [] r = refl
from_more i o k q (x ∷ rs) r = from_more i (after (x25 i) o x) k (origin_at i o x k q) rs r

origin_more : (i : Interface) (rs : List Item) (r : Item) (k : ℕ) → origin_of i (rs ++ r ∷ []) k ≡ origin_at i (observer i rs) r k (origin_of i rs k)
origin_more i rs r k = from_more i (start i) k None rs r

-- what it found
found_are : (i : Interface) (rs : List Item) (r : Item) (row : JudgedRow) (seen : List Event) (k : ℕ) → IsJudgedRow i rs r row seen → routed (x25 i) (observer i rs).level r ≡ Some k
    → findings_of (row_events i (observer i rs).epoch k ((observer i rs).states k) r) ≡ option_to_list row.finding
found_are i rs r row seen k l to =
    let own = row_events i (observer i rs).epoch k ((observer i rs).states k) r in
    let all = findings_of (events i rs) in
    append_cancel_left all (findings_of own) (option_to_list row.finding)
    (findings_added (events i rs) own all (all ++ findings_of own) refl refl ∙ sym (ap findings_of (events_on_channel i rs r k to)) ∙ l.finding)

-- ---- on the channel that receives it, and on the others

-- where its findings began after the row
abbrev on_taker : Interface → (rs : List Item) → Item → (found : Option Finding) → (channel : ℕ) → Option Origin → Option Origin
on_taker i rs r found k q = after_row (observer i rs).epoch r ((after (x25 i) (observer i rs) r).states k).channel (option_to_list found) q

at_taker : (i : Interface) (rs : List Item) (r : Item) (row : JudgedRow) (seen : List Event) (n k : ℕ) (q : Option Origin) → IsJudgedRow i rs r row seen → routed (x25 i) (observer i rs).level r ≡ Some n → n ≡ k
    → origin_at i (observer i rs) r k q ≡ on_taker i rs r row.finding k q
at_taker i rs r row seen n k q l to same =
    let o = observer i rs in
    let here : routed (x25 i) o.level r ≡ Some k = to ∙ ap (λ m. Some m) same in
    let own = after_row o.epoch r ((after (x25 i) o r).states k).channel (findings_of (row_events i o.epoch k (o.states k) r)) q in
    (λ t. cond (is_taken_by k (here t)) own q) ∙ ap (λ b. cond b own q) (eq_same k)
    ∙ ap (λ fs. after_row o.epoch r ((after (x25 i) o r).states k).channel fs q) (found_are i rs r row seen k l here)
  where
    eq_same : (k : ℕ) → (k == k) ≡ true
    eq_same k = eq-eqb k k refl

at_other : (i : Interface) (rs : List Item) (r : Item) (k : ℕ) (q : Option Origin) → is_taken_by k (routed (x25 i) (observer i rs).level r) ≡ false → origin_at i (observer i rs) r k q ≡ q
at_other i rs r k q h =
    let o = observer i rs in
    ap (λ b. cond b (after_row o.epoch r ((after (x25 i) o r).states k).channel (findings_of (row_events i o.epoch k (o.states k) r)) q) q) h

-- ---- what is kept

pub kept_off : {A : Type 0} (i : Interface) (rs : List Item) (r : Item) (old new : Origins A) → routed (x25 i) (observer i rs).level r ≡ None → KeepsOrigins i rs old → ((k : ℕ) → value_at new.table k ≡ value_at old.table k)
    → new.epoch ≡ (observer i (rs ++ r ∷ [])).epoch → KeepsCalls i (rs ++ r ∷ []) new.calls → KeepsOrigins i (rs ++ r ∷ []) new
kept_off i rs r old new to h same epoch calls = record {
  calls = calls;
  epoch = epoch;
  values = λ k. same k ∙ h.values k ∙ sym (at_other i rs r k (origin_of i rs k) (ap (is_taken_by k) to)) ∙ sym (origin_more i rs r k);
}

pub kept_on : {A : Type 0} (i : Interface) (rs : List Item) (r : Item) (row : JudgedRow) (seen : List Event) (n : ℕ) (old new : Origins A) → IsJudgedRow i rs r row seen → routed (x25 i) (observer i rs).level r ≡ Some n → KeepsOrigins i rs old
    → value_at new.table n ≡ on_taker i rs r row.finding n (value_at old.table n) → ((k : ℕ) → k ≢ n → value_at new.table k ≡ value_at old.table k) → new.epoch ≡ (observer i (rs ++ r ∷ [])).epoch
    → KeepsCalls i (rs ++ r ∷ []) new.calls → KeepsOrigins i (rs ++ r ∷ []) new
kept_on i rs r row seen n old new l to h own others epoch calls = record { epoch = epoch; values = λ k. by k (n == k) refl; calls = calls }
  where
    by : (k : ℕ) (b : Bool) → (n == k) ≡ b → value_at new.table k ≡ origin_of i (rs ++ r ∷ []) k
    by k true is =
        let same : n ≡ k = eqb-true n k is in
        subst (λ m. value_at new.table m ≡ on_taker i rs r row.finding m (value_at old.table m)) same own
        ∙ ap (on_taker i rs r row.finding k) (h.values k) ∙ sym (at_taker i rs r row seen n k (origin_of i rs k) l to same) ∙ sym (origin_more i rs r k)
    by k false is =
        let other : k ≢ n = λ e. true≢false (sym (eq-eqb n k (sym e)) ∙ is) in
        others k other ∙ h.values k ∙ sym (at_other i rs r k (origin_of i rs k) (ap (is_taken_by k) to ∙ is)) ∙ sym (origin_more i rs r k)

-- of a row that found nothing, and clears and resets nothing
quiet_same : (e : ℕ) (r : Item) (c : Channel) (q : Option Origin) → is_renewing r.packet ≡ false → q ≡ after_row e r c [] q
quiet_same e r c None h = refl
quiet_same e r c (Some q) h = sym (ap (λ b. cond (b && not c.owed) (unless_settled c.state (seen_by r.side q)) (Some q)) h)

pub kept_quiet : {A : Type 0} (i : Interface) (rs : List Item) (r : Item) (row : JudgedRow) (seen : List Event) (n : ℕ) (kept : Origins A) → IsJudgedRow i rs r row seen → routed (x25 i) (observer i rs).level r ≡ Some n
    → row.finding ≡ None → is_renewing row.packet ≡ false → AreQuiet seen → KeepsOrigins i rs kept → KeepsOrigins i (rs ++ r ∷ []) kept
kept_quiet i rs r row seen n kept l to none other quiet h =
    let o = observer i rs in
    kept_on i rs r row seen n kept kept l to h
    (quiet_same o.epoch r ((after (x25 i) o r).states n).channel (value_at kept.table n) (ap is_renewing (sym l.packet) ∙ other) ∙ (λ t. on_taker i rs r (sym none t) n (value_at kept.table n)))
    (λ k not_here. refl) (h.epoch ∙ sym (same_epoch i rs r n to)) (kept_calls_quiet i rs r n kept.calls to (subst AreQuiet (l.came n to) quiet) h.calls)

-- ---- a row as it was judged

pub routed_off : (i : Interface) (rs : List Item) (r : Item) (row : JudgedRow) (seen : List Event) → IsJudgedRow i rs r row seen → taker row.judge ≡ None → routed (x25 i) (observer i rs).level r ≡ None
routed_off i rs r row seen l none = sym (taker_is i _ (observer i rs) (observer i (rs ++ r ∷ [])) row.judge l.judge) ∙ none

-- the channel that received it, with its state after it
pub judged_channel : (i : Interface) (rs : List Item) (r : Item) (row : JudgedRow) (seen : List Event) (k : ℕ) (before behind : Packed) (accepted : Option ℕ) → IsJudgedRow i rs r row seen → row.judge ≡ judge.Channel k before behind accepted
    → (routed (x25 i) (observer i rs).level r ≡ Some k) × ((view_in behind).state ≡ ((after (x25 i) (observer i rs) r).states k).channel.state) × ((view_in behind).owed ≡ ((after (x25 i) (observer i rs) r).states k).channel.owed)
judged_channel i rs r row seen k before behind accepted l by =
    at (routed (x25 i) (observer i rs).level r) refl (subst (IsJudge i (routed (x25 i) (observer i rs).level r) (observer i rs) (observer i (rs ++ r ∷ []))) by l.judge)
  where
    at : (to : Option ℕ) → routed (x25 i) (observer i rs).level r ≡ to → IsJudge i to (observer i rs) (observer i (rs ++ r ∷ [])) (judge.Channel k before behind accepted)
        → (routed (x25 i) (observer i rs).level r ≡ Some k) × ((view_in behind).state ≡ ((after (x25 i) (observer i rs) r).states k).channel.state) × ((view_in behind).owed ≡ ((after (x25 i) (observer i rs) r).states k).channel.owed)
    at None is h = absurd h
    at (Some n) is h =
        let same : n ≡ k = sym h.0 in (
          is ∙ ap (λ m. Some m) same,
          h.2.state ∙ (λ t. ((observer_more i rs r t).states (same t)).channel.state),
          h.2.owed ∙ (λ t. ((observer_more i rs r t).states (same t)).channel.owed),
        )

-- what its finding may follow from
pub follows_off : (i : Interface) (rs : List Item) (r : Item) (row : JudgedRow) (seen : List Event) → IsJudgedRow i rs r row seen → taker row.judge ≡ None → None ≡ follows_at i rs r row.finding
follows_off i rs r row seen l none = sym (ap (λ q. follows_on i rs q row.finding) (routed_off i rs r row seen l none))

pub follows_here : {A : Type 0} (i : Interface) (rs : List Item) (r : Item) (row : JudgedRow) (seen : List Event) (o : Origins A) (k : ℕ) (f : Finding) (b : Bool) → KeepsOrigins i rs o → IsJudgedRow i rs r row seen → taker row.judge ≡ Some k
    → row.finding ≡ Some f → is_of_course f.code ≡ b → cond b (first_in o.epoch (value_at o.table k)) None ≡ follows_at i rs r row.finding
follows_here i rs r row seen o k f b h l taken found is =
    let to = sym (taker_is i _ (observer i rs) (observer i (rs ++ r ∷ [])) row.judge l.judge) ∙ taken in
    (λ t. cond (sym is t) (first_in (h.epoch t) (h.values k t)) None) ∙ ap (follows_from (observer i rs).epoch (origin_of i rs k)) (sym found) ∙ sym (ap (λ q. follows_on i rs q row.finding) to)
