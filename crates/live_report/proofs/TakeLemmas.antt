-- What an observer holds after one more row.
use Rattle.std.proofs.Common.{◌≡◌, ◌≢◌, ◌∙◌, sym, ap, subst, refl, ℕ, ◌+◌, ◌⊎◌, inl, inr, ◌<◌, Bool, true, false, cond, is_some, List, [], ◌∷◌, ◌++◌, map, length, Result, Ok, Err, OnOk}
use Rattle.std.specs.List.{AllByRecursion}
use Rattle.std.specs.Option.{option_to_list}
use Rattle.line_model.specs.declared.interface.Interface.{Interface}
use Rattle.line_model.specs.declared.route.Route.{Route}
use Rattle.line_model.specs.declared.route.Route.TheVariants.{ToChannel as RouteToChannel, Leave, Enter, Renew, Found, Pass}
use Rattle.line_model.specs.basics.Records.{Item, PieceReport}
use Rattle.line_model.specs.basics.Bounds.{IsPiece, IsSaid}
use Rattle.line_model.specs.channels.Gaps.{GapChannel}
use Rattle.line_model.specs.pieces.Plans.{end_at, result_of}
use Rattle.restart_epochs.specs.ChannelTables.{ChannelTables, IsEmpty}
use Rattle.restart_epochs.specs.OpenRows.{OpenRows, gap_after, last_number, no_rows, rows_of, IsListing}
use Rattle.restart_epochs.specs.declared.walk.EpochWalk.{EpochWalk}
use Rattle.restart_epochs.specs.declared.walk.Step.{Step}
use Rattle.restart_epochs.specs.declared.walk.ChannelEffect.{ChannelEffect}
use Rattle.restart_epochs.specs.declared.walk.ChannelEffect.TheVariants.{ToChannel, ToAll, Ends, Stays}
use Rattle.restart_epochs.specs.Walks.{epoch_after, start_after, effect_of, IsAdvanced, IsSameWalk, IsStep}
use Rattle.restart_epochs.specs.Cutting.{Cutting, IsCutting, IsTakenBy, HasEffect, Represents as IsCutterOf, ended_by, gap_by_effect, given_after, given_of, items_out}
use Rattle.restart_epochs.proofs.Bounds.{channel_piece}
use Rattle.restart_epochs.proofs.OpenChannelSteps.{start_stays}
use Rattle.restart_epochs.proofs.Listings.{bare, has_one_more, rows_with}
use Rattle.restart_epochs.proofs.Taken.{enters_unready, takes, taken_bounds}
use Rattle.report_merge.specs.Gathered.{gathered}
use Rattle.live_report.specs.declared.observer.Observer.{Observer}
use Rattle.live_report.specs.JudgedRows.{KnowsLast}
use Rattle.live_report.specs.Uncounted.{uncounted_of}
use Rattle.live_report.specs.declared.open_channels.OpenChannel.{OpenChannel}
use Rattle.live_report.specs.OpenChannels.{OpenEpoch, begun_piece, OpenChannelFor, OpenChannelsFor}
use Rattle.live_report.specs.AddedPieces.{ArePieces}
use Rattle.live_report.specs.Effects.{MayAffect, epoch_of}
use Rattle.live_report.specs.Observing.{AreItems, Holds, Represents, epoch_at}
use Rattle.live_report.proofs.GapLemmas.{piece_front}
use Rattle.live_report.proofs.RepresentLemmas.{MayCome, open_channels_bare, open_channels_same, may_come, next_represents}
use Rattle.line_model.proofs.Saying.{last_said}
use Rattle.line_model.specs.channels.GapRestart.{routing}
use Rattle.line_model.specs.packets.Says.{gap_items, gap_of}
use Rattle.line_model.specs.observer.Report.{gaps_of}

-- ---- what a cutter keeps after one more row

abbrev pub rows_after : ChannelEffect → Item → (gap : ℕ) → OpenRows → OpenRows
rows_after (ToChannel channel) item gap rows = rows_with rows gap channel item
rows_after Ends item gap rows = no_rows
rows_after _ item gap rows = rows

pub has_effect : (effect : ChannelEffect) (item : Item) (gap : ℕ) (rows : OpenRows) → HasEffect effect item gap rows (rows_after effect item gap rows)
has_effect (ToChannel channel) item gap rows = has_one_more rows gap channel item
has_effect Ends item gap rows = (refl, λ k. inl refl)
has_effect ToAll item gap rows = record { rows = λ k. refl; channels = refl }
has_effect Stays item gap rows = record { rows = λ k. refl; channels = refl }

abbrev pub cutting_after : Cutting → Item → Step → Cutting
cutting_after c item step = record c {
  level = step.machine;
  epoch = step.epoch;
  start = start_after c.epoch c.start step.epoch step.machine;
  given = given_after step.effect c.given c.open_rows;
  packets = c.packets + 1;
  gaps = c.gaps + gaps_of (item ∷ []);
  last = item.number;
  octets = c.octets + item.length;
  findings = c.findings ++ option_to_list step.finding;
  gap = gap_by_effect step.effect item c.gap;
  open_rows = rows_after step.effect item c.gap c.open_rows;
}

pub is_taken : (c : Cutting) (item : Item) (step : Step) → IsTakenBy item step c (cutting_after c item step)
is_taken c item step = record {
  counted = record { interface = refl; packets = refl; gaps = refl; last = refl; octets = refl };
  level = refl;
  epoch = refl;
  start = refl;
  findings = refl;
  given = refl;
  gap = refl;
  open_rows = has_effect step.effect item c.gap c.open_rows;
}

pub cut_after : (i : Interface) (rs : List Item) (c : Cutting) (item : Item) (step : Step) → IsCutterOf i rs c → IsCutting c → c.last < item.number → IsSaid c.interface item → IsStep c.level c.epoch item step → IsCutterOf i (rs ++ item ∷ []) (cutting_after c item step)
cut_after i rs c item step s bounds rising packet is = (takes i rs c (cutting_after c item step) item step s bounds rising packet is (is_taken c item step)).represented

-- ---- open channels

pub on_any : {T E : Type 0} (r : Result T E) (P : Type 0) → P → OnOk r P
on_any (Ok x) P p = p
on_any (Err e) P p = tt

-- where all ended, there are none, and no rows
pub open_channels_ended : {A C : Type 0} → (I : C → Interface) (N : C → ℕ) (S : C → GapChannel → Type 0) (e : OpenEpoch) (rows after : OpenRows) (item : Item) (gap : ℕ) (table : ChannelTables (OpenChannel A C))
    → IsListing rows → HasEffect Ends item gap rows after → IsEmpty table → OpenChannelsFor I N S e after table
open_channels_ended {A} {C} I N S e rows after item gap table listing affected empty = record {
  channels = empty.channels ∙ sym affected.0;
  each = λ k. subst (OpenChannelFor I N S (begun_piece e k (rows_of after k))) (sym (empty.values k)) (none k (affected.1 k));
}
  where
    none : (k : ℕ) → (rows_of after k ≡ []) ⊎ ((rows_of after k ≡ rows_of rows k) × AllByRecursion (λ j. j ≢ k) rows.channels) → rows_of after k ≡ []
    none k (inl gone) = gone
    none k (inr kept) = kept.0 ∙ listing.others k kept.1

-- ---- the same step, by what the observer holds

pub step_of : {A C : Type 0} → (I : C → Interface) (N : C → ℕ) (S : C → GapChannel → Type 0) (c : Cutting) (reports : List PieceReport) (o : Observer A C) (item : Item) (step : Step) → Holds I N S c reports o → IsStep o.walk.machine o.walk.epoch item step → IsStep c.level c.epoch item step
step_of I N S c reports o item step h is = subst (λ l. IsStep l c.epoch item step) h.level (subst (λ n. IsStep o.walk.machine n item step) h.epoch is)

-- the open epoch of its walk
pub epoch_here : {A C : Type 0} → (I : C → Interface) (N : C → ℕ) (S : C → GapChannel → Type 0) (c : Cutting) (reports : List PieceReport) (o : Observer A C) (v : EpochWalk A) → Holds I N S c reports o → IsSameWalk o.walk v → epoch_of v ≡ epoch_at c
epoch_here I N S c reports o v h same = λ t. record { interface = (same.interface ∙ h.interface) t; number = (same.epoch ∙ h.epoch) t; start = (same.start ∙ h.start) t }

pub open_channels_at : {A C : Type 0} → (I : C → Interface) (N : C → ℕ) (S : C → GapChannel → Type 0) (c : Cutting) (reports : List PieceReport) (o : Observer A C) (v : EpochWalk A) → Holds I N S c reports o → IsSameWalk o.walk v → OpenChannelsFor I N S (epoch_of v) c.open_rows o.open_channels.table
open_channels_at I N S c reports o v h same = open_channels_same I N S (epoch_at c) (epoch_of v) c.open_rows c.open_rows o.open_channels.table h.open_channels (epoch_here I N S c reports o v h same) (record { rows = λ k. refl; channels = refl })

-- the rows of each channel, with the last gap of all channels after them, can be a piece
pub pieces_here : {A C : Type 0} → (I : C → Interface) (N : C → ℕ) (S : C → GapChannel → Type 0) (c : Cutting) (reports : List PieceReport) (o : Observer A C) → Holds I N S c reports o → IsCutting c → ArePieces (epoch_at c) o.open_channels.gap c.open_rows
pieces_here I N S c reports o h bounds k = subst (λ n. IsPiece c.interface k (items_out n c.open_rows k)) (sym h.gap) (channel_piece c k bounds)

pub pieces_at : {A C : Type 0} → (I : C → Interface) (N : C → ℕ) (S : C → GapChannel → Type 0) (c : Cutting) (reports : List PieceReport) (o : Observer A C) (v : EpochWalk A) → Holds I N S c reports o → IsSameWalk o.walk v → IsCutting c → ArePieces (epoch_of v) o.open_channels.gap c.open_rows
pieces_at I N S c reports o v h same bounds = subst (λ e. ArePieces e o.open_channels.gap c.open_rows) (sym (epoch_here I N S c reports o v h same)) (pieces_here I N S c reports o h bounds)

-- what the next row says, by the interface that the observer holds
pub said_here : {A C : Type 0} → (I : C → Interface) (N : C → ℕ) (S : C → GapChannel → Type 0) (i : Interface) (rs : List Item) (o : Observer A C) (item : Item) (j : Interface) → Represents I N S i rs o → AreItems i (rs ++ item ∷ []) → o.walk.interface ≡ j → IsSaid j item
said_here I N S i rs o item j s sound same = subst (λ x. IsSaid x item) (sym (s.holds.interface ∙ s.cut.interface) ∙ same) (last_said i rs item sound.said)

-- ---- bounds

pub next_of : {A C : Type 0} → (I : C → Interface) (N : C → ℕ) (S : C → GapChannel → Type 0) (i : Interface) (rs : List Item) (o : Observer A C) (r : Item) → (s : Represents I N S i rs o) → AreItems i (rs ++ r ∷ []) → MayCome s.cutting r
next_of I N S i rs o r s sound = may_come i s.cutting rs r s.last s.octets sound

bounds_after : {A C : Type 0} → (I : C → Interface) (N : C → ℕ) (S : C → GapChannel → Type 0) (i : Interface) (rs : List Item) (o : Observer A C) (item : Item) (step : Step) (s : Represents I N S i rs o) → AreItems i (rs ++ item ∷ [])
    → IsSaid s.cutting.interface item → IsStep s.cutting.level s.cutting.epoch item step → IsCutting (cutting_after s.cutting item step)
bounds_after I N S i rs o item step s sound packet is =
    let may = next_of I N S i rs o item s sound in
    taken_bounds s.cutting (cutting_after s.cutting item step) item step s.bounds packet may.rising may.number may.octets is (is_taken s.cutting item step)

-- the rows of a channel up to its own last one can be a piece
own_rows : (c : Cutting) (k : ℕ) → IsCutting c → IsPiece c.interface k (rows_of c.open_rows k)
own_rows c k h = piece_front c.interface k (rows_of c.open_rows k) (gap_items (gap_after c.gap (last_number (rows_of c.open_rows k)))) (channel_piece c k h)

-- the rows of the channel that a row goes to, with this one, can be a piece
may_affect : {A C : Type 0} → (I : C → Interface) (N : C → ℕ) (S : C → GapChannel → Type 0) (i : Interface) (rs : List Item) (o : Observer A C) (item : Item) (step : Step) (s : Represents I N S i rs o) → AreItems i (rs ++ item ∷ [])
    → IsSaid s.cutting.interface item → IsStep s.cutting.level s.cutting.epoch item step → MayAffect step.effect s.cutting.interface s.cutting.gap item s.cutting.open_rows
may_affect I N S i rs o item step s sound packet is = at step.effect refl
  where
    c : Cutting
    c = s.cutting

    at : (t : ChannelEffect) → step.effect ≡ t → MayAffect t c.interface c.gap item c.open_rows
    at (ToChannel k) e =
        subst (IsPiece c.interface k) (has_one_more c.open_rows c.gap k item).row
        (subst (λ t. IsPiece c.interface k (rows_of (rows_after t item c.gap c.open_rows) k)) e (own_rows (cutting_after c item step) k (bounds_after I N S i rs o item step s sound packet is)))
    at Ends e = tt
    at ToAll e = tt
    at Stays e = tt

-- the same by what the observer holds
pub effects_at : {A C : Type 0} → (I : C → Interface) (N : C → ℕ) (S : C → GapChannel → Type 0) (i : Interface) (rs : List Item) (o : Observer A C) (item : Item) (step : Step) (v : EpochWalk A) (s : Represents I N S i rs o) → AreItems i (rs ++ item ∷ [])
    → IsSaid s.cutting.interface item → IsStep s.cutting.level s.cutting.epoch item step → IsSameWalk o.walk v → MayAffect step.effect v.interface o.open_channels.gap item s.cutting.open_rows
effects_at I N S i rs o item step v s sound packet is same =
    subst (λ j. MayAffect step.effect j o.open_channels.gap item s.cutting.open_rows) (sym (same.interface ∙ s.holds.interface))
    (subst (λ n. MayAffect step.effect s.cutting.interface n item s.cutting.open_rows) (sym s.holds.gap) (may_affect I N S i rs o item step s sound packet is))

-- ---- the epoch after the row

-- the epoch goes on, or no channel has rows
epoch_stays : (i : Interface) (rs : List Item) (c : Cutting) (item : Item) (step : Step) → IsCutterOf i rs c → IsStep c.level c.epoch item step
    → (epoch_at (cutting_after c item step) ≡ epoch_at c) ⊎ ((k : ℕ) → rows_of (rows_after step.effect item c.gap c.open_rows) k ≡ [])
epoch_stays i rs c item step s is = at (routing c.level item).route refl
  where
    same : (q : Route) → (routing c.level item).route ≡ q → epoch_after c.epoch q ≡ c.epoch → epoch_at (cutting_after c item step) ≡ epoch_at c
    same q e kept =
        let epoch = is.epoch ∙ ap (epoch_after c.epoch) e ∙ kept in
        λ t. record { interface = c.interface; number = epoch t; start = start_stays c.epoch step.epoch c.start step.machine epoch t }

    at : (q : Route) → (routing c.level item).route ≡ q → (epoch_at (cutting_after c item step) ≡ epoch_at c) ⊎ ((k : ℕ) → rows_of (rows_after step.effect item c.gap c.open_rows) k ≡ [])
    at RouteToChannel e = inl (same RouteToChannel e refl)
    at (Leave code) e = inl (same (Leave code) e refl)
    at Renew e = inr (λ k. ap (λ t. rows_of (rows_after t item c.gap c.open_rows) k) (is.effect ∙ ap (effect_of item.packet) e))
    at Enter e = inr (λ k. ap (λ t. rows_of (rows_after t item c.gap c.open_rows) k) (is.effect ∙ ap (effect_of item.packet) e) ∙ bare i rs c s (enters_unready c.level item e) k)
    at (Found state code) e = inl (same (Found state code) e refl)
    at Pass e = inl (same Pass e refl)

open_channels_moved : {A C : Type 0} → (I : C → Interface) (N : C → ℕ) (S : C → GapChannel → Type 0) (e n : OpenEpoch) (rows : OpenRows) (table : ChannelTables (OpenChannel A C)) → OpenChannelsFor I N S e rows table → (n ≡ e) ⊎ ((k : ℕ) → rows_of rows k ≡ []) → OpenChannelsFor I N S n rows table
open_channels_moved I N S e n rows table f (inl same) = subst (λ m. OpenChannelsFor I N S m rows table) (sym same) f
open_channels_moved I N S e n rows table f (inr none) = open_channels_bare I N S e n rows table f none

-- ---- one more row

counted_gap : (b : Bool) (r : Item) (n : ℕ) → n + cond b 1 0 ≡ n + length (cond b (r ∷ []) [])
counted_gap true r n = refl
counted_gap false r n = refl

pub holds_after : {A C : Type 0} → (I : C → Interface) (N : C → ℕ) (S : C → GapChannel → Type 0) (i : Interface) (rs : List Item) (c : Cutting) (reports : List PieceReport) (item : Item) (step : Step) (o new : Observer A C) (v : EpochWalk A)
    → IsCutterOf i rs c → IsStep c.level c.epoch item step → Holds I N S c reports o → IsSameWalk o.walk v → IsAdvanced step v new.walk → length reports ≡ c.given
    → new.ended ≡ gathered (reports ++ map result_of (ended_by step.effect v.interface v.epoch v.start (end_at item) (length reports) o.open_channels.gap c.open_rows))
    → new.open_channels.gap ≡ gap_by_effect step.effect item o.open_channels.gap
    → OpenChannelsFor I N S (epoch_of v) (rows_after step.effect item c.gap c.open_rows) new.open_channels.table
    → Holds I N S (cutting_after c item step) (reports ++ map result_of (ended_by step.effect c.interface c.epoch c.start (end_at item) c.given c.gap c.open_rows)) new
holds_after I N S i rs c reports item step o new v s is h same on many ended gap open_channels =
    let here = epoch_here I N S c reports o v h same in
    let rows = rows_after step.effect item c.gap c.open_rows in
    record {
      interface = on.interface ∙ same.interface ∙ h.interface;
      level = on.machine;
      epoch = on.epoch;
      start = on.start ∙ ap (λ e. start_after e.number e.start step.epoch step.machine) here;
      packets = on.packets ∙ ap (λ n. n + 1) (same.packets ∙ h.packets);
      gaps = on.gaps ∙ ap (λ n. n + cond step.gap 1 0) (same.gaps ∙ h.gaps) ∙ ap (λ b. c.gaps + cond b 1 0) is.gap ∙ counted_gap (is_some (gap_of item.packet)) item c.gaps;
      findings = on.findings ∙ ap (λ l. l ++ option_to_list step.finding) (same.findings ∙ h.findings);
      ended = ended ∙ (λ t. gathered (reports ++ map result_of (ended_by step.effect (here t).interface (here t).number (here t).start (end_at item) (many t) (h.gap t) c.open_rows)));
      gap = gap ∙ ap (gap_by_effect step.effect item) h.gap;
      open_channels = open_channels_moved I N S (epoch_at c) (epoch_at (cutting_after c item step)) rows new.open_channels.table
          (open_channels_same I N S (epoch_of v) (epoch_at c) rows rows new.open_channels.table open_channels (sym here) (record { rows = λ k. refl; channels = refl })) (epoch_stays i rs c item step s is);
    }

pub represents_after : {A C : Type 0} → (I : C → Interface) (N : C → ℕ) (S : C → GapChannel → Type 0) (i : Interface) (rs : List Item) (r : Item) (o new : Observer A C) (item : Item) (step : Step) (s : Represents I N S i rs o) → item ≡ r → AreItems i (rs ++ item ∷ [])
    → IsSaid s.cutting.interface item → IsStep s.cutting.level s.cutting.epoch item step
    → Holds I N S (cutting_after s.cutting item step) (map result_of (given_of i rs) ++ map result_of (ended_by step.effect s.cutting.interface s.cutting.epoch s.cutting.start (end_at item) s.cutting.given s.cutting.gap s.cutting.open_rows)) new
    → (new.keeps_rows ≡ true → KnowsLast i (rs ++ item ∷ []) new.last new.events.items) → new.uncounted ≡ uncounted_of i (rs ++ item ∷ []) → Represents I N S i (rs ++ r ∷ []) new
represents_after I N S i rs r o new item step s same sound packet is holds known uncounted =
    let c = s.cutting in
    let after = cutting_after c item step in
    let t = is_taken c item step in
    let may = next_of I N S i rs o item s sound in
    subst (λ x. Represents I N S i (rs ++ x ∷ []) new) same
    (next_represents I N S i rs item (ended_by step.effect c.interface c.epoch c.start (end_at item) c.given c.gap c.open_rows) o new after s sound (takes i rs c after item step s.cut s.bounds may.rising packet is t)
    (bounds_after I N S i rs o item step s sound packet is) t.counted holds known uncounted)
