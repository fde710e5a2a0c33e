-- An observer that represents some rows represents one more after it read it.
use Rattle.std.proofs.Common.{◌≡◌, ◌∙◌, sym, ap, subst, refl, ℕ, suc, ◌+◌, ◌<◌, ◌≤◌, true, true≢false, List, [], ◌∷◌, ◌++◌, map, length, Option, Some, None, arith}
use Rattle.std.specs.Prelude.{All, sum_by}
use Rattle.std.proofs.lemmas.List.{map-append}
use Rattle.std.proofs.lemmas.List.Sums.{sum_by_push}
use Rattle.line_model.specs.declared.interface.Interface.{Interface}
use Rattle.line_model.specs.basics.Records.{Item, Piece}
use Rattle.line_model.specs.channels.Gaps.{GapChannel}
use Rattle.line_model.specs.pieces.Plan.{has_some}
use Rattle.line_model.specs.pieces.Plans.{result_of}
use Rattle.line_model.specs.text.Text.{last_or}
use Rattle.line_model.proofs.Rising.{RisesFrom, rises-from_index}
use Rattle.restart_epochs.specs.OpenRows.{OpenRows, no_rows, rows_of, IsSame}
use Rattle.restart_epochs.specs.ChannelTables.{ChannelTables, value_at, IsEmpty}
use Rattle.restart_epochs.specs.Cutting.{Cutting, IsCutting, IsCounted, given_of, no_cutting}
use Rattle.restart_epochs.proofs.Pushes.{Pushed}
use Rattle.restart_epochs.proofs.Listings.{nothing_cut, nothing_bound}
use Rattle.live_report.specs.declared.observer.Observer.{Observer}
use Rattle.live_report.specs.declared.open_channels.OpenChannel.{OpenChannel}
use Rattle.live_report.specs.OpenChannels.{OpenEpoch, begun_piece, OpenChannelFor, OpenChannelsFor}
use Rattle.live_report.specs.JudgedRows.{KnowsLast}
use Rattle.live_report.specs.Uncounted.{none_left_out, uncounted_of}
use Rattle.live_report.specs.Observing.{AreItems, Holds, Represents}
use Rattle.live_report.proofs.LastLemmas.{no_row}
use Rattle.line_model.proofs.LineLemmas.{last_or-add}

-- ---- open channels

-- the open channels of the same rows
pub open_channels_same : {A C : Type 0} → (I : C → Interface) (N : C → ℕ) (S : C → GapChannel → Type 0) (e n : OpenEpoch) (rows more : OpenRows) (table : ChannelTables (OpenChannel A C))
    → OpenChannelsFor I N S e rows table → n ≡ e → IsSame rows more → OpenChannelsFor I N S n more table
open_channels_same I N S e n rows more table f same_epoch same = record {
  channels = f.channels ∙ sym same.channels;
  each = λ k. subst (λ items. OpenChannelFor I N S (begun_piece n k items) (value_at table k)) (sym (same.rows k))
      (subst (λ m. OpenChannelFor I N S (begun_piece m k (rows_of rows k)) (value_at table k)) (sym same_epoch) (f.each k));
}

other_epoch : {A C : Type 0} → (I : C → Interface) (N : C → ℕ) (S : C → GapChannel → Type 0) (e n : OpenEpoch) (k : ℕ) (items : List Item) (o : Option (OpenChannel A C)) → items ≡ []
    → OpenChannelFor I N S (begun_piece e k items) o → OpenChannelFor I N S (begun_piece n k items) o
other_epoch I N S e n k items None none l = l
other_epoch I N S e n k items (Some entry) none l = absurd (true≢false (sym l.0 ∙ ap has_some none))

-- where no channel has rows, the epoch makes no difference
pub open_channels_bare : {A C : Type 0} → (I : C → Interface) (N : C → ℕ) (S : C → GapChannel → Type 0) (e n : OpenEpoch) (rows : OpenRows) (table : ChannelTables (OpenChannel A C))
    → OpenChannelsFor I N S e rows table → ((k : ℕ) → rows_of rows k ≡ []) → OpenChannelsFor I N S n rows table
open_channels_bare I N S e n rows table f none = record { channels = f.channels; each = λ k. other_epoch I N S e n k (rows_of rows k) (value_at table k) (none k) (f.each k) }

-- no open channels, for no rows
pub open_channels_none : {A C : Type 0} → (I : C → Interface) (N : C → ℕ) (S : C → GapChannel → Type 0) (e : OpenEpoch) (rows : OpenRows) (table : ChannelTables (OpenChannel A C))
    → IsEmpty table → rows ≡ no_rows → OpenChannelsFor I N S e rows table
open_channels_none I N S e rows table empty none = record {
  channels = empty.channels ∙ ap (λ o. o.channels) (sym none);
  each = λ k. subst (OpenChannelFor I N S (begun_piece e k (rows_of rows k))) (sym (empty.values k)) (ap (λ o. rows_of o k) none);
}

-- ---- rows

rises_past : (a : ℕ) (ns : List ℕ) (n : ℕ) → RisesFrom a (ns ++ n ∷ []) → last_or a ns < n
rises_past a [] n h = h.0
rises_past a (m ∷ ns) n h = rises_past m ns n h.1

last_of_all : (P : Item → Type 0) (rs : List Item) (r : Item) → All P (rs ++ r ∷ []) → P r
last_of_all P [] r h = h 0 r (omega arith)
last_of_all P (x ∷ rs) r h = last_of_all P rs r (λ k d lt. h (suc k) d (omega (arith, lt)))

-- a row that may come next
pub record MayCome (c : Cutting) (r : Item) : Type 0 where
  pub rising : c.last < r.number
  pub number : r.number ≤ 999999999
  pub octets : c.octets + r.length ≤ 2147483648

pub may_come : (i : Interface) (c : Cutting) (rs : List Item) (r : Item) → c.last ≡ last_or 0 (map (λ x. x.number) rs) → c.octets ≡ sum_by (λ x. x.length) rs → AreItems i (rs ++ r ∷ []) → MayCome c r
may_come i c rs r last octets h =
    let all : RisesFrom 0 (map (λ x. x.number) rs ++ r.number ∷ []) = subst (RisesFrom 0) (map-append (λ (x : Item). x.number) rs (r ∷ [])) (rises-from_index (0 ∷ map (λ x. x.number) (rs ++ r ∷ [])) h.rising) in
    let past : last_or 0 (map (λ x. x.number) rs) < r.number = rises_past 0 (map (λ x. x.number) rs) r.number all in
    let few = h.octets in
    record {
      rising = omega (arith, last, past);
      number = last_of_all (λ x. x.number ≤ 999999999) rs r h.numbers;
      octets = omega (arith, few, octets, sum_by_push (λ (x : Item). x.length) rs r);
    }

-- ---- one more row

pub next_represents : {A C : Type 0} → (I : C → Interface) (N : C → ℕ) (S : C → GapChannel → Type 0) (i : Interface) (rs : List Item) (r : Item) (more : List Piece) (before new : Observer A C) (after : Cutting)
    → (s : Represents I N S i rs before) → AreItems i (rs ++ r ∷ []) → Pushed i rs r more after → IsCutting after → IsCounted r s.cutting after → Holds I N S after (map result_of (given_of i rs) ++ map result_of more) new
    → (new.keeps_rows ≡ true → KnowsLast i (rs ++ r ∷ []) new.last new.events.items) → new.uncounted ≡ uncounted_of i (rs ++ r ∷ []) → Represents I N S i (rs ++ r ∷ []) new
next_represents I N S i rs r more before new after s sound pushed bounds counted holds known uncounted = record {
  sound = sound;
  cutting = after;
  cut = pushed.represented;
  bounds = bounds;
  last = counted.last ∙ sym (ap (last_or 0) (map-append (λ (x : Item). x.number) rs (r ∷ [])) ∙ last_or-add 0 r.number (map (λ x. x.number) rs));
  octets = counted.octets ∙ ap (λ n. n + r.length) s.octets ∙ sym (sum_by_push (λ (x : Item). x.length) rs r);
  holds = subst (λ reports. Holds I N S after reports new) (sym (ap (map result_of) pushed.given ∙ map-append result_of (given_of i rs) more)) holds;
  row = known;
  uncounted = uncounted;
}

of_no_length : (ps : List Piece) → 0 ≡ length ps → ps ≡ []
of_no_length [] h = refl
of_no_length (p ∷ ps) h = absurd (omega (arith, h))

pub nothing_taken : {A C : Type 0} → (I : C → Interface) (N : C → ℕ) (S : C → GapChannel → Type 0) (i : Interface) (o : Observer A C) → Holds I N S (no_cutting i) [] o → o.uncounted ≡ none_left_out → Represents I N S i [] o
nothing_taken I N S i o holds uncounted = record {
  sound = record { said = tt; rising = λ k lt. absurd (omega (arith, lt)); numbers = λ k d lt. absurd (omega (arith, lt)); octets = omega arith };
  cutting = no_cutting i;
  cut = nothing_cut i;
  bounds = nothing_bound i;
  last = refl;
  octets = refl;
  holds = subst (λ reports. Holds I N S (no_cutting i) reports o) (sym (ap (map result_of) (of_no_length (given_of i []) (nothing_cut i).given))) holds;
  row = λ keeps. no_row i o.last o.events.items;
  uncounted = uncounted;
}
