-- A cutter with the rows of a block represents one row more, once the block's cutter read it.
use Rattle.std.proofs.Common.{◌≡◌, ◌≢◌, ◌∙◌, sym, ap, subst, refl, ℕ, zero, suc, ◌+◌, ◌<◌, ◌≤◌, ◌==◌, ◌⊎◌, inl, inr, Bool, true, false, cond, eqb, List, [], ◌∷◌, ◌++◌, length, arith, append-nil, append_assoc, length-append, Option, Some, option_to_list}
use Rattle.std.specs.List.{range_with_len}
use Rattle.std.proofs.lemmas.Bool.{eq-eqb, eqb-false, eqb-true, ne_eqb}
use Rattle.std.proofs.lemmas.List.{map-append}
use Rattle.std.proofs.lemmas.List.Sums.{sum_by_push}
use Rattle.line_model.proofs.LineLemmas.{last_or-add}
use Rattle.line_model.specs.declared.gap.EpochStart.{EpochStart}
use Rattle.line_model.specs.declared.interface.Interface.{Interface}
use Rattle.line_model.specs.declared.route.Route.{Route}
use Rattle.line_model.specs.declared.route.Route.TheVariants.{ToChannel, Leave, Enter, Renew, Found, Pass}
use Rattle.line_model.specs.basics.Bounds.{IsPiece, IsSaid, all_octets}
use Rattle.line_model.specs.basics.Records.{Item, Piece}
use Rattle.line_model.specs.observer.Report.{gaps_of}
use Rattle.line_model.specs.pieces.Plans.{end_at}
use Rattle.line_model.specs.channels.GapRestart.{GapInterfaceState, is_gap_of_all, routing, start_by}
use Rattle.line_model.specs.packets.Says.{packet_channel}
use Rattle.line_model.specs.pieces.Plan.{has_some}
use Rattle.line_model.specs.text.Text.{last_or}
use Rattle.restart_epochs.specs.BlockCuts.{AreAllOut, AreFit, BlockRows, Comes, EpochRows, FitsEpoch, HasCut, IsBehind, IsCutApart, IsJoined, both, epoch_ended, gap_joined, gap_left, items_ended, joined, open_channels_both, listed, parts_of, pieces_at, pieces_ended, pieces_of, rows_after, rows_on, with_parts}
use Rattle.restart_epochs.specs.Cutting.{Cutting, HasEffect, IsCutting, IsTakenBy, IsUnchanged, Represents, ended_by, gap_by_effect, given_after, given_of, items_out, pieces_out}
use Rattle.restart_epochs.specs.ChannelTables.{open_channel_at}
use Rattle.restart_epochs.specs.OpenRows.{OpenRows, last_number, no_rows, rows_in, rows_of, with_gap, with_part, HasMore, IsSame}
use Rattle.restart_epochs.specs.Walks.{IsStep, epoch_after, passed, start_after, start_joined, effect_of}
use Rattle.restart_epochs.specs.declared.walk.Step.{Step}
use Rattle.restart_epochs.specs.declared.walk.ChannelEffect.{ChannelEffect}
use Rattle.restart_epochs.specs.declared.walk.ChannelEffect as effects
use Rattle.restart_epochs.proofs.Added.{channel_within, listed_more, lists, same_bounds, same_represents, some_behind, within_open}
use Rattle.restart_epochs.proofs.Bounds.{channel_piece}
use Rattle.restart_epochs.proofs.Comings.{come_behind, come_first, come_up, numbers}
use Rattle.restart_epochs.proofs.GapRows.{joined_later, last_pushed, part_more, part_none, part_some}
use Rattle.restart_epochs.proofs.OpenChannelSteps.{start_anew, start_stays}
use Rattle.restart_epochs.proofs.Listed.{none_listed}
use Rattle.restart_epochs.proofs.Pushes.{Pushed, out-length}
use Rattle.restart_epochs.proofs.Routes.{is_to_channel, not_for_all}
use Rattle.restart_epochs.proofs.Taken.{taken_bounds, takes}

-- ---- rows of both tables

open_channels_rows : (gap : ℕ) (ls ms : List (Option (List Item))) (k : ℕ) → rows_in (open_channel_at (open_channels_both gap ls ms) k) ≡ with_part gap (rows_in (open_channel_at ls k)) (rows_in (open_channel_at ms k))
open_channels_rows gap ls [] k = sym (part_none gap (rows_in (open_channel_at ls k)))
open_channels_rows gap [] (b ∷ ms) zero = refl
open_channels_rows gap [] (b ∷ ms) (suc k) = open_channels_rows gap [] ms k
open_channels_rows gap (a ∷ ls) (b ∷ ms) zero = refl
open_channels_rows gap (a ∷ ls) (b ∷ ms) (suc k) = open_channels_rows gap ls ms k

pub both_rows : (n gap : ℕ) (a b : OpenRows) (k : ℕ) → rows_of (both n gap a b) k ≡ with_part gap (rows_of a k) (rows_of b k)
both_rows n gap a b k = open_channels_rows gap a.open_channels b.open_channels k

-- ---- the pieces of one epoch more

rows_ended : (o : OpenRows) (es : List EpochRows) (e : EpochRows) → rows_after o (es ++ e ∷ []) ≡ no_rows
rows_ended o [] e = refl
rows_ended o (x ∷ es) e = refl

gap_ended : (gap : ℕ) (es : List EpochRows) (e : EpochRows) → gap_left gap (es ++ e ∷ []) ≡ 0
gap_ended gap [] e = refl
gap_ended gap (x ∷ es) e = refl

none_after : (es : List EpochRows) → (rows_after no_rows es ≡ no_rows) × (gap_left 0 es ≡ 0)
none_after [] = (refl, refl)
none_after (e ∷ es) = (refl, refl)

pub at-length : (i : Interface) (epoch : ℕ) (start : EpochStart) (given gap : ℕ) (o : OpenRows) (e : EpochRows) → length (pieces_at i epoch start given gap o e) ≡ length (listed i.svc (with_parts gap o e.parts))
at-length i epoch start given gap o e = out-length i (epoch + e.epoch) (start_joined e.epoch start e.start) (Some e.end) (items_ended gap o e) given (listed i.svc (with_parts gap o e.parts))

pieces_more : (i : Interface) (epoch : ℕ) (start : EpochStart) (given gap : ℕ) (o : OpenRows) (es : List EpochRows) (e : EpochRows)
    → pieces_of i epoch start given gap o (es ++ e ∷ [])
    ≡ pieces_of i epoch start given gap o es ++ pieces_at i epoch start (given + length (pieces_of i epoch start given gap o es)) (gap_left gap es) (rows_after o es) e
pieces_more i epoch start given gap o [] e =
    append-nil (pieces_at i epoch start given gap o e) ∙ ap (λ n. pieces_at i epoch start n gap o e) (omega arith)
pieces_more i epoch start given gap o (x ∷ es) e =
    let next = given + length (listed i.svc (with_parts gap o x.parts)) in
    let first = pieces_at i epoch start given gap o x in
    let rest = pieces_of i epoch start next 0 no_rows es in
    ap (λ l. first ++ l) (pieces_more i epoch start next 0 no_rows es e ∙ (λ j. rest ++ pieces_at i epoch start (next + length rest) ((none_after es).1 j) ((none_after es).0 j) e))
    ∙ sym (append_assoc first rest (pieces_at i epoch start (next + length rest) 0 no_rows e))
    ∙ ap (λ n. (first ++ rest) ++ pieces_at i epoch start n 0 no_rows e) (omega (arith, length-append first rest, at-length i epoch start given gap o x))

fit_more : (i : Interface) (epoch gap : ℕ) (o : OpenRows) (es : List EpochRows) (e : EpochRows) → AreFit i epoch gap o es → FitsEpoch i epoch (gap_left gap es) (rows_after o es) e → AreFit i epoch gap o (es ++ e ∷ [])
fit_more i epoch gap o [] e all fits = (fits, tt)
fit_more i epoch gap o (x ∷ es) e all fits = (all.0, fit_more i epoch 0 no_rows es e all.1 (subst (λ g. FitsEpoch i epoch g (rows_after no_rows es) e) (sym (none_after es).1) (subst (λ o'. FitsEpoch i epoch 0 o' e) (sym (none_after es).0) fits)))

-- what is left of the cutter came before the block
kept_up : (c : Cutting) → IsCutting c → (es : List EpochRows) (k : ℕ) → (last_number (rows_of (rows_after c.open_rows es) k) ≤ c.last) × (gap_left c.gap es ≤ c.last)
kept_up c bounds [] k = ((bounds.open_channels k).up_to, bounds.gap)
kept_up c bounds (e ∷ es) k = (omega arith, omega arith)

-- ---- what a row does to both

-- the row changed the cutter that was joined as it did the block's
record AffectedBoth (effect : ChannelEffect) (item : Item) (c : Cutting) (b b' : BlockRows) : Type 0 where
  rows : HasEffect effect item (joined c b).gap (joined c b).open_rows (joined c b').open_rows
  gap : (joined c b').gap ≡ gap_by_effect effect item (joined c b).gap
  pieces : pieces_ended c b' ≡ pieces_ended c b ++ ended_by effect c.interface (c.epoch + b.epoch) (joined c b).start (end_at item) (joined c b).given (joined c b).gap (joined c b).open_rows
  count : (joined c b').given ≡ given_after effect (joined c b).given (joined c b).open_rows
  listed : b'.rows.channels ≡ listed c.interface.svc (rows_of b'.rows)
  fit : AreFit c.interface c.epoch c.gap c.open_rows b'.ended
  behind : IsBehind c.last b'

-- what was so before the row
record IsBefore (c : Cutting) (b : BlockRows) : Type 0 where
  listed : b.rows.channels ≡ listed c.interface.svc (rows_of b.rows)
  fit : AreFit c.interface c.epoch c.gap c.open_rows b.ended
  behind : IsBehind c.last b

-- no epoch ends with it
abbrev quiet_rows : Cutting → List EpochRows → OpenRows → OpenRows
quiet_rows c es o = both c.interface.svc (gap_left c.gap es) (rows_after c.open_rows es) o

on_channel_both : (c : Cutting) (b b' : BlockRows) (item : Item) (k : ℕ) → IsCutting c → is_gap_of_all item ≡ false → 1 ≤ k → k ≤ c.interface.svc → IsBefore c b → b'.ended ≡ b.ended → HasMore b.gap k item b.rows b'.rows
    → HasMore (joined c b).gap k item (joined c b).open_rows (joined c b').open_rows
on_channel_both c b b' item k bounds own lo hi was same more =
    let n = c.interface.svc in
    let g = gap_left c.gap b.ended in
    let o = rows_after c.open_rows b.ended in
    let before : OpenRows = both n g o b.rows in
    let after : OpenRows = both n g o b'.rows in
    let up = kept_up c bounds b.ended k in
    let row : rows_of after k ≡ with_gap (joined c b).gap (rows_of before k) ++ item ∷ [] =
    both_rows n g o b'.rows k ∙ ap (with_part g (rows_of o k)) more.row ∙ part_more g b.gap c.last (rows_of o k) (rows_of b.rows k) item own up.0 up.1 was.behind.gap (was.behind.rows k)
    ∙ ap (λ l. with_gap (joined c b).gap l ++ item ∷ []) (sym (both_rows n g o b.rows k)) in
    let others : (j : ℕ) → j ≢ k → rows_of after j ≡ rows_of before j = λ j ne.
    both_rows n g o b'.rows j ∙ ap (with_part g (rows_of o j)) (more.others j ne) ∙ sym (both_rows n g o b.rows j) in
    subst (λ es. HasMore (joined c b).gap k item before (quiet_rows c es b'.rows)) (sym same)
    (record { row = row; others = others; channels = listed_more n k item (with_gap (joined c b).gap (rows_of before k)) before after lo hi row others refl })

-- the pieces of no epoch more
same_pieces : (c : Cutting) (b b' : BlockRows) → b'.ended ≡ b.ended → pieces_ended c b' ≡ pieces_ended c b ++ []
same_pieces c b b' same = ap (pieces_of c.interface c.epoch c.start c.given c.gap c.open_rows) same ∙ sym (append-nil (pieces_ended c b))

same_count : (c : Cutting) (b b' : BlockRows) → b'.ended ≡ b.ended → (joined c b').given ≡ (joined c b).given
same_count c b b' same = ap (λ es. c.given + length (pieces_of c.interface c.epoch c.start c.given c.gap c.open_rows es)) same

same_fit : (c : Cutting) (b b' : BlockRows) → b'.ended ≡ b.ended → AreFit c.interface c.epoch c.gap c.open_rows b.ended → AreFit c.interface c.epoch c.gap c.open_rows b'.ended
same_fit c b b' same fit = subst (AreFit c.interface c.epoch c.gap c.open_rows) (sym same) fit

same_gap : (c : Cutting) (b b' : BlockRows) → b'.ended ≡ b.ended → b'.gap ≡ b.gap → (joined c b').gap ≡ (joined c b).gap
same_gap c b b' same kept = λ j. gap_joined (gap_left c.gap (same j)) (kept j)

-- the row of a channel comes last there
behind_on : (last : ℕ) (b b' : BlockRows) (item : Item) (k : ℕ) → last < item.number → b'.gap ≡ b.gap → HasMore b.gap k item b.rows b'.rows → IsBehind last b → IsBehind last b'
behind_on last b b' item k lt kept more was = record {
  gap = subst (λ n. (n ≡ 0) ⊎ (last < n)) (sym kept) was.gap;
  rows = λ j. at j (eqb j k) refl;
}
  where
    at : (j : ℕ) (v : Bool) → eqb j k ≡ v → (rows_of b'.rows j ≡ []) ⊎ (last < last_number (rows_of b'.rows j))
    at j true e =
        let number : last_number (rows_of b'.rows j) ≡ item.number = ap (λ m. last_number (rows_of b'.rows m)) (eqb-true j k e) ∙ ap last_number more.row ∙ last_pushed (with_gap b.gap (rows_of b.rows k)) item in
        inr (omega (arith, lt, number))
    at j false e = subst (λ l. (l ≡ []) ⊎ (last < last_number l)) (sym (more.others j (eqb-false j k e))) (was.rows j)

affected_on : (c : Cutting) (b b' : BlockRows) (item : Item) (k : ℕ) → IsCutting c → c.last < item.number → is_gap_of_all item ≡ false → 1 ≤ k → k ≤ c.interface.svc → IsBefore c b → b'.gap ≡ b.gap → b'.ended ≡ b.ended → HasMore b.gap k item b.rows b'.rows
    → AffectedBoth (effects.TheVariants.ToChannel k) item c b b'
affected_on c b b' item k bounds lt own lo hi was kept same more = record {
  rows = on_channel_both c b b' item k bounds own lo hi was same more;
  gap = same_gap c b b' same kept;
  pieces = same_pieces c b b' same;
  count = same_count c b b' same;
  listed = more.channels ∙ sym (listed_more c.interface.svc k item (with_gap b.gap (rows_of b.rows k)) b.rows b'.rows lo hi more.row more.others was.listed);
  fit = same_fit c b b' same was.fit;
  behind = behind_on c.last b b' item k lt kept more was.behind;
}

-- the rows stay as they are
kept_both : (c : Cutting) (b b' : BlockRows) → b'.ended ≡ b.ended → b'.rows ≡ b.rows → IsSame (joined c b).open_rows (joined c b').open_rows
kept_both c b b' same kept =
    let is : (joined c b').open_rows ≡ (joined c b).open_rows = λ j. quiet_rows c (same j) (kept j) in
    record { rows = λ k. ap (λ o. rows_of o k) is; channels = ap (λ (o : OpenRows). o.channels) is }

kept_listed : (n : ℕ) (b b' : BlockRows) → b'.rows ≡ b.rows → b.rows.channels ≡ listed n (rows_of b.rows) → b'.rows.channels ≡ listed n (rows_of b'.rows)
kept_listed n b b' kept was = ap (λ (o : OpenRows). o.channels) kept ∙ was ∙ ap (λ o. listed n (rows_of o)) (sym kept)

kept_behind : (last : ℕ) (b b' : BlockRows) → (b'.gap ≡ 0) ⊎ (last < b'.gap) → b'.rows ≡ b.rows → IsBehind last b → IsBehind last b'
kept_behind last b b' gap kept was = record { gap = gap; rows = λ k. subst (λ (o : OpenRows). (rows_of o k ≡ []) ⊎ (last < last_number (rows_of o k))) (sym kept) (was.rows k) }

affected_not : (c : Cutting) (b b' : BlockRows) (item : Item) → IsBefore c b → b'.gap ≡ b.gap → b'.ended ≡ b.ended → b'.rows ≡ b.rows → AffectedBoth effects.TheVariants.Stays item c b b'
affected_not c b b' item was at same kept = record {
  rows = kept_both c b b' same kept;
  gap = same_gap c b b' same at;
  pieces = same_pieces c b b' same;
  count = same_count c b b' same;
  listed = kept_listed c.interface.svc b b' kept was.listed;
  fit = same_fit c b b' same was.fit;
  behind = kept_behind c.last b b' (subst (λ n. (n ≡ 0) ⊎ (c.last < n)) (sym at) was.behind.gap) kept was.behind;
}

affected_all : (c : Cutting) (b b' : BlockRows) (item : Item) → c.last < item.number → IsBefore c b → b'.gap ≡ item.number → b'.ended ≡ b.ended → b'.rows ≡ b.rows → AffectedBoth effects.TheVariants.ToAll item c b b'
affected_all c b b' item lt was at same kept = record {
  rows = kept_both c b b' same kept;
  gap = ap (gap_joined (gap_left c.gap b'.ended)) at ∙ joined_later (gap_left c.gap b'.ended) item.number (omega (arith, lt));
  pieces = same_pieces c b b' same;
  count = same_count c b b' same;
  listed = kept_listed c.interface.svc b b' kept was.listed;
  fit = same_fit c b b' same was.fit;
  behind = kept_behind c.last b b' (inr (omega (arith, lt, at))) kept was.behind;
}

-- what is passed
affected_passed : (all : Bool) (c : Cutting) (b b' : BlockRows) (item : Item) → c.last < item.number → IsBefore c b → b'.gap ≡ gap_by_effect (passed all) item b.gap → HasCut (passed all) item b.epoch b.start b.gap b.ended b'.ended b.rows b'.rows → AffectedBoth (passed all) item c b b'
affected_passed true c b b' item lt was at cut = affected_all c b b' item lt was at cut.0 cut.1
affected_passed false c b b' item lt was at cut = affected_not c b b' item was at cut.0 cut.1

-- the epoch that ends with it
abbrev ended_rows : BlockRows → Item → EpochRows
ended_rows b item = epoch_ended item b.epoch b.start b.gap b.rows

-- its items are those of the cutter that was joined
ended_items : (c : Cutting) (b : BlockRows) (item : Item) → ((k : ℕ) → rows_on k (ended_rows b item).parts ≡ rows_of b.rows k) → (k : ℕ)
    → items_ended (gap_left c.gap b.ended) (rows_after c.open_rows b.ended) (ended_rows b item) k ≡ items_out (joined c b).gap (joined c b).open_rows k
ended_items c b item parts k =
    let g = gap_left c.gap b.ended in
    let o = rows_after c.open_rows b.ended in
    ap (with_gap (joined c b).gap) (ap (with_part g (rows_of o k)) (parts k) ∙ sym (both_rows c.interface.svc g o b.rows k))

ended_fits : (i : Interface) (rows : List Item) (c : Cutting) (b : BlockRows) (item : Item) → Represents i rows (joined c b) → IsCutting (joined c b) → b.rows.channels ≡ listed c.interface.svc (rows_of b.rows)
    → ((k : ℕ) → rows_on k (ended_rows b item).parts ≡ rows_of b.rows k) → FitsEpoch c.interface c.epoch (gap_left c.gap b.ended) (rows_after c.open_rows b.ended) (ended_rows b item)
ended_fits i rows c b item represented bounds was parts =
    let g = gap_left c.gap b.ended in
    let o = rows_after c.open_rows b.ended in
    let each : (k : ℕ) → rows_of (joined c b).open_rows k ≡ with_parts g o (ended_rows b item).parts k = λ k. both_rows c.interface.svc g o b.rows k ∙ ap (with_part g (rows_of o k)) (sym (parts k)) in
    let packets = bounds.rows in
    let last = bounds.last in
    let epochs = bounds.epochs in
    let fun : rows_of b.rows ≡ (λ k. rows_on k (ended_rows b item).parts) = λ j k. sym (parts k) j in
    record {
      epochs = omega (arith, packets, last, epochs);
      pieces = λ k. subst (IsPiece c.interface k) (sym (ended_items c b item parts k)) (channel_piece (joined c b) k bounds);
      channels = λ k some. subst (λ (j : Interface). (1 ≤ k) × (k ≤ j.svc)) (sym represented.interface)
          (within_open i rows (joined c b) represented k (ap has_some (each k) ∙ part_some g (rows_of o k) (rows_on k (ended_rows b item).parts) ∙ some_behind (rows_of o k) (rows_on k (ended_rows b item).parts) some));
      parts = ap (parts_of (rows_of b.rows)) was ∙ ap (λ f. parts_of f (listed c.interface.svc f)) fun;
    }

affected_ends : (i : Interface) (rows : List Item) (c : Cutting) (b b' : BlockRows) (item : Item) → Represents i rows (joined c b) → IsCutting (joined c b) → IsBefore c b
    → b'.gap ≡ 0 → b'.ended ≡ b.ended ++ ended_rows b item ∷ [] → AreAllOut b.rows b'.rows → AffectedBoth effects.TheVariants.Ends item c b b'
affected_ends i rows c b b' item represented bounds was at one out =
    let n = c.interface.svc in
    let g = gap_left c.gap b.ended in
    let o = rows_after c.open_rows b.ended in
    let e = ended_rows b item in
    let c1 = joined c b in
    let left : rows_after c.open_rows b'.ended ≡ no_rows = ap (rows_after c.open_rows) one ∙ rows_ended c.open_rows b.ended e in
    let freed : gap_left c.gap b'.ended ≡ 0 = ap (gap_left c.gap) one ∙ gap_ended c.gap b.ended e in
    let none : (k : ℕ) → rows_of (joined c b').open_rows k ≡ [] = λ k. both_rows n (gap_left c.gap b'.ended) (rows_after c.open_rows b'.ended) b'.rows k ∙ (λ j. with_part (freed j) (rows_of (left j) k) (out.none k j)) in
    let whole : with_parts g o e.parts ≡ rows_of c1.open_rows = λ j k. (ap (with_part g (rows_of o k)) (out.parts k) ∙ sym (both_rows n g o b.rows k)) j in
    let items : items_ended g o e ≡ items_out c1.gap c1.open_rows = λ j k. ended_items c b item out.parts k j in
    let more : pieces_ended c b' ≡ pieces_ended c b ++ pieces_out c.interface (c.epoch + b.epoch) c1.start (Some (end_at item)) (items_out c1.gap c1.open_rows) c1.given c1.open_rows.channels =
    ap (pieces_of c.interface c.epoch c.start c.given c.gap c.open_rows) one ∙ pieces_more c.interface c.epoch c.start c.given c.gap c.open_rows b.ended e
    ∙ (λ j. pieces_ended c b ++ pieces_out c.interface (c.epoch + b.epoch) c1.start (Some (end_at item)) (items j) c1.given (listed n (whole j))) in
    record {
      rows = (none_listed (λ k. has_some (rows_of (joined c b').open_rows k)) (range_with_len 1 n) (λ k. ap has_some (none k)), λ k. inl (none k));
      gap = (λ j. gap_joined (freed j) (at j));
      pieces = more;
      count = let all : length (pieces_ended c b') ≡ length (pieces_ended c b) + length c1.open_rows.channels =
          ap (λ (l : List Piece). length l) more ∙ length-append (pieces_ended c b) _ ∙ ap (λ m. length (pieces_ended c b) + m) (out-length c.interface (c.epoch + b.epoch) c1.start (Some (end_at item)) (items_out c1.gap c1.open_rows) c1.given c1.open_rows.channels) in
          omega (arith, all);
      listed = out.channels ∙ sym (none_listed (λ k. has_some (rows_of b'.rows k)) (range_with_len 1 n) (λ k. ap has_some (out.none k)));
      fit = subst (AreFit c.interface c.epoch c.gap c.open_rows) (sym one) (fit_more c.interface c.epoch c.gap c.open_rows b.ended e was.fit (ended_fits i rows c b item represented bounds was.listed out.parts));
      behind = record { gap = inl at; rows = λ k. inl (out.none k) };
    }

affected_both : (i : Interface) (rs items : List Item) (c : Cutting) (b b' : BlockRows) (item : Item) → IsCutting c → c.last < item.number → IsJoined i rs c items b → IsSaid c.interface item → (route : Route) → (routing b.level item).route ≡ route
    → b'.gap ≡ gap_by_effect (effect_of item.packet route) item b.gap → HasCut (effect_of item.packet route) item b.epoch b.start b.gap b.ended b'.ended b.rows b'.rows → AffectedBoth (effect_of item.packet route) item c b b'
affected_both i rs items c b b' item bounds lt h said route is at cut = by route is at cut
  where
    was : IsBefore c b
    was = record { listed = h.listed; fit = h.fit; behind = h.behind }

    by : (q : Route) → (routing b.level item).route ≡ q → b'.gap ≡ gap_by_effect (effect_of item.packet q) item b.gap → HasCut (effect_of item.packet q) item b.epoch b.start b.gap b.ended b'.ended b.rows b'.rows → AffectedBoth (effect_of item.packet q) item c b b'
    by ToChannel is at cut =
        let w = channel_within c.interface b.level item is said in
        affected_on c b b' item (packet_channel item.packet) bounds lt (not_for_all b.level item (ap is_to_channel is)) w.0 w.1 was at cut.0 cut.1
    by (Leave code) is at cut = affected_ends i (rs ++ items) c b b' item h.represented h.bounds was at cut.0 cut.1
    by Renew is at cut = affected_ends i (rs ++ items) c b b' item h.represented h.bounds was at cut.0 cut.1
    by Enter is at cut = affected_not c b b' item was at cut.0 cut.1
    by (Found s n) is at cut = affected_not c b b' item was at cut.0 cut.1
    by Pass is at cut = affected_passed (is_gap_of_all item) c b b' item lt was at cut

-- ---- a row more

epoch_raised : (a b : ℕ) (route : Route) → a + epoch_after b route ≡ epoch_after (a + b) route
epoch_raised a b Enter = omega arith
epoch_raised a b Renew = omega arith
epoch_raised a b ToChannel = refl
epoch_raised a b (Leave code) = refl
epoch_raised a b (Found s n) = refl
epoch_raised a b Pass = refl

-- the next epoch, or the same
next_epoch : (n : ℕ) (route : Route) → (epoch_after n route ≡ n) ⊎ (epoch_after n route ≡ n + 1)
next_epoch n Enter = inr refl
next_epoch n Renew = inr refl
next_epoch n ToChannel = inl refl
next_epoch n (Leave code) = inl refl
next_epoch n (Found s c) = inl refl
next_epoch n Pass = inl refl

-- how the open epoch began
start_raised : (a n next : ℕ) (before later : EpochStart) (machine : GapInterfaceState) → (next ≡ n) ⊎ (next ≡ n + 1)
    → start_joined next before (start_after n later next machine) ≡ start_after (a + n) (start_joined n before later) (a + next) machine
start_raised a n next before later machine (inl same) =
    ap (start_joined next before) (start_stays n next later machine same) ∙ ap (λ m. start_joined m before later) same
    ∙ sym (start_stays (a + n) (a + next) (start_joined n before later) machine (omega (arith, same)))
start_raised a n next before later machine (inr more) =
    ap (start_joined next before) (start_anew n next later machine (omega (arith, more)))
    ∙ later_joined next before (start_by machine) (omega (arith, more))
    ∙ sym (start_anew (a + n) (a + next) (start_joined n before later) machine (omega (arith, more)))
  where
    joined_if : (same : Bool) → EpochStart → EpochStart → EpochStart
    joined_if v s t = elim v [ true ↦ s | false ↦ t ]

    later_joined : (m : ℕ) (s t : EpochStart) → 0 < m → start_joined m s t ≡ t
    later_joined m s t lt = ap (λ v. joined_if v s t) (ne_eqb m 0 (λ none. omega (arith, lt, none)))

-- a block's rows, and the same with one row more
pub record IsBlockTaken (item : Item) (step : Step) (b b' : BlockRows) : Type 0 where
  pub level : b'.level ≡ step.machine
  pub epoch : b'.epoch ≡ step.epoch
  pub start : b'.start ≡ start_after b.epoch b.start step.epoch step.machine
  pub packets : b'.packets ≡ b.packets + 1
  pub gaps : b'.gaps ≡ b.gaps + gaps_of (item ∷ [])
  pub last : b'.last ≡ item.number
  pub octets : b'.octets ≡ b.octets + item.length
  pub findings : b'.findings ≡ b.findings ++ option_to_list step.finding
  pub gap : b'.gap ≡ gap_by_effect step.effect item b.gap
  pub cut : HasCut step.effect item b.epoch b.start b.gap b.ended b'.ended b.rows b'.rows

last_row : (n m last number : ℕ) → n ≡ m + 1 → cond (n == 0) last number ≡ number
last_row n m last number h = ap (λ b. cond b last number) (ne_eqb n 0 (λ none. omega (arith, h, none)))

-- the step of the cutter that was joined
abbrev step_joined : Cutting → Step → Step
step_joined c step = record { machine = step.machine; epoch = c.epoch + step.epoch; finding = step.finding; gap = step.gap; effect = step.effect }

taken_joined : (c : Cutting) (b b' : BlockRows) (item : Item) (step : Step) → IsStep b.level b.epoch item step → IsBlockTaken item step b b' → AffectedBoth step.effect item c b b' → IsTakenBy item (step_joined c step) (joined c b) (joined c b')
taken_joined c b b' item step is t affected = record {
  counted = record {
    interface = refl;
    packets = omega (arith, t.packets);
    gaps = omega (arith, t.gaps);
    last = ap (λ m. cond (b'.packets == 0) c.last m) t.last ∙ last_row b'.packets b.packets c.last item.number t.packets;
    octets = omega (arith, t.octets);
  };
  level = t.level;
  epoch = ap (λ m. c.epoch + m) t.epoch;
  start = (λ j. start_joined (t.epoch j) c.start (t.start j))
      ∙ start_raised c.epoch b.epoch step.epoch c.start b.start step.machine (subst (λ n. (n ≡ b.epoch) ⊎ (n ≡ b.epoch + 1)) (sym is.epoch) (next_epoch b.epoch (routing b.level item).route));
  findings = ap (λ l. c.findings ++ l) t.findings ∙ sym (append_assoc c.findings b.findings (option_to_list step.finding));
  given = affected.count;
  gap = affected.gap;
  open_rows = affected.rows;
}

more_joined : (i : Interface) (rs items : List Item) (c : Cutting) (b b' : BlockRows) (item : Item) (step : Step) → IsCutting c → IsStep b.level b.epoch item step → IsBlockTaken item step b b' → Comes c.interface c.last c.octets (items ++ item ∷ []) → IsJoined i rs c items b
    → IsJoined i rs c (items ++ item ∷ []) b'
more_joined i rs items c b b' item step bounds is t come h =
    let c1 = joined c b in
    let c2 = joined c b' in
    let next : Comes c.interface (last_or c.last (numbers items)) (c.octets + all_octets items) (item ∷ []) = come_behind c.interface c.last c.octets items (item ∷ []) come in
    let route = (routing b.level item).route in
    let rising : c1.last < item.number = subst (λ n. n < item.number) (sym h.last) next.0 in
    let lt : c.last < item.number = let first = next.0 in let up = come_up c.interface c.last c.octets items (come_first c.interface c.last c.octets items (item ∷ []) come) in omega (arith, first, up) in
    let affected : AffectedBoth step.effect item c b b' = subst (λ effect. AffectedBoth effect item c b b') (sym is.effect)
    (affected_both i rs items c b b' item bounds lt h next.2 route refl (t.gap ∙ ap (λ effect. gap_by_effect effect item b.gap) is.effect) (subst (λ effect. HasCut effect item b.epoch b.start b.gap b.ended b'.ended b.rows b'.rows) is.effect t.cut)) in
    let step1 = step_joined c step in
    let is1 : IsStep c1.level c1.epoch item step1 = record { machine = is.machine; epoch = ap (λ m. c.epoch + m) is.epoch ∙ epoch_raised c.epoch b.epoch route; finding = is.finding; gap = is.gap; effect = is.effect } in
    let took : IsTakenBy item step1 c1 c2 = taken_joined c b b' item step is t affected in
    let pushed : Pushed i (rs ++ items) item (ended_by step.effect c1.interface c1.epoch c1.start (end_at item) c1.given c1.gap c1.open_rows) c2 = takes i (rs ++ items) c1 c2 item step1 h.represented h.bounds rising next.2 is1 took in
    let few : c1.octets + item.length ≤ 2147483648 = let all = next.3 in omega (arith, all, h.octets) in
    record {
      represented = subst (λ l. Represents i l c2) (append_assoc rs items (item ∷ [])) pushed.represented;
      bounds = taken_bounds c1 c2 item step1 h.bounds next.2 rising next.1 few is1 took;
      given = ap (given_of i) (sym (append_assoc rs items (item ∷ []))) ∙ pushed.given ∙ ap (λ l. l ++ ended_by step.effect c1.interface c1.epoch c1.start (end_at item) c1.given c1.gap c1.open_rows) h.given
          ∙ append_assoc (given_of i rs) (pieces_ended c b) (ended_by step.effect c1.interface c1.epoch c1.start (end_at item) c1.given c1.gap c1.open_rows) ∙ ap (λ l. given_of i rs ++ l) (sym affected.pieces);
      last = took.counted.last ∙ sym (ap (last_or c.last) (map-append (λ (x : Item). x.number) items (item ∷ [])) ∙ last_or-add c.last item.number (numbers items));
      octets = let sum = sum_by_push (λ (x : Item). x.length) items item in omega (arith, took.counted.octets, h.octets, sum);
      listed = affected.listed;
      fit = affected.fit;
      behind = affected.behind;
    }

pub cut_more : (l : GapInterfaceState) (items : List Item) (b b' : BlockRows) (item : Item) (step : Step) → IsStep b.level b.epoch item step → IsBlockTaken item step b b' → IsCutApart l items b → IsCutApart l (items ++ item ∷ []) b'
cut_more l items b b' item step is t apart i rs c represented bounds level come =
    more_joined i rs items c b b' item step bounds is t come (apart i rs c represented bounds level (come_first c.interface c.last c.octets items (item ∷ []) come))

-- ---- before the first row

-- no row of a block was read
pub record IsBlockBegun (l : GapInterfaceState) (b : BlockRows) : Type 0 where
  pub level : b.level ≡ l
  pub epoch : b.epoch ≡ 0
  pub packets : b.packets ≡ 0
  pub gaps : b.gaps ≡ 0
  pub octets : b.octets ≡ 0
  pub findings : b.findings ≡ []
  pub ended : b.ended ≡ []
  pub gap : b.gap ≡ 0
  pub rows : (k : ℕ) → rows_of b.rows k ≡ []
  pub channels : b.rows.channels ≡ []

begun_last : (n last other : ℕ) → n ≡ 0 → cond (n == 0) last other ≡ last
begun_last n last other h = ap (λ b. cond b last other) (eq-eqb n 0 h)

begun_joined : (i : Interface) (rs : List Item) (c : Cutting) (b : BlockRows) → Represents i rs c → IsBlockBegun c.level b → IsUnchanged c (joined c b)
begun_joined i rs c b s h =
    let n = c.interface.svc in
    let rows : (k : ℕ) → rows_of (joined c b).open_rows k ≡ rows_of c.open_rows k = λ k.
    both_rows n (gap_left c.gap b.ended) (rows_after c.open_rows b.ended) b.rows k ∙ (λ j. with_part (gap_left c.gap (h.ended j)) (rows_of (rows_after c.open_rows (h.ended j)) k) (h.rows k j)) ∙ part_none c.gap (rows_of c.open_rows k) in
    let fun : rows_of (joined c b).open_rows ≡ rows_of c.open_rows = λ j k. rows k j in
    record {
      interface = refl;
      level = h.level;
      epoch = omega (arith, h.epoch);
      start = ap (λ m. start_joined m c.start b.start) h.epoch;
      given = ap (λ es. c.given + length (pieces_of c.interface c.epoch c.start c.given c.gap c.open_rows es)) h.ended ∙ omega arith;
      packets = omega (arith, h.packets);
      gaps = omega (arith, h.gaps);
      last = begun_last b.packets c.last b.last h.packets;
      octets = omega (arith, h.octets);
      findings = ap (λ l. c.findings ++ l) h.findings ∙ append-nil c.findings;
      gap = λ j. gap_joined (gap_left c.gap (h.ended j)) (h.gap j);
      open_rows = record { rows = rows; channels = ap (listed n) fun ∙ ap (λ (j : Interface). listed j.svc (rows_of c.open_rows)) s.interface ∙ sym (lists i rs c s) };
    }

pub cut_begun : (l : GapInterfaceState) (b : BlockRows) → IsBlockBegun l b → IsCutApart l [] b
cut_begun l b h i rs c s bounds level come =
    let same = begun_joined i rs c b s (subst (λ m. IsBlockBegun m b) (sym level) h) in
    let all : rs ++ [] ≡ rs = append-nil rs in
    record {
      represented = subst (λ rows. Represents i rows (joined c b)) (sym all) (same_represents i rs c (joined c b) same s);
      bounds = same_bounds c (joined c b) same bounds;
      given = ap (given_of i) all ∙ sym (append-nil (given_of i rs)) ∙ ap (λ es. given_of i rs ++ pieces_of c.interface c.epoch c.start c.given c.gap c.open_rows es) (sym h.ended);
      last = same.last;
      octets = same.octets ∙ omega arith;
      listed = h.channels ∙ sym (none_listed (λ k. has_some (rows_of b.rows k)) (range_with_len 1 c.interface.svc) (λ k. ap has_some (h.rows k)));
      fit = subst (AreFit c.interface c.epoch c.gap c.open_rows) (sym h.ended) tt;
      behind = record { gap = inl h.gap; rows = λ k. inl (h.rows k) };
    }
