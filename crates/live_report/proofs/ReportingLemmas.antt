-- The open channels return one by one the results of their pieces so far.
use Rattle.std.proofs.Common.{◌≡◌, ◌∙◌, sym, ap, subst, ℕ, true, false, true≢false, List, [], ◌∷◌, ◌++◌, map, length, Some, None, append_assoc, append-nil, length-append}
use Rattle.std.specs.List.{AllByRecursion}
use Rattle.line_model.specs.declared.interface.Interface.{Interface}
use Rattle.line_model.specs.basics.Records.{PieceReport}
use Rattle.line_model.specs.channels.Gaps.{GapChannel}
use Rattle.line_model.specs.pieces.Plan.{has_some}
use Rattle.line_model.specs.pieces.Plans.{result_of}
use Rattle.restart_epochs.specs.Cutting.{items_out}
use Rattle.restart_epochs.specs.OpenRows.{OpenRows, rows_of, IsListing}
use Rattle.restart_epochs.specs.ChannelTables.{ChannelTables, value_at}
use Rattle.live_report.specs.AddedPieces.{pieces_of}
use Rattle.live_report.specs.OpenChannels.{OpenEpoch, begun_piece, ended_piece, OpenChannelFor, OpenChannelsFor}
use Rattle.live_report.specs.declared.open_channels.OpenChannel.{OpenChannel}

-- some first channels were asked, and these are left
pub record Reporting (e : OpenEpoch) (gap : ℕ) (rows : OpenRows) (first out : List PieceReport) (left : List ℕ) : Type 0 where
  pub has : AllByRecursion (λ k. has_some (rows_of rows k) ≡ true) left
  pub values : out ++ map result_of (pieces_of e gap None rows (length out) left) ≡ first ++ map result_of (pieces_of e gap None rows (length first) rows.channels)

pub reporting_none : (e : OpenEpoch) (gap : ℕ) (rows : OpenRows) (first : List PieceReport) (left : List ℕ) → IsListing rows → left ≡ rows.channels → Reporting e gap rows first first left
reporting_none e gap rows first left l all = record {
  has = subst (AllByRecursion (λ k. has_some (rows_of rows k) ≡ true)) (sym all) l.listed;
  values = ap (λ ks. first ++ map result_of (pieces_of e gap None rows (length first) ks)) all;
}

pub reporting_more : (e : OpenEpoch) (gap : ℕ) (rows : OpenRows) (first out : List PieceReport) (left : List ℕ) (k : ℕ) (rest : List ℕ) (report : PieceReport) → Reporting e gap rows first out left → left ≡ k ∷ rest
    → report ≡ result_of (ended_piece (length out) e None k (items_out gap rows k)) → Reporting e gap rows first (out ++ report ∷ []) rest
reporting_more e gap rows first out left k rest report t next is =
    let has : AllByRecursion (λ j. has_some (rows_of rows j) ≡ true) (k ∷ rest) = subst (AllByRecursion (λ j. has_some (rows_of rows j) ≡ true)) next t.has in
    record {
      has = has.1;
      values = append_assoc out (report ∷ []) (map result_of (pieces_of e gap None rows (length (out ++ report ∷ [])) rest))
          ∙ (λ d. out ++ is d ∷ map result_of (pieces_of e gap None rows (length-append out (report ∷ []) d) rest))
          ∙ ap (λ ks. out ++ map result_of (pieces_of e gap None rows (length out) ks)) (sym next) ∙ t.values;
    }

pub reporting_all : (e : OpenEpoch) (gap : ℕ) (rows : OpenRows) (first out : List PieceReport) (left : List ℕ) → Reporting e gap rows first out left → left ≡ [] → out ≡ first ++ map result_of (pieces_of e gap None rows (length first) rows.channels)
reporting_all e gap rows first out left t none = sym (append-nil out) ∙ ap (λ ks. out ++ map result_of (pieces_of e gap None rows (length out) ks)) (sym none) ∙ t.values

-- a channel that has an open channel
pub reported_open : {A C : Type 0} → (I : C → Interface) (N : C → ℕ) (S : C → GapChannel → Type 0) (e : OpenEpoch) (rows : OpenRows) (k : ℕ) (table : ChannelTables (OpenChannel A C)) (entry : OpenChannel A C)
    → OpenChannelsFor I N S e rows table → Some entry ≡ value_at table k → OpenChannelFor I N S (begun_piece e k (rows_of rows k)) (Some entry)
reported_open I N S e rows k table entry f some = subst (OpenChannelFor I N S (begun_piece e k (rows_of rows k))) (sym some) (f.each k)

pub reported_some : {A C : Type 0} → (I : C → Interface) (N : C → ℕ) (S : C → GapChannel → Type 0) (e : OpenEpoch) (gap : ℕ) (rows : OpenRows) (first out : List PieceReport) (left rest : List ℕ) (k : ℕ) (table : ChannelTables (OpenChannel A C))
    → OpenChannelsFor I N S e rows table → Reporting e gap rows first out left → left ≡ k ∷ rest → None ≡ value_at table k → ⊥
reported_some I N S e gap rows first out left rest k table f t next none =
    let has : AllByRecursion (λ j. has_some (rows_of rows j) ≡ true) (k ∷ rest) = subst (AllByRecursion (λ j. has_some (rows_of rows j) ≡ true)) next t.has in
    let empty : rows_of rows k ≡ [] = subst (OpenChannelFor I N S (begun_piece e k (rows_of rows k))) (sym none) (f.each k) in
    let bad : false ≡ true = ap (λ items. has_some items) (sym empty) ∙ has.0 in
    absurd (true≢false (sym bad))
