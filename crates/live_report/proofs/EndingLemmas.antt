-- The open channels of an epoch end one by one, and leave the results of their pieces.
use Rattle.std.proofs.Common.{◌≡◌, ◌≢◌, ◌∙◌, sym, ap, subst, refl, ℕ, Bool, true, false, true≢false, eqb, List, [], ◌∷◌, ◌++◌, map, length, Option, Some, None, append_assoc, append-nil, length-append}
use Rattle.std.specs.List.{AllByRecursion}
use Rattle.std.proofs.lemmas.Bool.{eqb-true, eqb-false}
use Rattle.line_model.specs.declared.interface.Interface.{Interface}
use Rattle.line_model.specs.basics.Records.{Piece, PieceReport}
use Rattle.line_model.specs.declared.piece.PieceEnd.{PieceEnd}
use Rattle.line_model.specs.channels.Gaps.{GapChannel}
use Rattle.line_model.specs.pieces.Plan.{has_some}
use Rattle.line_model.specs.pieces.Plans.{result_of}
use Rattle.restart_epochs.specs.OpenRows.{OpenRows, rows_of, IsListing}
use Rattle.restart_epochs.specs.ChannelTables.{ChannelTables, value_at, HasPopped, IsEmpty}
use Rattle.restart_epochs.specs.Cutting.{items_out}
use Rattle.live_report.specs.AddedPieces.{pieces_of}
use Rattle.live_report.specs.OpenChannels.{OpenEpoch, begun_piece, ended_piece, OpenChannelFor, OpenChannelsFor, OpenFor}
use Rattle.live_report.specs.declared.open_channels.OpenChannel.{OpenChannel}

-- some first channels have ended; each of the others has its open channel, and what is listed no more has none
pub record Ending {A C : Type 0} (I : C → Interface) (N : C → ℕ) (S : C → GapChannel → Type 0) (e : OpenEpoch) (gap : ℕ) (end : Option PieceEnd) (rows : OpenRows)
    (first : List PieceReport) (open_channels : ChannelTables (OpenChannel A C)) (out : List PieceReport) : Type 0 where
  pub has : AllByRecursion (λ k. has_some (rows_of rows k) ≡ true) open_channels.channels
  pub listed : AllByRecursion (λ k. OpenChannelFor I N S (begun_piece e k (rows_of rows k)) (value_at open_channels k)) open_channels.channels
  pub others : (k : ℕ) → AllByRecursion (λ j. j ≢ k) open_channels.channels → value_at open_channels k ≡ None
  pub values : out ++ map result_of (pieces_of e gap end rows (length out) open_channels.channels) ≡ first ++ map result_of (pieces_of e gap end rows (length first) rows.channels)

open_channel_none : {A C : Type 0} → (I : C → Interface) (N : C → ℕ) (S : C → GapChannel → Type 0) (p : Piece) (o : Option (OpenChannel A C)) → p.items ≡ [] → OpenChannelFor I N S p o → o ≡ None
open_channel_none I N S p None none l = refl
open_channel_none I N S p (Some entry) none l = absurd (true≢false (sym l.0 ∙ ap has_some none))

pub ending_none : {A C : Type 0} → (I : C → Interface) (N : C → ℕ) (S : C → GapChannel → Type 0) (e : OpenEpoch) (gap : ℕ) (end : Option PieceEnd) (rows : OpenRows) (first : List PieceReport) (open_channels : ChannelTables (OpenChannel A C))
    → OpenChannelsFor I N S e rows open_channels → IsListing rows → Ending I N S e gap end rows first open_channels first
ending_none {A} {C} I N S e gap end rows first open_channels f l = record {
  has = subst (AllByRecursion (λ k. has_some (rows_of rows k) ≡ true)) (sym f.channels) l.listed;
  listed = all open_channels.channels;
  others = λ k not. open_channel_none I N S (begun_piece e k (rows_of rows k)) (value_at open_channels k) (l.others k (subst (AllByRecursion (λ j. j ≢ k)) f.channels not)) (f.each k);
  values = ap (λ ks. first ++ map result_of (pieces_of e gap end rows (length first) ks)) f.channels;
}
  where
    all : (ks : List ℕ) → AllByRecursion (λ k. OpenChannelFor I N S (begun_piece e k (rows_of rows k)) (value_at open_channels k)) ks
    all [] = tt
    all (k ∷ ks) = (f.each k, all ks)

-- what was popped has an open channel
pub popped_some : {A C : Type 0} → (I : C → Interface) (N : C → ℕ) (S : C → GapChannel → Type 0) (e : OpenEpoch) (gap : ℕ) (end : Option PieceEnd) (rows : OpenRows) (first : List PieceReport) (before after : ChannelTables (OpenChannel A C)) (out : List PieceReport) (k : ℕ)
    → Ending I N S e gap end rows first before out → HasPopped k None before after → ⊥
popped_some I N S e gap end rows first before after out k g p =
    let has : AllByRecursion (λ j. has_some (rows_of rows j) ≡ true) (k ∷ after.channels) = subst (AllByRecursion (λ j. has_some (rows_of rows j) ≡ true)) p.channels g.has in
    let open_channel : AllByRecursion (λ j. OpenChannelFor I N S (begun_piece e j (rows_of rows j)) (value_at before j)) (k ∷ after.channels) = subst (AllByRecursion (λ j. OpenChannelFor I N S (begun_piece e j (rows_of rows j)) (value_at before j))) p.channels g.listed in
    let none : rows_of rows k ≡ [] = subst (OpenChannelFor I N S (begun_piece e k (rows_of rows k))) (sym p.value) open_channel.0 in
    true≢false (sym has.0 ∙ ap has_some none)

pub popped_live : {A C : Type 0} → (I : C → Interface) (N : C → ℕ) (S : C → GapChannel → Type 0) (e : OpenEpoch) (gap : ℕ) (end : Option PieceEnd) (rows : OpenRows) (first : List PieceReport) (before after : ChannelTables (OpenChannel A C)) (out : List PieceReport) (k : ℕ) (entry : OpenChannel A C)
    → Ending I N S e gap end rows first before out → HasPopped k (Some entry) before after → OpenFor I N S entry (begun_piece e k (rows_of rows k))
popped_live I N S e gap end rows first before after out k entry g p =
    let open_channel : AllByRecursion (λ j. OpenChannelFor I N S (begun_piece e j (rows_of rows j)) (value_at before j)) (k ∷ after.channels) = subst (AllByRecursion (λ j. OpenChannelFor I N S (begun_piece e j (rows_of rows j)) (value_at before j))) p.channels g.listed in
    let here : OpenChannelFor I N S (begun_piece e k (rows_of rows k)) (Some entry) = subst (OpenChannelFor I N S (begun_piece e k (rows_of rows k))) (sym p.value) open_channel.0 in
    here.1

kept_open_channels : {A C : Type 0} → (I : C → Interface) (N : C → ℕ) (S : C → GapChannel → Type 0) (e : OpenEpoch) (rows : OpenRows) (before after : ChannelTables (OpenChannel A C)) (k : ℕ) → ((j : ℕ) → j ≢ k → value_at after j ≡ value_at before j)
    → (ks : List ℕ) → AllByRecursion (λ j. j ≢ k) ks → AllByRecursion (λ j. OpenChannelFor I N S (begun_piece e j (rows_of rows j)) (value_at before j)) ks → AllByRecursion (λ j. OpenChannelFor I N S (begun_piece e j (rows_of rows j)) (value_at after j)) ks
kept_open_channels I N S e rows before after k others [] ne all = tt
kept_open_channels I N S e rows before after k others (j ∷ ks) ne all =
    (subst (OpenChannelFor I N S (begun_piece e j (rows_of rows j))) (sym (others j ne.0)) all.0, kept_open_channels I N S e rows before after k others ks ne.1 all.1)

pub ending_more : {A C : Type 0} → (I : C → Interface) (N : C → ℕ) (S : C → GapChannel → Type 0) (e : OpenEpoch) (gap : ℕ) (end : Option PieceEnd) (rows : OpenRows) (first : List PieceReport) (before after : ChannelTables (OpenChannel A C)) (out : List PieceReport) (k : ℕ) (taken : Option (OpenChannel A C)) (report : PieceReport)
    → Ending I N S e gap end rows first before out → HasPopped k taken before after → report ≡ result_of (ended_piece (length out) e end k (items_out gap rows k))
    → Ending I N S e gap end rows first after (out ++ report ∷ [])
ending_more {A} {C} I N S e gap end rows first before after out k taken report g p is =
    let has : AllByRecursion (λ j. has_some (rows_of rows j) ≡ true) (k ∷ after.channels) = subst (AllByRecursion (λ j. has_some (rows_of rows j) ≡ true)) p.channels g.has in
    let open_channel : AllByRecursion (λ j. OpenChannelFor I N S (begun_piece e j (rows_of rows j)) (value_at before j)) (k ∷ after.channels) = subst (AllByRecursion (λ j. OpenChannelFor I N S (begun_piece e j (rows_of rows j)) (value_at before j))) p.channels g.listed in
    record {
      has = has.1;
      listed = kept_open_channels I N S e rows before after k p.others after.channels p.once open_channel.1;
      others = λ j not. at j not (eqb j k) refl;
      values = append_assoc out (report ∷ []) (map result_of (pieces_of e gap end rows (length (out ++ report ∷ [])) after.channels))
          ∙ (λ t. out ++ is t ∷ map result_of (pieces_of e gap end rows (length-append out (report ∷ []) t) after.channels))
          ∙ ap (λ ks. out ++ map result_of (pieces_of e gap end rows (length out) ks)) (sym p.channels) ∙ g.values;
    }
  where
    at : (j : ℕ) → AllByRecursion (λ m. m ≢ j) after.channels → (b : Bool) → eqb j k ≡ b → value_at after j ≡ None
    at j not true same = ap (value_at after) (eqb-true j k same) ∙ p.emptied
    at j not false other =
        let ne = eqb-false j k other in
        p.others j ne ∙ g.others j (subst (AllByRecursion (λ m. m ≢ j)) (sym p.channels) ((λ s. ne (sym s)), not))

pub ending_all : {A C : Type 0} → (I : C → Interface) (N : C → ℕ) (S : C → GapChannel → Type 0) (e : OpenEpoch) (gap : ℕ) (end : Option PieceEnd) (rows : OpenRows) (first : List PieceReport) (open_channels : ChannelTables (OpenChannel A C)) (out : List PieceReport)
    → Ending I N S e gap end rows first open_channels out → open_channels.channels ≡ [] → (out ≡ first ++ map result_of (pieces_of e gap end rows (length first) rows.channels)) × IsEmpty open_channels
ending_all I N S e gap end rows first open_channels out g none = (
  sym (append-nil out) ∙ ap (λ ks. out ++ map result_of (pieces_of e gap end rows (length out) ks)) (sym none) ∙ g.values,
  record { channels = none; values = λ k. g.others k (subst (AllByRecursion (λ j. j ≢ k)) (sym none) tt) },
)
