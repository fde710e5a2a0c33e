-- The open channel is removed from the table, reads a row, and is put back.
use Rattle.std.proofs.Common.{◌≡◌, ◌∙◌, sym, ap, subst, refl, ℕ, Bool, true, false, eqb, List, [], ◌∷◌, ◌++◌, Some, None, Result, Ok, Err, IfOk, OnOk}
use Rattle.std.specs.BTreeSet.{insert_key}
use Rattle.std.specs.Ordering.{nat_cmp}
use Rattle.std.proofs.lemmas.Bool.{eqb-true, eqb-false}
use Rattle.line_model.specs.declared.interface.Interface.{Interface}
use Rattle.line_model.specs.basics.Bounds.{IsPiece}
use Rattle.line_model.specs.basics.Records.{Item}
use Rattle.line_model.specs.channels.Gaps.{GapChannel}
use Rattle.line_model.specs.pieces.Plan.{has_some}
use Rattle.channel_run.specs.declared.run.Channel.{Ghosts as Machine}
use Rattle.restart_epochs.specs.Cutting.{items_out}
use Rattle.restart_epochs.specs.OpenRows.{OpenRows, rows_of, with_channel, with_gap, HasMore}
use Rattle.restart_epochs.specs.ChannelTables.{ChannelTables, value_at, HasTaken, HasListed, HasPut}
use Rattle.live_report.specs.OpenChannels.{IsOpenFor, OpenEpoch, OfOpenChannel, begun_piece, OpenChannelFor, OpenChannelsFor, IsOutFor, OpenFor}
use Rattle.live_report.specs.declared.open_channels.OpenChannel.{OpenChannel}

has_more : (items : List Item) (item : Item) → has_some (items ++ item ∷ []) ≡ true
has_more [] item = refl
has_more (x ∷ xs) item = refl

pub on_both : {T E : Type 0} {P R : T → Type 0} {Q : Type 0} → (r : Result T E) → IfOk r P → OnOk r Q → ((x : T) → P x → Q → R x) → IfOk r R
on_both (Ok x) p q f = f x p q
on_both (Err e) p q f = tt

pub out_none : {A C : Type 0} → (I : C → Interface) (N : C → ℕ) (S : C → GapChannel → Type 0) (e : OpenEpoch) (k : ℕ) (rows : OpenRows) (before middle after : ChannelTables (OpenChannel A C)) (entry : OpenChannel A C)
    → OpenChannelsFor I N S e rows before → HasTaken k None before middle → HasListed k middle after
    → OpenFor I N S entry (begun_piece e k []) → IsOutFor I N S e k rows entry after
out_none I N S e k rows before middle after entry f t l fresh =
    let empty : rows_of rows k ≡ [] = subst (OpenChannelFor I N S (begun_piece e k (rows_of rows k))) (sym t.value) (f.each k) in
    record {
      represented = subst (λ items. OpenFor I N S entry (begun_piece e k items)) (sym empty) fresh;
      others = λ j ne. subst (OpenChannelFor I N S (begun_piece e j (rows_of rows j))) (sym (l.values j ∙ t.others j ne)) (f.each j);
      channels = l.channels ∙ ap (λ ks. insert_key nat_cmp ks k) (t.channels ∙ f.channels) ∙ ap (λ items. with_channel items k rows.channels) (sym empty);
    }

pub put_back : {A C : Type 0} → (I : C → Interface) (N : C → ℕ) (S : C → GapChannel → Type 0) (e : OpenEpoch) (gap k : ℕ) (rows more : OpenRows) (item : Item) (before after : ChannelTables (OpenChannel A C)) (entry stepped : OpenChannel A C)
    → IsOutFor I N S e k rows entry before → OpenFor I N S stepped (begun_piece e k (with_gap gap (rows_of rows k) ++ item ∷ [])) → HasPut k stepped before after → HasMore gap k item rows more
    → OpenChannelsFor I N S e more after
put_back I N S e gap k rows more item before after entry stepped out represented put has = record {
  channels = put.channels ∙ out.channels ∙ sym has.channels;
  each = λ j. at j (eqb j k) refl;
}
  where
    at_k : OpenChannelFor I N S (begun_piece e k (rows_of more k)) (value_at after k)
    at_k = subst (λ o. OpenChannelFor I N S (begun_piece e k (rows_of more k)) o) (sym put.value)
        (subst (λ items. OpenChannelFor I N S (begun_piece e k items) (Some stepped)) (sym has.row) (has_more (with_gap gap (rows_of rows k)) item, represented))

    at : (j : ℕ) (b : Bool) → eqb j k ≡ b → OpenChannelFor I N S (begun_piece e j (rows_of more j)) (value_at after j)
    at j true same = subst (λ n. OpenChannelFor I N S (begun_piece e n (rows_of more n)) (value_at after n)) (sym (eqb-true j k same)) at_k
    at j false other =
        let ne = eqb-false j k other in
        subst (λ o. OpenChannelFor I N S (begun_piece e j (rows_of more j)) o) (sym (put.others j ne))
        (subst (λ items. OpenChannelFor I N S (begun_piece e j items) (value_at before j)) (sym (has.others j ne)) (out.others j ne))

-- what a step says of any rows of a channel, of those of a channel that was taken out of the table
pub stepped_from : {A C : Type 0} → (m : Machine C A) (e : OpenEpoch) (k : ℕ) (rows : OpenRows) (there gap : ℕ) (entry out : OpenChannel A C) (Fact : OpenEpoch → List Item → Type 0)
    → there ≡ gap → out ≡ entry → IsOpenFor m e k (rows_of rows k) entry → IsPiece e.interface k (items_out gap rows k) → OfOpenChannel m k there out Fact → Fact e (items_out gap rows k)
stepped_from m e k rows there gap entry out Fact same is represented small step =
    subst (λ n. Fact e (items_out n rows k)) same (step e (rows_of rows k) (subst (IsOpenFor m e k (rows_of rows k)) (sym is) represented) (subst (λ n. IsPiece e.interface k (items_out n rows k)) (sym same) small))
