-- The epochs of a block that ended are given out one after the other.
use Rattle.std.proofs.Common.{◌≡◌, ◌≢◌, ◌∙◌, sym, ap, subst, refl, ℕ, ◌+◌, ◌<◌, ◌⊎◌, inl, inr, List, [], ◌∷◌, ◌++◌, length, arith, append-nil, append_assoc, length-append, Option, Some}
use Rattle.std.specs.List.{AllByRecursion, range_with_len}
use Rattle.line_model.specs.declared.interface.Interface.{Interface}
use Rattle.line_model.specs.basics.Bounds.{IsPiece}
use Rattle.line_model.specs.basics.Records.{Item, Piece}
use Rattle.line_model.specs.declared.gap.EpochStart.{EpochStart}
use Rattle.line_model.specs.declared.piece.PieceEnd.{PieceEnd}
use Rattle.line_model.specs.pieces.Plan.{has_some}
use Rattle.restart_epochs.specs.BlockCuts.{AreAdded, AreFit, ChannelRows, EpochRows, FitsEpoch, HasEnded, HaveEnded, MayEnd, MayEndAll, gap_joined, gap_left, items_ended, listed, part_pieces, parts_of, pieces_at, pieces_of, rows_after, rows_on, with_parts}
use Rattle.restart_epochs.specs.Cutting.{IsEmptied, items_out, piece_out, pieces_out}
use Rattle.restart_epochs.specs.OpenRows.{OpenRows, no_rows, rows_of, with_gap, with_part, HasNoOthers}
use Rattle.restart_epochs.specs.Walks.{start_joined}
use Rattle.restart_epochs.proofs.Added.{AreOnce, added_rows, are_within, others_added, parts_listed, parts_once}
use Rattle.restart_epochs.proofs.BlockJoins.{at-length}
use Rattle.restart_epochs.proofs.GapRows.{part_bare}
use Rattle.restart_epochs.proofs.Listed as listed_lemmas
use Rattle.restart_epochs.proofs.TakenParts.{none_listed}

-- ---- an epoch whose rows are parts alone

out_parts : (i : Interface) (e : ℕ) (start : EpochStart) (end : Option PieceEnd) (gap : ℕ) (rows : ℕ → List Item) (id : ℕ) (ks : List ℕ) → part_pieces i e start end gap id (parts_of rows ks) ≡ pieces_out i e start end (λ k. with_gap gap (rows k)) id ks
out_parts i e start end gap rows id [] = refl
out_parts i e start end gap rows id (k ∷ ks) = ap (λ l. piece_out i e start end id k (with_gap gap (rows k)) ∷ l) (out_parts i e start end gap rows (id + 1) ks)

fit_parts : (i : Interface) (gap : ℕ) (rows : ℕ → List Item) → ((k : ℕ) → IsPiece i k (with_gap gap (rows k))) → (ks : List ℕ) → AllByRecursion (λ p. IsPiece i p.channel (with_gap gap p.items)) (parts_of rows ks)
fit_parts i gap rows h [] = tt
fit_parts i gap rows h (k ∷ ks) = (h k, fit_parts i gap rows h ks)

many_parts : (rows : ℕ → List Item) (ks : List ℕ) → length (parts_of rows ks) ≡ length ks
many_parts rows [] = refl
many_parts rows (k ∷ ks) = let more = many_parts rows ks in omega (arith, more)

-- no row is kept before, and no gap
pub record IsBare (gap : ℕ) (o : OpenRows) : Type 0 where
  pub none : gap ≡ 0
  pub channels : o.channels ≡ []

alone : (gap : ℕ) (o : OpenRows) (e : EpochRows) → HasNoOthers o → IsBare gap o → with_parts gap o e.parts ≡ (λ k. rows_on k e.parts)
alone gap o e others bare = λ j k. ((λ m. with_part (bare.none m) (none_listed o others bare.channels k m) (rows_on k e.parts)) ∙ part_bare (rows_on k e.parts)) j

alone_items : (gap : ℕ) (o : OpenRows) (e : EpochRows) → HasNoOthers o → IsBare gap o → items_ended gap o e ≡ (λ k. with_gap (gap_joined gap e.gap) (rows_on k e.parts))
alone_items gap o e others bare = λ j k. with_gap (gap_joined gap e.gap) (alone gap o e others bare j k)

part_count : (i : Interface) (epoch given gap : ℕ) (o : OpenRows) (e : EpochRows) → MayEnd i epoch given gap o e → IsBare gap o → length e.parts ≡ length (listed i.svc (with_parts gap o e.parts))
part_count i epoch given gap o e may bare =
    ap (λ (l : List ChannelRows). length l) may.fits.parts ∙ many_parts (λ k. rows_on k e.parts) (listed i.svc (λ k. rows_on k e.parts))
    ∙ ap (λ f. length (listed i.svc f)) (sym (alone gap o e may.others bare))

pub bare_ids : (i : Interface) (epoch given gap : ℕ) (o : OpenRows) (e : EpochRows) → MayEnd i epoch given gap o e → IsBare gap o → given + length e.parts < 4294967296
bare_ids i epoch given gap o e may bare = let ids = may.ids in omega (arith, ids, part_count i epoch given gap o e may bare)

pub bare_pieces : (i : Interface) (epoch given gap : ℕ) (o : OpenRows) (e : EpochRows) (last : ℕ) → MayEnd i epoch given gap o e → IsBare gap o → last ≡ gap_joined gap e.gap → AllByRecursion (λ p. IsPiece i p.channel (with_gap last p.items)) e.parts
bare_pieces i epoch given gap o e last may bare is =
    let rows : ℕ → List Item = λ k. rows_on k e.parts in
    subst (λ n. AllByRecursion (λ p. IsPiece i p.channel (with_gap n p.items)) e.parts) (sym is)
    (subst (AllByRecursion (λ p. IsPiece i p.channel (with_gap (gap_joined gap e.gap) p.items))) (sym may.fits.parts)
    (fit_parts i (gap_joined gap e.gap) rows (λ k. subst (λ f. IsPiece i k (f k)) (alone_items gap o e may.others bare) (may.fits.pieces k)) (listed i.svc rows)))

pub bare_ended : (i : Interface) (epoch : ℕ) (start : EpochStart) (given given' gap : ℕ) (o : OpenRows) (e : EpochRows) (begun : EpochStart) (last : ℕ) (out out' : List Piece) → MayEnd i epoch given gap o e → IsBare gap o
    → begun ≡ start_joined e.epoch start e.start → last ≡ gap_joined gap e.gap → given' ≡ given + length e.parts
    → out' ≡ out ++ part_pieces i (epoch + e.epoch) begun (Some e.end) last given e.parts → HasEnded i epoch start e given given' gap o o out out'
bare_ended i epoch start given given' gap o e begun last out out' may bare at is count pieces =
    let rows : ℕ → List Item = λ k. rows_on k e.parts in
    let id = epoch + e.epoch in
    let joined = gap_joined gap e.gap in
    record {
      count = count ∙ ap (λ n. given + n) (part_count i epoch given gap o e may bare);
      pieces = pieces ∙ (λ j. out ++ part_pieces i id (at j) (Some e.end) (is j) given (may.fits.parts j))
          ∙ ap (λ l. out ++ l) (out_parts i id (start_joined e.epoch start e.start) (Some e.end) joined rows given (listed i.svc rows))
          ∙ (λ j. out ++ pieces_out i id (start_joined e.epoch start e.start) (Some e.end) (sym (alone_items gap o e may.others bare) j) given (listed i.svc (sym (alone gap o e may.others bare) j)));
      rows = none_listed o may.others bare.channels;
      channels = bare.channels;
    }

-- ---- an epoch of which rows are kept, or a gap

-- its parts were added
pub record IsWhole (i : Interface) (gap : ℕ) (o next : OpenRows) (e : EpochRows) : Type 0 where
  pub rows : rows_of next ≡ with_parts gap o e.parts
  pub channels : next.channels ≡ listed i.svc (with_parts gap o e.parts)
  pub others : HasNoOthers next

fits_once : (i : Interface) (epoch gap : ℕ) (o : OpenRows) (e : EpochRows) → FitsEpoch i epoch gap o e → AreOnce e.parts
fits_once i epoch gap o e fits = subst AreOnce (sym fits.parts) (parts_once (λ k. rows_on k e.parts) (λ k. has_some (rows_on k e.parts)) 1 i.svc)

pub whole : (i : Interface) (epoch given gap : ℕ) (o next : OpenRows) (e : EpochRows) → MayEnd i epoch given gap o e → AreAdded gap e.parts o next → IsWhole i gap o next e
whole i epoch given gap o next e may added =
    let rows : rows_of next ≡ with_parts gap o e.parts = λ j k. added_rows gap e.parts o next added (fits_once i epoch gap o e may.fits) k j in
    record {
      rows = rows;
      channels = parts_listed i.svc gap e.parts o next added (are_within i.svc e.parts may.fits.channels) may.channels ∙ ap (listed i.svc) rows;
      others = others_added gap e.parts o next added may.others;
    }

pub whole_ids : (i : Interface) (epoch given gap : ℕ) (o next : OpenRows) (e : EpochRows) → MayEnd i epoch given gap o e → AreAdded gap e.parts o next → given + length next.channels < 4294967296
whole_ids i epoch given gap o next e may added =
    let ids = may.ids in
    let same = ap (λ (l : List ℕ). length l) (whole i epoch given gap o next e may added).channels in
    omega (arith, ids, same)

-- the items of its pieces
whole_items : (i : Interface) (epoch given gap : ℕ) (o next : OpenRows) (e : EpochRows) (last : ℕ) → MayEnd i epoch given gap o e → AreAdded gap e.parts o next → last ≡ gap_joined gap e.gap → items_out last next ≡ items_ended gap o e
whole_items i epoch given gap o next e last may added is = λ j k. with_gap (is j) ((whole i epoch given gap o next e may added).rows j k)

pub whole_pieces : (i : Interface) (epoch given gap : ℕ) (o next : OpenRows) (e : EpochRows) (last : ℕ) → MayEnd i epoch given gap o e → AreAdded gap e.parts o next → last ≡ gap_joined gap e.gap → (k : ℕ) → IsPiece i k (items_out last next k)
whole_pieces i epoch given gap o next e last may added is k = subst (λ f. IsPiece i k (f k)) (sym (whole_items i epoch given gap o next e last may added is)) (may.fits.pieces k)

emptied_all : (before after : OpenRows) → HasNoOthers before → IsEmptied before after → (k : ℕ) → rows_of after k ≡ []
emptied_all before after others emptied k = at (emptied k)
  where
    at : (rows_of after k ≡ []) ⊎ ((rows_of after k ≡ rows_of before k) × AllByRecursion (λ j. j ≢ k) before.channels) → rows_of after k ≡ []
    at (inl none) = none
    at (inr kept) = kept.0 ∙ others k kept.1

pub whole_ended : (i : Interface) (epoch : ℕ) (start : EpochStart) (given given' gap : ℕ) (o next after : OpenRows) (e : EpochRows) (begun : EpochStart) (last : ℕ) (out out' : List Piece) → MayEnd i epoch given gap o e → AreAdded gap e.parts o next
    → begun ≡ start_joined e.epoch start e.start → last ≡ gap_joined gap e.gap → (after.channels ≡ []) × IsEmptied next after → given' ≡ given + length next.channels
    → out' ≡ out ++ pieces_out i (epoch + e.epoch) begun (Some e.end) (items_out last next) given next.channels → HasEnded i epoch start e given given' gap o after out out'
whole_ended i epoch start given given' gap o next after e begun last out out' may added at is emptied count pieces =
    let w = whole i epoch given gap o next e may added in
    record {
      count = count ∙ ap (λ (ks : List ℕ). given + length ks) w.channels;
      pieces = pieces ∙ (λ j. out ++ pieces_out i (epoch + e.epoch) (at j) (Some e.end) (whole_items i epoch given gap o next e last may added is j) given (w.channels j));
      rows = emptied_all next after w.others emptied.1;
      channels = emptied.0;
    }

-- ---- one epoch after the other

-- where no row is kept, and no gap
same_pieces : (i : Interface) (epoch : ℕ) (start : EpochStart) (given : ℕ) (o : OpenRows) (es : List EpochRows) → ((k : ℕ) → rows_of o k ≡ []) → pieces_of i epoch start given 0 o es ≡ pieces_of i epoch start given 0 no_rows es
same_pieces i epoch start given o [] none = refl
same_pieces i epoch start given o (e ∷ es) none =
    let fun : with_parts 0 o e.parts ≡ with_parts 0 no_rows e.parts = λ j k. with_part 0 (none k j) (rows_on k e.parts) in
    ap (λ f. pieces_out i (epoch + e.epoch) (start_joined e.epoch start e.start) (Some e.end) (λ k. with_gap (gap_joined 0 e.gap) (f k)) given (listed i.svc f) ++ pieces_of i epoch start (given + length (listed i.svc f)) 0 no_rows es) fun

same_fit : (i : Interface) (epoch : ℕ) (o : OpenRows) (es : List EpochRows) → ((k : ℕ) → rows_of o k ≡ []) → AreFit i epoch 0 no_rows es → AreFit i epoch 0 o es
same_fit i epoch o [] none fit = tt
same_fit i epoch o (e ∷ es) none fit = (
  record {
    epochs = fit.0.epochs;
    pieces = λ k. subst (λ l. IsPiece i k (with_gap (gap_joined 0 e.gap) (with_part 0 l (rows_on k e.parts)))) (sym (none k)) (fit.0.pieces k);
    channels = fit.0.channels;
    parts = fit.0.parts;
  },
  fit.1,
)

same_left : (o : OpenRows) (es : List EpochRows) → ((k : ℕ) → rows_of o k ≡ []) → (k : ℕ) → rows_of (rows_after o es) k ≡ []
same_left o [] none k = none k
same_left o (e ∷ es) none k = refl

none_left : (es : List EpochRows) → gap_left 0 es ≡ 0
none_left [] = refl
none_left (e ∷ es) = refl

-- some first epochs were given out
pub record Ending (i : Interface) (epoch : ℕ) (start : EpochStart) (first kept : ℕ) (before : OpenRows) (all : List EpochRows) (out : List Piece) (given gap : ℕ) (now : OpenRows) (left : List EpochRows) (grown : List Piece) : Type 0 where
  pub may : MayEndAll i epoch start given gap now left
  pub pieces : grown ++ pieces_of i epoch start given gap now left ≡ out ++ pieces_of i epoch start first kept before all
  pub count : given + length (pieces_of i epoch start given gap now left) ≡ first + length (pieces_of i epoch start first kept before all)
  pub rows : (k : ℕ) → rows_of (rows_after now left) k ≡ rows_of (rows_after before all) k
  pub gaps : gap_left gap left ≡ gap_left kept all

pub ending_none : (i : Interface) (epoch : ℕ) (start : EpochStart) (first kept : ℕ) (before : OpenRows) (all left : List EpochRows) (out : List Piece) → all ≡ left → MayEndAll i epoch start first kept before all → Ending i epoch start first kept before all out first kept before left out
ending_none i epoch start first kept before all left out same may = subst (λ es. Ending i epoch start first kept before all out first kept before es out) same (record { may = may; pieces = refl; count = refl; rows = λ k. refl; gaps = refl })

first_ids : (i : Interface) (epoch : ℕ) (start : EpochStart) (given gap : ℕ) (o : OpenRows) (e : EpochRows) (es : List EpochRows) → MayEndAll i epoch start given gap o (e ∷ es) → given + length (listed i.svc (with_parts gap o e.parts)) < 4294967296
first_ids i epoch start given gap o e es may =
    let ids = may.ids in
    let channels = listed i.svc (with_parts gap o e.parts) in
    omega (arith, ids, length-append (pieces_at i epoch start given gap o e) (pieces_of i epoch start (given + length channels) 0 no_rows es), at-length i epoch start given gap o e)

pub ending_first : (i : Interface) (epoch : ℕ) (start : EpochStart) (first kept : ℕ) (before : OpenRows) (all : List EpochRows) (out : List Piece) (given gap : ℕ) (now : OpenRows) (left : List EpochRows) (grown : List Piece) (e : EpochRows) (es : List EpochRows)
    → Ending i epoch start first kept before all out given gap now left grown → left ≡ e ∷ es → MayEnd i epoch given gap now e
ending_first i epoch start first kept before all out given gap now left grown e es h is =
    let may = subst (MayEndAll i epoch start given gap now) is h.may in
    record { channels = may.channels; others = may.others; ids = first_ids i epoch start given gap now e es may; fits = may.fit.0 }

pub ending_more : (i : Interface) (epoch : ℕ) (start : EpochStart) (first kept : ℕ) (before : OpenRows) (all : List EpochRows) (out : List Piece) (given given' gap gap' : ℕ) (now next : OpenRows) (left : List EpochRows) (grown grown' : List Piece) (e : EpochRows) (es : List EpochRows)
    → Ending i epoch start first kept before all out given gap now left grown → left ≡ e ∷ es → HasEnded i epoch start e given given' gap now next grown grown' → gap' ≡ 0 → Ending i epoch start first kept before all out given' gap' next es grown'
ending_more i epoch start first kept before all out given given' gap gap' now next left grown grown' e es h is ended none =
    let here : Ending i epoch start first kept before all out given gap now (e ∷ es) grown = subst (λ l. Ending i epoch start first kept before all out given gap now l grown) is h in
    let channels = listed i.svc (with_parts gap now e.parts) in
    let head = pieces_at i epoch start given gap now e in
    let rest : pieces_of i epoch start given' 0 next es ≡ pieces_of i epoch start (given + length channels) 0 no_rows es = same_pieces i epoch start given' next es ended.rows ∙ ap (λ n. pieces_of i epoch start n 0 no_rows es) ended.count in
    let many : length (pieces_of i epoch start given gap now (e ∷ es)) ≡ length channels + length (pieces_of i epoch start given' 0 next es) =
    length-append head (pieces_of i epoch start (given + length channels) 0 no_rows es) ∙ (λ j. at-length i epoch start given gap now e j + length (sym rest j)) in
    let ids = here.may.ids in
    let before_count = here.count in
    subst (λ n. Ending i epoch start first kept before all out given' n next es grown') (sym none)
    (record {
      may = record {
        channels = ended.channels ∙ sym (listed_lemmas.none_listed (λ k. has_some (rows_of next k)) (range_with_len 1 i.svc) (λ k. ap has_some (ended.rows k)));
        others = λ k not. ended.rows k;
        ids = omega (arith, ids, many, ended.count);
        fit = same_fit i epoch next es ended.rows here.may.fit.1;
      };
      pieces = (λ j. ended.pieces j ++ rest j) ∙ append_assoc grown head (pieces_of i epoch start (given + length channels) 0 no_rows es) ∙ here.pieces;
      count = omega (arith, before_count, many, ended.count);
      rows = λ k. same_left next es ended.rows k ∙ here.rows k;
      gaps = none_left es ∙ here.gaps;
    })

pub ending_all : (i : Interface) (epoch : ℕ) (start : EpochStart) (first kept : ℕ) (before : OpenRows) (all : List EpochRows) (out : List Piece) (given gap : ℕ) (now : OpenRows) (left : List EpochRows) (grown : List Piece)
    → Ending i epoch start first kept before all out given gap now left grown → left ≡ [] → HaveEnded i epoch start all first given kept gap before now out grown
ending_all i epoch start first kept before all out given gap now left grown h none =
    let here : Ending i epoch start first kept before all out given gap now [] grown = subst (λ l. Ending i epoch start first kept before all out given gap now l grown) none h in
    let count = here.count in
    record {
      count = omega (arith, count);
      pieces = sym (append-nil grown) ∙ here.pieces;
      left = here.gaps;
      rows = here.rows;
      channels = here.may.channels;
    }

-- ---- one part more

pub part_given : (i : Interface) (e : ℕ) (start : EpochStart) (end : Option PieceEnd) (gap id : ℕ) (p : ChannelRows) (left rest : List ChannelRows) (out grown all : List Piece) (channel : ℕ) (items : List Item) → left ≡ p ∷ rest → channel ≡ p.channel → items ≡ p.items
    → grown ≡ out ++ piece_out i e start end id channel (with_gap gap items) ∷ [] → out ++ part_pieces i e start end gap id left ≡ all → grown ++ part_pieces i e start end gap (id + 1) rest ≡ all
part_given i e start end gap id p left rest out grown all channel items step at own g h =
    ap (λ l. l ++ part_pieces i e start end gap (id + 1) rest) (g ∙ (λ j. out ++ piece_out i e start end id (at j) (with_gap gap (own j)) ∷ []))
    ∙ append_assoc out (piece_out i e start end id p.channel (with_gap gap p.items) ∷ []) (part_pieces i e start end gap (id + 1) rest)
    ∙ ap (λ ps. out ++ part_pieces i e start end gap id ps) (sym step) ∙ h
