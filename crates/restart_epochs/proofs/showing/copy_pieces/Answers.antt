use Rattle.std.proofs.Common.{◌≡◌, ◌∙◌, sym, ap, subst, ◌+◌, ◌++◌, ◌∷◌, [], ℕ, List, length, Option, arith, append_assoc}
use Rattle.std.specs.Prelude.{IfErr}
use Rattle.std.proofs.lemmas.Result.{IfOk-from_err, err_from_is_err_and}
use Rattle.line_model.specs.basics.Records.{Item, Piece}
use Rattle.line_model.specs.basics.Bounds.{IsPiece}
use Rattle.line_model.specs.declared.gap.EpochStart.{EpochStart}
use Rattle.line_model.specs.declared.piece.PieceEnd.{PieceEnd}
use Rattle.line_model.specs.declared.interface.Interface.{Interface}
use Rattle.line_model.specs.declared.fault.Fault.TheVariants.{Memory}
use Rattle.restart_epochs.specs.Cutting.{items_out, piece_out, pieces_out}
use Rattle.restart_epochs.specs.OpenRows.{OpenRows, rows_of, with_gap}
use Rattle.restart_epochs.proofs.showing.copy_pieces.Goals as goal

-- one piece more is copied
next_piece : (i : Interface) (e : ℕ) (start : EpochStart) (end : Option PieceEnd) (gap : ℕ) (before : OpenRows) (id k : ℕ) (ks left : List ℕ) (pieces grown all : List Piece) (rows : List Item) → left ≡ k ∷ ks → rows ≡ rows_of before k →
    grown ≡ pieces ++ piece_out i e start end id k (with_gap gap rows) ∷ [] → pieces ++ pieces_out i e start end (items_out gap before) id left ≡ all →
    grown ++ pieces_out i e start end (items_out gap before) (id + 1) ks ≡ all
next_piece i e start end gap before id k ks left pieces grown all rows step own g h =
    let piece : List Item → Piece = λ l. piece_out i e start end id k (with_gap gap l) in
    ap (λ l. l ++ pieces_out i e start end (items_out gap before) (id + 1) ks) (g ∙ ap (λ l. pieces ++ piece l ∷ []) own)
    ∙ append_assoc pieces (piece (rows_of before k) ∷ []) (pieces_out i e start end (items_out gap before) (id + 1) ks)
    ∙ ap (λ l. pieces ++ pieces_out i e start end (items_out gap before) id l) (sym step) ∙ h

pub into_piece-requires : goal.into_piece-requires
into_piece-requires g c =
    let e = c.args.epoch in
    let channel = c.in-Some.channel.now in
    record { piece = subst (λ rows. IsPiece e.interface channel (with_gap e.gap rows)) (sym c.in_ok-open_channel.ensures) (c.requires.pieces channel) }

pub loop-channel-preserved : goal.loop-channel-preserved
loop-channel-preserved g c =
    let inv = c.loop-channel.invariant in
    let e = c.args.epoch in
    record {
      ids = omega (arith, inv.ids, ap (λ (l : List ℕ). length l) c.in-Some.ensures.steps);
      copied = next_piece e.interface e.number e.start e.end e.gap c.args.epoch_rows.now c.loop-channel.id _ _ _ c.loop-channel.pieces.items _ _ _
          c.in-Some.ensures.steps c.in_ok-open_channel.ensures (c.in_ok-push.ensures.items ∙ ap (λ p. c.loop-channel.pieces.items ++ p ∷ []) c.into_piece.ensures) inv.copied;
    }

pub returns-in_err-open_channel-clause-copied : goal.returns-in_err-open_channel-clause-copied
returns-in_err-open_channel-clause-copied g c = IfOk-from_err _ _ c.from_residual.ensures.0

pub returns-in_err-open_channel-clause-memory : goal.returns-in_err-open_channel-clause-memory
returns-in_err-open_channel-clause-memory g c =
    let p = err_from_is_err_and c.from_residual.result c.from_residual.ensures.1 in
    subst (λ r. IfErr r (λ f. f ≡ Memory)) (sym p.1) p.2

pub returns-in_err-push-clause-copied : goal.returns-in_err-push-clause-copied
returns-in_err-push-clause-copied g c = IfOk-from_err _ _ c.from_residual-in_err-push.ensures.0

pub returns-in_err-push-clause-memory : goal.returns-in_err-push-clause-memory
returns-in_err-push-clause-memory g c =
    let p = err_from_is_err_and c.from_residual-in_err-push.result c.from_residual-in_err-push.ensures.1 in
    subst (λ r. IfErr r (λ f. f ≡ Memory)) (sym p.1) p.2
