-- The pieces of an epoch are given out one by one.
use Rattle.std.proofs.Common.{◌≡◌, ◌≢◌, ◌∙◌, sym, ap, subst, refl, ℕ, ◌+◌, ◌⊎◌, inl, inr, Bool, true, false, eqb, List, [], ◌∷◌, ◌++◌, Option, append_assoc}
use Rattle.std.specs.List.{AllByRecursion}
use Rattle.std.proofs.lemmas.Bool.{eqb-true, eqb-false}
use Rattle.line_model.specs.declared.interface.Interface.{Interface}
use Rattle.line_model.specs.basics.Records.{Item, Piece}
use Rattle.line_model.specs.declared.gap.EpochStart.{EpochStart}
use Rattle.line_model.specs.declared.piece.PieceEnd.{PieceEnd}
use Rattle.line_model.proofs.Rising.{all_append}
use Rattle.restart_epochs.specs.OpenRows.{OpenRows, rows_of, with_gap, IsTakenOut}
use Rattle.restart_epochs.specs.Cutting.{items_out, piece_out, pieces_out}

-- some first channels were given out, and the rows of the others are untouched
pub record Giving (i : Interface) (e : ℕ) (start : EpochStart) (end : Option PieceEnd) (gap first : ℕ) (before : OpenRows) (out : List Piece) (id : ℕ) (now : OpenRows) (out' : List Piece) : Type 0 where
  pub done : List ℕ
  pub channels : before.channels ≡ done ++ now.channels
  pub rest : AllByRecursion (λ k. rows_of now k ≡ rows_of before k) now.channels
  pub emptied : (k : ℕ) → (rows_of now k ≡ []) ⊎ ((rows_of now k ≡ rows_of before k) × AllByRecursion (λ j. j ≢ k) done)
  pub pieces : out' ++ pieces_out i e start end (items_out gap before) id now.channels ≡ out ++ pieces_out i e start end (items_out gap before) first before.channels

pub all_same : (before : OpenRows) (ks : List ℕ) → AllByRecursion (λ k. rows_of before k ≡ rows_of before k) ks
all_same before [] = tt
all_same before (k ∷ ks) = (refl, all_same before ks)

pub giving_none : (i : Interface) (e : ℕ) (start : EpochStart) (end : Option PieceEnd) (gap first : ℕ) (before : OpenRows) (out : List Piece) → Giving i e start end gap first before out first before out
giving_none i e start end gap first before out = record { done = []; channels = refl; rest = all_same before before.channels; emptied = λ k. inr (refl, tt); pieces = refl }

pub kept_all : (before now after : OpenRows) (channel : ℕ) → ((k : ℕ) → k ≢ channel → rows_of after k ≡ rows_of now k) → (ks : List ℕ)
    → AllByRecursion (λ k. k ≢ channel) ks → AllByRecursion (λ k. rows_of now k ≡ rows_of before k) ks → AllByRecursion (λ k. rows_of after k ≡ rows_of before k) ks
kept_all before now after channel others [] ne all = tt
kept_all before now after channel others (k ∷ ks) ne all = (others k ne.0 ∙ all.0, kept_all before now after channel others ks ne.1 all.1)

pub giving_more : (i : Interface) (e : ℕ) (start : EpochStart) (end : Option PieceEnd) (gap first : ℕ) (before : OpenRows) (out : List Piece) (id : ℕ) (now after : OpenRows) (out' : List Piece) (channel : ℕ) (items : List Item)
    → Giving i e start end gap first before out id now out' → IsTakenOut channel items now after
    → Giving i e start end gap first before out (id + 1) after (out' ++ piece_out i e start end id channel (with_gap gap items) ∷ [])
giving_more i e start end gap first before out id now after out' channel items g t =
    let rest : AllByRecursion (λ k. rows_of now k ≡ rows_of before k) (channel ∷ after.channels) = subst (AllByRecursion (λ k. rows_of now k ≡ rows_of before k)) t.channels g.rest in
    let piece : Piece = piece_out i e start end id channel (with_gap gap items) in
    record {
      done = g.done ++ channel ∷ [];
      channels = g.channels ∙ ap (λ l. g.done ++ l) t.channels ∙ sym (append_assoc g.done (channel ∷ []) after.channels);
      rest = kept_all before now after channel t.others after.channels t.once rest.1;
      emptied = λ k. at k (eqb k channel) refl (g.emptied k);
      pieces = append_assoc out' (piece ∷ []) (pieces_out i e start end (items_out gap before) (id + 1) after.channels)
          ∙ ap (λ l. out' ++ piece_out i e start end id channel (with_gap gap l) ∷ pieces_out i e start end (items_out gap before) (id + 1) after.channels) (t.items ∙ rest.0)
          ∙ ap (λ ks. out' ++ pieces_out i e start end (items_out gap before) id ks) (sym t.channels)
          ∙ g.pieces;
    }
  where
    at : (k : ℕ) (b : Bool) → eqb k channel ≡ b → (rows_of now k ≡ []) ⊎ ((rows_of now k ≡ rows_of before k) × AllByRecursion (λ j. j ≢ k) g.done)
        → (rows_of after k ≡ []) ⊎ ((rows_of after k ≡ rows_of before k) × AllByRecursion (λ j. j ≢ k) (g.done ++ channel ∷ []))
    at k true same was = inl (ap (rows_of after) (eqb-true k channel same) ∙ t.emptied)
    at k false other (inl none) = inl (t.others k (eqb-false k channel other) ∙ none)
    at k false other (inr kept) =
        let ne = eqb-false k channel other in
        inr (t.others k ne ∙ kept.0, all_append (λ j. j ≢ k) g.done (channel ∷ []) kept.1 ((λ e'. ne (sym e')), tt))

-- the rows of the first channel that is left
pub first_rows : (i : Interface) (e : ℕ) (start : EpochStart) (end : Option PieceEnd) (gap first : ℕ) (before : OpenRows) (out : List Piece) (id : ℕ) (now after : OpenRows) (out' : List Piece) (channel : ℕ) (items : List Item)
    → Giving i e start end gap first before out id now out' → IsTakenOut channel items now after → items ≡ rows_of before channel
first_rows i e start end gap first before out id now after out' channel items g t =
    let rest : AllByRecursion (λ k. rows_of now k ≡ rows_of before k) (channel ∷ after.channels) = subst (AllByRecursion (λ k. rows_of now k ≡ rows_of before k)) t.channels g.rest in
    t.items ∙ rest.0
