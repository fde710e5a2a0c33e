-- The rows of the channels that are listed, one after the other, and what is left of them without the first channel.
use Rattle.std.proofs.Common.{◌≡◌, ◌≢◌, ◌∙◌, sym, ap, ap₂, refl, ℕ, List, [], ◌∷◌, ◌++◌, length, take, drop, append_assoc}
use Rattle.std.proofs.Math.Seq.{take-append_seam, drop-append_seam}
use Rattle.std.specs.List.{AllByRecursion, flat_map}
use Rattle.line_model.specs.basics.Records.{Item}
use Rattle.restart_epochs.specs.OpenRows.{OpenRows, rows_of, IsTakenOut}

-- two lists that are split alike have the same fronts
pub same_front : {X : Type 0} (xs us ys vs : List X) → xs ++ us ≡ ys ++ vs → length xs ≡ length ys → xs ≡ ys
same_front xs us ys vs e n =
    sym (take-append_seam xs us) ∙ ap (take (length xs)) e ∙ ap (λ k. take k (ys ++ vs)) n ∙ take-append_seam ys vs

-- and the same rests
pub same_rest : {X : Type 0} (xs us ys vs : List X) → xs ++ us ≡ ys ++ vs → length xs ≡ length ys → us ≡ vs
same_rest xs us ys vs e n =
    sym (drop-append_seam xs us) ∙ ap (drop (length xs)) e ∙ ap (λ k. drop k (ys ++ vs)) n ∙ drop-append_seam ys vs

-- the rows of channels that are not touched are the same
pub rows_kept : (before after : OpenRows) (channel : ℕ) → ((k : ℕ) → k ≢ channel → rows_of after k ≡ rows_of before k) → (ks : List ℕ) → AllByRecursion (λ k. k ≢ channel) ks
    → flat_map (rows_of after) ks ≡ flat_map (rows_of before) ks
rows_kept before after channel others [] once = refl
rows_kept before after channel others (k ∷ ks) once = ap₂ (λ a b. a ++ b) (others k once.0) (rows_kept before after channel others ks once.1)

-- the rows of the first channel were split off, by their count
pub split_off : (channel : ℕ) (before after : OpenRows) (rows first rest : List Item) → IsTakenOut channel (rows_of before channel) before after
    → rows ≡ flat_map (rows_of before) before.channels → rows ≡ first ++ rest → length first ≡ length (rows_of before channel)
    → (first ≡ rows_of before channel) × (rest ≡ flat_map (rows_of after) after.channels)
split_off channel before after rows first rest taken all split count =
    let both : first ++ rest ≡ rows_of before channel ++ flat_map (rows_of before) after.channels = sym split ∙ all ∙ ap (flat_map (rows_of before)) taken.channels in (
      same_front first rest (rows_of before channel) (flat_map (rows_of before) after.channels) both count,
      same_rest first rest (rows_of before channel) (flat_map (rows_of before) after.channels) both count
          ∙ sym (rows_kept before after channel taken.others after.channels taken.once),
    )

-- the rows of one more channel were appended
pub rows_more : (rows : ℕ → List Item) (before after all : List Item) (channel : ℕ) (left rest : List ℕ) → after ≡ before ++ rows channel → left ≡ channel ∷ rest
    → before ++ flat_map rows left ≡ all → after ++ flat_map rows rest ≡ all
rows_more rows before after all channel left rest appended next so_far =
    ap (λ l. l ++ flat_map rows rest) appended ∙ append_assoc before (rows channel) (flat_map rows rest) ∙ ap (λ ks. before ++ flat_map rows ks) (sym next) ∙ so_far
