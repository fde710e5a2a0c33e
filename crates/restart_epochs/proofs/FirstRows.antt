-- The rows of a channel in a table, after its first ones and after one more.
use Rattle.std.proofs.Common.{◌≡◌, ◌∙◌, sym, ap, refl, ℕ, Bool, true, false, true≢false, eqb, ◌==◌, length, List, [], ◌∷◌, ◌++◌, Option, Some, None, not}
use Rattle.line_model.specs.basics.Records.{Item}
use Rattle.line_model.specs.channels.GapRestart.{is_gap_of_all}
use Rattle.line_model.specs.packets.Says.{gap_items}
use Rattle.restart_epochs.specs.BlockCuts.{HasAll, HasFirst, with_rows}
use Rattle.restart_epochs.specs.ChannelTables.{HasPut, HasTaken}
use Rattle.std.proofs.lemmas.Bool.{eqb-true, eqb-false}
use Rattle.restart_epochs.specs.OpenRows.{OpenRows, gap_after, rows_in, rows_of, with_channel, with_gap, with_part, HasMore, IsSame}

-- a row, after the last gap of all channels
pub first_row : (gap channel : ℕ) (item : Item) (rows : List Item) (before now after : OpenRows) → rows_of before channel ≡ [] → IsSame before now → rows ≡ with_gap gap [] ++ item ∷ []
    → HasFirst channel rows now after → HasMore gap channel item before after
first_row gap channel item rows before now after none same are first = record {
  row = first.rows ∙ are ∙ ap (λ l. with_gap gap l ++ item ∷ []) (sym none);
  others = λ k other. first.others k other ∙ same.rows k;
  channels = first.channels ∙ ap (λ l. with_rows l [] channel now.channels) are ∙ at (gap_after gap 0)
      ∙ ap (λ ks. with_channel [] channel ks) same.channels ∙ ap (λ l. with_channel l channel before.channels) (sym none);
}
  where
    at : (o : Option ℕ) → with_rows (([] ++ gap_items o) ++ item ∷ []) [] channel now.channels ≡ with_channel [] channel now.channels
    at None = refl
    at (Some n) = refl

-- the rows of a part
pub first_part : (gap channel : ℕ) (items rows : List Item) (before now after : OpenRows) → rows_of before channel ≡ [] → IsSame before now → rows ≡ with_part gap [] items
    → HasFirst channel rows now after → HasAll gap channel items before after
first_part gap channel items rows before now after none same are first = record {
  rows = first.rows ∙ are ∙ ap (λ l. with_part gap l items) (sym none);
  others = λ k other. first.others k other ∙ same.rows k;
  channels = first.channels ∙ ap (λ l. with_rows l [] channel now.channels) are ∙ added items
      ∙ ap (λ ks. with_rows items [] channel ks) same.channels ∙ ap (λ l. with_rows items l channel before.channels) (sym none);
}
  where
    at : (b : Bool) (o : Option ℕ) (x : Item) (xs : List Item) → with_rows (let r : List Item = elim b [ true ↦ ([] ++ gap_items o) ++ x ∷ xs | false ↦ [] ++ x ∷ xs ] in r) [] channel now.channels ≡ with_channel [] channel now.channels
    at true None x xs = refl
    at true (Some n) x xs = refl
    at false o x xs = refl

    added : (l : List Item) → with_rows (with_part gap [] l) [] channel now.channels ≡ with_rows l [] channel now.channels
    added [] = refl
    added (x ∷ xs) = at (not (is_gap_of_all x)) (gap_after gap 0) x xs

-- a list that was taken is put back with one more row
pub row_put : (gap channel : ℕ) (item : Item) (list : List Item) (before now after : OpenRows) → HasTaken channel (Some list) before now → (length list == 0) ≡ false
    → HasPut channel (with_gap gap list ++ item ∷ []) now after → HasMore gap channel item before after
row_put gap channel item list before now after taken some put =
    let own : list ≡ rows_of before channel = ap rows_in taken.value in
    record {
      row = ap rows_in put.value ∙ ap (λ l. with_gap gap l ++ item ∷ []) own;
      others = λ k other. ap rows_in (put.others k other ∙ taken.others k other);
      channels = put.channels ∙ taken.channels ∙ stays list some ∙ ap (λ l. with_channel l channel before.channels) own;
    }
  where
    stays : (l : List Item) → (length l == 0) ≡ false → before.channels ≡ with_channel l channel before.channels
    stays [] none = absurd (true≢false none)
    stays (x ∷ xs) none = refl

-- nothing was taken of a channel without a list
pub none_taken : (channel : ℕ) (before now : OpenRows) → HasTaken channel None before now → IsSame before now
none_taken channel before now taken = record { rows = λ k. at k (eqb k channel) refl; channels = taken.channels }
  where
    at : (k : ℕ) (b : Bool) → eqb k channel ≡ b → rows_of now k ≡ rows_of before k
    at k true e =
        let same = eqb-true k channel e in
        ap (rows_of now) same ∙ ap rows_in (taken.emptied ∙ taken.value) ∙ ap (rows_of before) (sym same)
    at k false e = ap rows_in (taken.others k (eqb-false k channel e))

-- one more row than in the same rows
pub more_same : (gap channel : ℕ) (item : Item) (before now after : OpenRows) → IsSame before now → HasMore gap channel item now after → HasMore gap channel item before after
more_same gap channel item before now after same more = record {
  row = more.row ∙ ap (λ l. with_gap gap l ++ item ∷ []) (same.rows channel);
  others = λ k other. more.others k other ∙ same.rows k;
  channels = more.channels ∙ ap (λ l. with_channel l channel now.channels) (same.rows channel) ∙ ap (with_channel (rows_of before channel) channel) same.channels;
}
