-- The channels that are listed, and the rows of the open epoch with one more.
use Rattle.std.proofs.Common.{◌≡◌, ◌≢◌, ◌∙◌, sym, ap, subst, refl, ℕ, zero, suc, inl, Bool, true, false, cond, List, [], ◌∷◌, ◌++◌, arith, Option, Some, None}
use Rattle.std.specs.List.{filter, range_with_len, AllByRecursion}
use Rattle.line_model.specs.declared.interface.Interface.{Interface}
use Rattle.line_model.specs.basics.Records.{Item}
use Rattle.line_model.specs.pieces.Plan.{has_some}
use Rattle.line_model.specs.observer.Observer.{x25}
use Rattle.line_model.specs.pieces.Pieces.{piece_rows, step_rows}
use Rattle.line_model.specs.channels.GapRestart.{is_ready}
use Rattle.restart_epochs.specs.ChannelTables.{open_channel_at}
use Rattle.restart_epochs.specs.OpenRows.{OpenRows, rows_in, rows_of, with_channel, with_gap, HasMore, IsListing}
use Rattle.restart_epochs.specs.Cutting.{Cutting, Represents, IsCutting, observer, places, rows_if, channels_if, no_cutting, taken_rows}
use Rattle.restart_epochs.proofs.Epochs.{some_taken}
use Rattle.restart_epochs.proofs.Pushes.{none_taken, represents_nothing}
use Rattle.restart_epochs.proofs.Bounds.{no_items}

-- what a test lets through passes it
passes : (f : ℕ → Bool) (ks : List ℕ) → AllByRecursion (λ k. f k ≡ true) (filter f ks)
passes f [] = tt
passes f (k ∷ ks) = at (f k) refl (passes f ks)
  where
    at : (b : Bool) → f k ≡ b → AllByRecursion (λ j. f j ≡ true) (filter f ks) → AllByRecursion (λ j. f j ≡ true) (cond b (k ∷ filter f ks) (filter f ks))
    at true e rest = (e, rest)
    at false e rest = rest

all_some : (i : Interface) (rs : List Item) (e : ℕ) (o : OpenRows) → ((k : ℕ) → rows_of o k ≡ taken_rows (step_rows (x25 i) e k (places i rs)))
    → (ks : List ℕ) → AllByRecursion (λ k. has_some (piece_rows e k (places i rs)) ≡ true) ks → AllByRecursion (λ k. has_some (rows_of o k) ≡ true) ks
all_some i rs e o rows [] all = tt
all_some i rs e o rows (k ∷ ks) all = (ap has_some (rows k) ∙ some_taken i rs e k ∙ all.0, all_some i rs e o rows ks all.1)

-- a cutter lists the channels that have rows
pub listing : (i : Interface) (rs : List Item) (c : Cutting) → Represents i rs c → IsListing c.open_rows
listing i rs c s = at (is_ready (observer i rs).level) refl
  where
    at : (b : Bool) → is_ready (observer i rs).level ≡ b → IsListing c.open_rows
    at true e =
        let n = (observer i rs).epoch in
        let rows : (k : ℕ) → rows_of c.open_rows k ≡ taken_rows (step_rows (x25 i) n k (places i rs)) = λ k. s.rows k ∙ ap (λ b. rows_if b i (places i rs) n k) e in
        let channels = s.channels ∙ ap (λ b. channels_if b i (places i rs) n) e in
        record {
          listed = subst (AllByRecursion (λ k. has_some (rows_of c.open_rows k) ≡ true)) (sym channels)
              (all_some i rs n c.open_rows rows _ (passes (λ k. has_some (piece_rows n k (places i rs))) (range_with_len 1 i.svc)));
          others = λ k not. rows k ∙ none_taken i rs s.said n k (subst (AllByRecursion (λ j. j ≢ k)) channels not);
        }
    at false e = record {
      listed = subst (AllByRecursion (λ k. has_some (rows_of c.open_rows k) ≡ true)) (sym (s.channels ∙ ap (λ b. channels_if b i (places i rs) (observer i rs).epoch) e)) tt;
      others = λ k not. s.rows k ∙ ap (λ b. rows_if b i (places i rs) (observer i rs).epoch k) e;
    }

-- outside r1 no channel has rows
pub bare : (i : Interface) (rs : List Item) (c : Cutting) → Represents i rs c → is_ready c.level ≡ false → (k : ℕ) → rows_of c.open_rows k ≡ []
bare i rs c s h k = s.rows k ∙ ap (λ b. rows_if b i (places i rs) (observer i rs).epoch k) (ap is_ready (sym s.level) ∙ h)

-- open channels of which one has these rows
abbrev pub open_channels_with : List (Option (List Item)) → ℕ → List Item → List (Option (List Item))
open_channels_with [] zero rows = Some rows ∷ []
open_channels_with [] (suc k) rows = None ∷ open_channels_with [] k rows
open_channels_with (open_channel ∷ open_channels) zero rows = Some rows ∷ open_channels
open_channels_with (open_channel ∷ open_channels) (suc k) rows = open_channel ∷ open_channels_with open_channels k rows

with_here : (open_channels : List (Option (List Item))) (k : ℕ) (rows : List Item) → rows_in (open_channel_at (open_channels_with open_channels k rows) k) ≡ rows
with_here [] zero rows = refl
with_here [] (suc k) rows = with_here [] k rows
with_here (open_channel ∷ open_channels) zero rows = refl
with_here (open_channel ∷ open_channels) (suc k) rows = with_here open_channels k rows

with_other : (open_channels : List (Option (List Item))) (k : ℕ) (rows : List Item) (j : ℕ) → j ≢ k → open_channel_at (open_channels_with open_channels k rows) j ≡ open_channel_at open_channels j
with_other [] zero rows zero ne = absurd (ne refl)
with_other [] zero rows (suc j) ne = refl
with_other [] (suc k) rows zero ne = refl
with_other [] (suc k) rows (suc j) ne = with_other [] k rows j (λ e. ne (ap suc e))
with_other (open_channel ∷ open_channels) zero rows zero ne = absurd (ne refl)
with_other (open_channel ∷ open_channels) zero rows (suc j) ne = refl
with_other (open_channel ∷ open_channels) (suc k) rows zero ne = refl
with_other (open_channel ∷ open_channels) (suc k) rows (suc j) ne = with_other open_channels k rows j (λ e. ne (ap suc e))

-- the rows with one more, after the last gap of all channels
abbrev pub rows_with : OpenRows → (gap channel : ℕ) → Item → OpenRows
rows_with o gap k item = record { open_channels = open_channels_with o.open_channels k (with_gap gap (rows_of o k) ++ item ∷ []); channels = with_channel (rows_of o k) k o.channels }

pub has_one_more : (o : OpenRows) (gap k : ℕ) (item : Item) → HasMore gap k item o (rows_with o gap k item)
has_one_more o gap k item =
    let rows = with_gap gap (rows_of o k) ++ item ∷ [] in
    record { row = with_here o.open_channels k rows; others = λ j ne. ap rows_in (with_other o.open_channels k rows j ne); channels = refl }

-- before the first row
pub nothing_cut : (i : Interface) → Represents i [] (no_cutting i)
nothing_cut i = represents_nothing i (no_cutting i) refl refl refl refl refl refl refl refl refl (λ k. refl) refl

pub nothing_bound : (i : Interface) → IsCutting (no_cutting i)
nothing_bound i = record {
  rows = omega arith;
  last = omega arith;
  octets = omega arith;
  epochs = omega arith;
  ids = omega arith;
  gaps = omega arith;
  gap = omega arith;
  recorded = inl refl;
  open_channels = λ k. no_items i k 0 0 0;
}
