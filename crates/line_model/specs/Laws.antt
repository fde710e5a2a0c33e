-- Theorems about every interface and its rows.
use Rattle.std.specs.Prelude.{◌∷◌, map, ◌++◌, ◌≡◌, ℕ, ◌≤◌, List, Some, filter}
use Rattle.std.specs.List.{flat_map}
use Rattle.std.specs.List.Sorted.{IsPermutation, IsStrictlyIncreasing}
use Rattle.line_model.specs.declared.interface.Interface.{Interface}
use Rattle.line_model.specs.declared.finding.Finding.{Finding}
use Rattle.line_model.specs.basics.Records.{CallRecord, Item, Row}
use Rattle.line_model.specs.text.Text.{early_head, early_rows, head, rows}
use Rattle.line_model.specs.observer.MachineEvents.{walk_events}
use Rattle.line_model.specs.pieces.Shuffle.{IsShuffle, SameWalks}
use Rattle.line_model.specs.pieces.Pieces.{is_of, placed, events_of_piece}
use Rattle.line_model.specs.pieces.Merge.{IsPlan, drawn}
use Rattle.line_model.specs.observer.Peak.{IsPeakOfTimes, how_many, is_up_at, times_of}
use Rattle.line_model.specs.observer.Calls.{is_up_event, is_end_event, calls_of, up_at}
use Rattle.line_model.specs.pieces.Plan.{plan_of}
use Rattle.line_model.specs.observer.Observer.{x25, start, events, peak}
use Rattle.line_model.specs.observer.Report.{findings_of}
use Rattle.line_model.specs.pieces.Plans.{plan, result_of, level_findings, channel_totals}
use Rattle.line_model.specs.work.Book.{totals_of, IsNumbered}
use Rattle.line_model.specs.basics.Bounds.{AreRows, AreSaid}

-- rows of different channels may be walked in any order: each row has the same events, and the observer is the same at the end
abbrev pub ShuffleLaw : Type 0
ShuffleLaw = (i : Interface) (xs ys : List Item) → IsShuffle (x25 i) (start i) xs ys → SameWalks (x25 i) (start i) xs ys

-- the events of each channel in each epoch are those of its piece alone
abbrev pub PiecesLaw : Type 0
PiecesLaw = (i : Interface) (rs : List Item) (e k : ℕ) → 1 ≤ e → 1 ≤ k → k ≤ i.svc
    → filter (is_of e k) (walk_events (x25 i) (start i) rs) ≡ events_of_piece (x25 i) e k (placed (x25 i) (start i) rs)

-- the plan has each piece once
abbrev pub PlanLaw : Type 0
PlanLaw = (i : Interface) (rs : List Item) → AreSaid i rs → IsPlan (x25 i) (start i) rs (plan_of (x25 i) (start i) rs)

-- the findings of the restart machine and of the pieces, in the order of their packets, are those of the walk
abbrev pub FindingsLaw : Type 0
FindingsLaw = (i : Interface) (rs : List Item) → AreSaid i rs → IsStrictlyIncreasing (map (λ r. r.number) rs)
    → (merged : List Finding) → IsPermutation (level_findings i rs ++ flat_map (λ p. (result_of p).findings) (plan i rs)) merged
    → IsStrictlyIncreasing (map (λ f. f.packet) merged)
    → merged ≡ findings_of (events i rs)

-- the findings of the restart machine and of the pieces are those of the walk, which are in the order of their packets
pub record FindingsOfPieces (i : Interface) (rs : List Item) : Type 0 where
  pub same_findings : IsPermutation (level_findings i rs ++ flat_map (λ p. (result_of p).findings) (plan i rs)) (findings_of (events i rs))
  pub in_order : IsStrictlyIncreasing (map (λ f. f.packet) (findings_of (events i rs)))

abbrev pub FindingsOrderLaw : Type 0
FindingsOrderLaw = (i : Interface) (rs : List Item) → AreSaid i rs → IsStrictlyIncreasing (map (λ r. r.number) rs) → FindingsOfPieces i rs

-- the values of the plan's pieces add up to the observer's totals over the channels
abbrev pub TotalsLaw : Type 0
TotalsLaw = (i : Interface) (rs : List Item) → AreSaid i rs → totals_of (map result_of (plan i rs)) ≡ channel_totals i rs

-- each piece of the plan has its place as its id
abbrev pub NumbersLaw : Type 0
NumbersLaw = (i : Interface) (rs : List Item) → IsNumbered (plan i rs)

-- the peak after any row is the greatest number of calls that are up at once
abbrev pub PeakLaw : Type 0
PeakLaw = (i : Interface) (rs : List Item) → AreSaid i rs → IsStrictlyIncreasing (0 ∷ map (λ r. r.number) rs)
    → IsPeakOfTimes
    (λ n. how_many (is_up_at n) (drawn (λ v. is_up_event v.what) (times_of is_end_event (λ r. r.number)) (walk_events (x25 i) (start i) rs)))
    (peak i rs).0 (peak i rs).1

-- the calls of the pieces, in the order of their opening packets, are those of the walk
abbrev pub CallsLaw : Type 0
CallsLaw = (i : Interface) (rs : List Item) → AreSaid i rs → IsStrictlyIncreasing (map (λ r. r.number) rs)
    → (merged : List CallRecord) → IsPermutation (flat_map (λ p. (result_of p).calls) (plan i rs)) merged
    → IsStrictlyIncreasing (map (λ c. c.opened) merged)
    → merged ≡ calls_of (events i rs)

-- the peak after any row is the peak over the times of the calls
abbrev pub CallsPeakLaw : Type 0
CallsPeakLaw = (i : Interface) (rs : List Item) → AreSaid i rs → IsStrictlyIncreasing (0 ∷ map (λ r. r.number) rs)
    → IsPeakOfTimes (up_at (calls_of (events i rs))) (peak i rs).0 (peak i rs).1

-- the calls of the pieces are those of the walk, which are in the order of their opening packets
pub record CallsOfPieces (i : Interface) (rs : List Item) : Type 0 where
  pub same_calls : IsPermutation (flat_map (λ p. (result_of p).calls) (plan i rs)) (calls_of (events i rs))
  pub in_order : IsStrictlyIncreasing (map (λ c. c.opened) (calls_of (events i rs)))

-- the calls of the pieces are those of the walk, in the order of their opening packets
abbrev pub CallsOrderLaw : Type 0
CallsOrderLaw = (i : Interface) (rs : List Item) → AreSaid i rs → IsStrictlyIncreasing (map (λ r. r.number) rs) → CallsOfPieces i rs

-- the interface that the first lines of an input set up is that of the input whatever follows
abbrev pub EarlyHeadLaw : Type 0
EarlyHeadLaw = (text more : List ℕ) (i : Interface) → early_head text ≡ Some i → head (text ++ more) ≡ Some i

-- the rows of the first lines of an input are the first rows of the input whatever follows
abbrev pub EarlyRowsLaw : Type 0
EarlyRowsLaw = (text more : List ℕ) → (rest : List Row) × (rows (text ++ more) ≡ early_rows text ++ rest)

-- the rows of an input are of the interface that it sets up
abbrev pub RowsLaw : Type 0
RowsLaw = (text : List ℕ) (i : Interface) → head text ≡ Some i → AreRows i (rows text)

-- the rows of its first lines are of it too
abbrev pub FirstRowsLaw : Type 0
FirstRowsLaw = (text : List ℕ) (i : Interface) → early_head text ≡ Some i → AreRows i (early_rows text)
