-- What the rows of a call add up to (profile).
use Rattle.std.specs.Prelude.{◌≡◌, ℕ, ◌+◌, ◌-◌, ◌*◌, ◌≤◌, ◌^◌, ◌==◌, List, [], ◌∷◌, ◌++◌, filter, get_or, length, map, sum, take, if◌then◌else◌}
use Rattle.line_model.specs.basics.Records.{Item}
use Rattle.line_model.specs.declared.interface.Interface.{Interface}
use Rattle.line_model.specs.declared.state.Side.{Side}
use Rattle.line_model.specs.declared.state.Side.TheVariants.{T, N}
use Rattle.line_model.specs.observer.Calls.{all_lengths, segments_of}
use Rattle.line_model.specs.observer.Machine.{routed}
use Rattle.line_model.specs.observer.Observer.{x25}
use Rattle.line_model.specs.observer.Report.{report_of}
use Rattle.restart_epochs.specs.Cutting.{observer}
use Rattle.descriptions.specs.Follows.{KeepsOrigins}
use Rattle.descriptions.specs.RowCalls.{call_of}
use Rattle.descriptions.specs.RowObjects.{events_at}
use Rattle.descriptions.specs.declared.call_sums.Addend.{Addend}
use Rattle.descriptions.specs.declared.call_sums.CallSums.{CallSums}
use Rattle.descriptions.specs.declared.call_table.CallTable.{CallTable}

-- each of some rows, with all rows before it
abbrev pub with_earlier : (earlier rows : List Item) → List (List Item × Item)
with_earlier earlier [] = []
with_earlier earlier (r ∷ rs) = (earlier, r) ∷ with_earlier (earlier ++ r ∷ []) rs

-- the rows of a call, each with all rows before it
abbrev pub rows_of_call : Interface → List Item → (call : ℕ) → List (List Item × Item)
rows_of_call i rs n = filter (λ (p : List Item × Item). call_of i p.0 p.1 == n) (with_earlier [] rs)

-- an amount of each row of a call, added up
abbrev pub sum_over : Interface → (amount : List Item × Item → ℕ) → List Item → (call : ℕ) → ℕ
sum_over i amount rs n = sum (map amount (rows_of_call i rs n))

-- how many findings a row adds to the report
abbrev pub findings_at : Interface → List Item × Item → ℕ
findings_at i p = length (report_of i (p.0 ++ p.1 ∷ [])).findings - length (report_of i p.0).findings

-- the segments of the data packet that a row counts, the first one of these lengths, where the DTE sent it
abbrev pub segments_from : Side → (lengths : List ℕ) → ℕ
segments_from T lengths = segments_of (take 1 lengths)
segments_from N lengths = 0

abbrev pub segments_at : Interface → List Item × Item → ℕ
segments_at i p = segments_from p.1.side (all_lengths (events_at i (routed (x25 i) (observer i p.0).level p.1) (observer i p.0) p.1))

-- the findings of a call's rows, and the segments of the data of its DTE
abbrev pub findings_in : Interface → List Item → (call : ℕ) → ℕ
findings_in i rs n = sum_over i (findings_at i) rs n

abbrev pub segments_in : Interface → List Item → (call : ℕ) → ℕ
segments_in i rs n = sum_over i (segments_at i) rs n

-- ---- what the code keeps

-- what a row after others adds to the sums of its call
pub record IsAddend (i : Interface) (earlier : List Item) (r : Item) (a : Addend) : Type 0 where
  pub call : a.call ≡ call_of i earlier r
  pub findings : a.findings ≡ findings_at i (earlier, r)
  pub segments : a.segments_t ≡ segments_at i (earlier, r)
  pub few_findings : a.findings ≤ 1
  pub few_segments : a.segments_t ≤ 2 ^ 26

-- the sum of a call
abbrev pub sum_at : {A : Type 0} → CallSums A → (call : ℕ) → ℕ
sum_at s n = get_or s.sums.items n 0

-- an amount was added to the sum of a call
abbrev pub HasAdded : {A : Type 0} → (before after : CallSums A) → (call amount : ℕ) → Type 0
HasAdded before after call amount = (n : ℕ) → sum_at after n ≡ (if call == n then sum_at before call + amount else sum_at before n)

-- these are the sums of an amount, which is small, over some rows
pub record AreSums {A : Type 0} (i : Interface) (amount : List Item × Item → ℕ) (rs : List Item) (s : CallSums A) : Type 0 where
  pub each : (n : ℕ) → sum_at s n ≡ sum_over i amount rs n
  pub few : (n : ℕ) → sum_over i amount rs n ≤ 2 ^ 26 * length rs

-- what the printer of the table keeps of some rows
pub record KeepsSums {A K : Type 0} (i : Interface) (rs : List Item) (t : CallTable A K) : Type 0 where
  pub origins : KeepsOrigins i rs t.past.origins
  pub findings : AreSums i (findings_at i) rs t.findings
  pub segments : AreSums i (segments_at i) rs t.segments_t
