-- Which call a row belongs to (profile): the one that is open on its logical channel after the row, otherwise the one that was open before it.
use Rattle.std.specs.Prelude.{◌≡◌, ℕ, zero, suc, ◌+◌, ◌<◌, ◌≤◌, ◌^◌, ◌==◌, Bool, true, false, List, [], ◌∷◌, ◌++◌, Option, None, Some, IfSome, length, if◌then◌else◌}
use Rattle.std.specs.List.{AllByRecursion}
use Rattle.line_model.specs.basics.Records.{CallRecord, Item}
use Rattle.line_model.specs.channels.GapRestart.{is_ready}
use Rattle.line_model.specs.declared.event.Event.{Event}
use Rattle.line_model.specs.declared.interface.Interface.{Interface}
use Rattle.line_model.specs.declared.state.RState.{RState}
use Rattle.line_model.specs.declared.state.RState.TheVariants.{R1}
use Rattle.line_model.specs.observer.Calls.{calls_of, is_end, is_opening}
use Rattle.line_model.specs.observer.Machine.{routed}
use Rattle.line_model.specs.observer.Observer.{events, x25}
use Rattle.restart_epochs.specs.ChannelTables.{value_at}
use Rattle.restart_epochs.specs.Cutting.{observer}
use Rattle.live_report.specs.declared.judged_row.Judge.{Judge}
use Rattle.live_report.specs.declared.judged_row.Judge.TheVariants as judge
use Rattle.annotated_trace.specs.Rows.{is_open_on}
use Rattle.descriptions.specs.declared.open_calls.CallMove.{CallMove}
use Rattle.descriptions.specs.declared.open_calls.ChannelCalls.{ChannelCalls}
use Rattle.descriptions.specs.declared.open_calls.OpenCalls.{OpenCalls}

-- the first of two numbers, unless it is 0
abbrev pub unless_0 : ℕ → ℕ → ℕ
unless_0 zero n = n
unless_0 (suc m) n = suc m

-- the number of the last call that is open on a logical channel in an epoch, where the first one has this number; 0 where none is open
abbrev pub open_call_from : (first epoch channel : ℕ) → List CallRecord → ℕ
open_call_from first e k [] = 0
open_call_from first e k (c ∷ cs) = unless_0 (open_call_from (first + 1) e k cs) (if is_open_on e k c then first else 0)

-- the same of calls that count from 1, as in the report
abbrev pub open_call : (epoch channel : ℕ) → List CallRecord → ℕ
open_call e k cs = open_call_from 1 e k cs

-- the number of the call that a row after others belongs to, by the logical channel that receives it; 0 where it belongs to none
abbrev pub call_on : Interface → (earlier : List Item) → Item → (taker : Option ℕ) → ℕ
call_on i earlier r None = 0
call_on i earlier r (Some k) = unless_0 (open_call (observer i earlier).epoch k (calls_of (events i (earlier ++ r ∷ [])))) (open_call (observer i earlier).epoch k (calls_of (events i earlier)))

abbrev pub call_of : Interface → (earlier : List Item) → Item → ℕ
call_of i earlier r = call_on i earlier r (routed (x25 i) (observer i earlier).level r)

-- ---- what the code keeps

-- of a row
abbrev pub row_call : CallMove → ℕ
row_call m = unless_0 m.after m.before

-- of a logical channel
abbrev pub number_at : (epoch : ℕ) → Option ChannelCalls → ℕ
number_at e None = 0
number_at e (Some c) = if c.epoch == e then c.call else 0

-- whether a row moved the restart machine out of r1, or left it elsewhere
abbrev pub is_elsewhere : RState → Bool
is_elsewhere R1 = false
is_elsewhere _ = true

abbrev pub leaves_ready : Judge → Bool
leaves_ready (judge.Restart before after) = is_elsewhere after
leaves_ready _ = false

-- an event of a logical channel in an epoch
abbrev pub IsOn : (epoch channel : ℕ) → Event → Type 0
IsOn e k f = (f.epoch ≡ e) × (f.channel ≡ k)

abbrev pub AreOn : (epoch channel : ℕ) → List Event → Type 0
AreOn e k fs = AllByRecursion (IsOn e k) fs

-- events that open no call and end none
abbrev pub AreQuiet : List Event → Type 0
AreQuiet fs = AllByRecursion (λ f. (is_opening f ≡ false) × (is_end f ≡ false)) fs

-- the calls of some events count within their type
abbrev pub AreFewCalls : List Event → Type 0
AreFewCalls es = length (calls_of es) < 2 ^ 32

-- then this is how many there are, and this the one that is open on a logical channel in an epoch
abbrev pub Counted : (epoch channel : ℕ) → List Event → (opened call : ℕ) → Type 0
Counted e k es opened call = AreFewCalls es → (opened ≡ length (calls_of es)) × (call ≡ open_call e k (calls_of es))

-- of these rows, it counts the calls, and has the number of the one that is open on each logical channel
pub record KeepsCalls {A : Type 0} (i : Interface) (rs : List Item) (o : OpenCalls A) : Type 0 where
  pub opened : AreFewCalls (events i rs) → o.opened ≡ length (calls_of (events i rs))
  pub calls : AreFewCalls (events i rs) → is_ready (observer i rs).level ≡ true → (k : ℕ) → number_at (observer i rs).epoch (value_at o.table k) ≡ open_call (observer i rs).epoch k (calls_of (events i rs))
  pub known : (k : ℕ) → IfSome (value_at o.table k) (λ c. c.epoch ≤ (observer i rs).epoch)
