-- The calls of many channels in many epochs: those of each place apart.
use Rattle.std.specs.Prelude.{◌≡◌, ℕ, ◌==◌, ◌&&◌, List, [], Option, Some, None, if◌then◌else◌, filter}
use Rattle.std.specs.BTreeMap.{get}
use Rattle.std.specs.declared.cmp.Ordering.{Ordering}
use Rattle.std.specs.Ordering.{ordering_then, nat_cmp}
use Rattle.line_model.specs.declared.event.Event.{Event}
use Rattle.line_model.specs.basics.Records.{CallRecord}
use Rattle.call_accounts.specs.SoFar.{Represents, HasCalls}
use Rattle.call_accounts.specs.declared.so_far.CallsSoFar.{CallsSoFar}
use Rattle.call_accounts.specs.declared.call.Places.{Places}

-- the events of one channel in one epoch
abbrev pub own_events : (epoch channel : ℕ) → List Event → List Event
own_events e c es = filter (λ f. e == f.epoch && c == f.channel) es

-- the records of one channel in one epoch
abbrev pub own_calls : (epoch channel : ℕ) → List CallRecord → List CallRecord
own_calls e c cs = filter (λ r. e == r.epoch && c == r.channel) cs

-- where a call was opened
abbrev pub place_of : CallRecord → ℕ × ℕ
place_of r = (r.epoch, r.channel)

-- places by epoch and then by channel
abbrev pub place_order : ℕ × ℕ → ℕ × ℕ → Ordering
place_order x y = ordering_then (nat_cmp x.0 y.0) (nat_cmp x.1 y.1)

-- the calls of a place, where any event of it was added
abbrev pub calls_at : {A : Type 0} → Places A → ℕ → ℕ → Option (CallsSoFar A)
calls_at t e c = if t.epoch == e && t.channel == c then Some t.here else get place_order t.others (e, c)

-- the state kept for a place represents these values; where none is kept, there are no values
abbrev pub IsKept : {A X : Type 0} → (CallsSoFar A → List X → Type 0) → Option (CallsSoFar A) → List X → Type 0
IsKept P None xs = xs ≡ []
IsKept P (Some s) xs = P s xs

-- these events were added, each at its place
abbrev pub AreAdded : {A : Type 0} → Places A → List Event → Type 0
AreAdded t es = (e c : ℕ) → IsKept (λ s. Represents s e c) (calls_at t e c) (own_events e c es)

-- these records are left, each at its place
abbrev pub AreLeft : {A : Type 0} → Places A → List CallRecord → Type 0
AreLeft t cs = (e c : ℕ) → IsKept HasCalls (calls_at t e c) (own_calls e c cs)

-- the calls of a place that becomes current: those that are kept, or none yet
abbrev pub IsFound : {A : Type 0} → Option (CallsSoFar A) → CallsSoFar A → Type 0
IsFound None s = (e c : ℕ) → Represents s e c []
IsFound (Some t) s = s ≡ t
