-- The calls of one logical channel in one epoch, as its events come.
use Rattle.std.specs.Prelude.{◌≡◌, ℕ, ◌++◌, true, false, ◌||◌, is_some, List, [], ◌∷◌, find, sum, length, Option, Some, None, option_map, Result, OnOk}
use Rattle.std.specs.List.{AllByRecursion}
use Rattle.line_model.specs.declared.state.Side.TheVariants.{T, N}
use Rattle.line_model.specs.declared.event.How.{How}
use Rattle.line_model.specs.declared.event.What.TheVariants.{Open}
use Rattle.line_model.specs.declared.event.Event.{Event}
use Rattle.line_model.specs.basics.Records.{CallRecord}
use Rattle.line_model.specs.observer.Calls.{is_up, is_end, is_opening, lengths_from, all_lengths, segments_of, settings_of, calls_of}
use Rattle.call_accounts.specs.Counted.{Counts, IsCountable}
use Rattle.call_accounts.specs.declared.so_far.OpenCall.{OpenCall}
use Rattle.call_accounts.specs.declared.so_far.CallsSoFar.{CallsSoFar}

-- an event of a channel in an epoch
abbrev pub IsOf : (epoch channel : ℕ) → Event → Type 0
IsOf e k f = (f.epoch ≡ e) × (f.channel ≡ k)

-- an event that neither opens nor ends a call
abbrev pub IsWithin : Event → Type 0
IsWithin f = (is_end f || is_opening f) ≡ false

-- each call has ended: an end comes after its opening
abbrev pub AllEnded : List Event → Type 0
AllEnded [] = Unit {0}
AllEnded (f ∷ later) = (is_opening f ≡ true → is_some (find is_end later) ≡ true) × AllEnded later

-- the event that opened a call
abbrev pub opening_of : OpenCall → Event
opening_of c = record { epoch = c.epoch; channel = c.channel; packet = c.packet; what = Open c.out c.called c.calling c.reverse }

-- the record of a call by the events that belong to it, with its end
abbrev pub call_with : OpenCall → (own : List Event) → (ended : Option ℕ) → (how : Option How) → CallRecord
call_with c own ended how = record {
  epoch = c.epoch;
  channel = c.channel;
  out = c.out;
  called = c.called;
  calling = c.calling;
  reverse = c.reverse;
  up = option_map (λ f. f.packet) (find is_up own);
  opened = c.packet;
  ended = ended;
  how = how;
  data_t = length (lengths_from T own);
  oct_t = sum (lengths_from T own);
  data_n = length (lengths_from N own);
  oct_n = sum (lengths_from N own);
  segments = segments_of (all_lengths own);
  settings = settings_of own;
}

-- a call with an end, where it has none
abbrev pub ended_by : (packet : ℕ) → How → CallRecord → CallRecord
ended_by n h c = elim c.ended [ Some m ↦ c | None ↦ record c { ended = Some n; how = Some h } ]

-- the calls that have ended come before those that have not
abbrev pub EndFirst : List CallRecord → Type 0
EndFirst [] = Unit {0}
EndFirst (c ∷ cs) = (c.ended ≡ None → AllByRecursion (λ d. d.ended ≡ None) cs) × EndFirst cs

-- a call is open: the events that belong to it come after its opening, and the records are those of the calls before it
pub record IsOpenIn (closed : List CallRecord) (c : OpenCall) (es : List Event) : Type 0 where
  pub before : List Event
  pub own : List Event
  pub whole : es ≡ before ++ opening_of c ∷ own
  pub within : AllByRecursion IsWithin own
  pub earlier : closed ≡ calls_of before
  pub counts : Counts c.counts own

-- no call is open, and all have ended
pub record IsClosedIn (closed : List CallRecord) (es : List Event) : Type 0 where
  pub earlier : closed ≡ calls_of es
  pub ended : AllEnded es

-- records and the open call are those of the events of a channel
abbrev pub HoldsFor : List CallRecord → Option OpenCall → List Event → Type 0
HoldsFor closed None es = IsClosedIn closed es
HoldsFor closed (Some c) es = IsOpenIn closed c es

-- the calls so far are those of these events, all of one channel in one epoch
pub record Represents {A : Type 0} (s : CallsSoFar A) (epoch channel : ℕ) (es : List Event) : Type 0 where
  pub of_channel : AllByRecursion (IsOf epoch channel) es
  pub holds : HoldsFor s.closed.items s.call es

-- the records, where a call that may be open is closed without an end
abbrev pub HasCallsBy : List CallRecord → Option OpenCall → List CallRecord → Type 0
HasCallsBy closed None cs = closed ≡ cs
HasCallsBy closed (Some o) cs = (epoch : ℕ) × (channel : ℕ) × (es : List Event) × AllByRecursion (IsOf epoch channel) es × IsOpenIn closed o es × (cs ≡ calls_of es)

-- the records of the calls so far, where no more events come
abbrev pub HasCalls : {A : Type 0} → CallsSoFar A → List CallRecord → Type 0
HasCalls s cs = HasCallsBy s.closed.items s.call cs

-- of any events that were added: they were added with this one after them, if it is of their channel
abbrev pub AddsEvent : {A T E : Type 0} → (before : CallsSoFar A) → Event → (after : CallsSoFar A) → Result T E → Type 0
AddsEvent before e after result =
    (epoch channel : ℕ) (es : List Event) → Represents before epoch channel es → IsOf epoch channel e → IsCountable (es ++ e ∷ []) → OnOk result (Represents after epoch channel (es ++ e ∷ []))

-- of any events that were added: these are the records of their calls
abbrev pub AreCallsOf : {A : Type 0} → CallsSoFar A → List CallRecord → Type 0
AreCallsOf s cs = (epoch channel : ℕ) (es : List Event) → Represents s epoch channel es → cs ≡ calls_of es
