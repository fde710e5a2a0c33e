-- A channel, and what it represents (X.25 Annexes B and C).
use Rattle.std.specs.Prelude.{ℕ, Bool, ◌≡◌, List, ◌++◌, map, Option, None, Result, Ok, Err, IfOk, IfErr, OnErr}
use Rattle.line_model.specs.declared.state.ChannelState.{ChannelState}
use Rattle.line_model.specs.declared.state.Side.{Side}
use Rattle.line_model.specs.declared.state.StateName.{StateName}
use Rattle.line_model.specs.declared.event.Event.{Event}
use Rattle.line_model.specs.declared.event.What.{What}
use Rattle.line_model.specs.declared.fault.Fault.{Fault}
use Rattle.line_model.specs.declared.fault.Fault.TheVariants.{Memory}
use Rattle.line_model.specs.channels.ChannelStep.{Outcome, failing}
use Rattle.line_model.specs.channels.Channels.{Channel}
use Rattle.data_transfer.specs.Sequences.{Assembly}
use Rattle.channel_machine.specs.declared.messages.BothSettings.{BothSettings}
use Rattle.channel_machine.specs.declared.events.EventOrigin.{EventOrigin}
use Rattle.channel_machine.specs.Events.{Reports, data_of, event_at}
use Rattle.channel_machine.specs.TermsRepresent.{Agreed, TermsRepresent}
use Rattle.channel_machine.specs.Reached.{IsReached}
use Rattle.channel_machine.specs.Transfers as transfers
use Rattle.channel_machine.specs.Transfers.{Represents}
use Rattle.channel_machine.specs.Status.{Status}

-- what the code keeps of a channel
pub record Known : Type 0 where
  pub channel : ℕ
  pub state : ChannelState
  pub owed : Bool
  pub terms : Agreed
  pub transfer : transfers.Transfer

-- the same, from its status, its sequences and its settings
abbrev pub known : (channel : ℕ) → Status → Assembly → BothSettings → Known
known n s a b = record {
  channel = n;
  state = s.state;
  owed = s.owed;
  terms = s.terms;
  transfer = record { flow = s.flow; assembler = a; settings = b };
}

-- what the code keeps of a channel represents what the observer knows of it
pub record StatusRepresents (p : Known) (c : Channel) : Type 0 where
  pub state : p.state ≡ c.state
  pub owed : p.owed ≡ c.owed
  pub terms : TermsRepresent p.terms c
  pub transfer : Represents p.terms.interface p.transfer c

-- what the code keeps of a channel represents one that was followed from its beginning
pub record RepresentsReached (p : Known) (c : Channel) : Type 0 where
  pub represented : StatusRepresents p c
  pub reached : IsReached c

-- what a function does to a channel and its events
pub record Does (s : EventOrigin) (old new : Known) (before after : List Event) (o : Outcome) : Type 0 where
  pub interface : new.terms.interface ≡ old.terms.interface
  pub channel : new.channel ≡ old.channel
  pub represented : StatusRepresents new o.after
  pub reports : Reports s before after o.reported

-- the same where the event of an accepted data packet is kept out of the list
pub record DoesApart (s : EventOrigin) (x : Side) (old new : Known) (before after : List Event) (accepted : Option ℕ) (o : Outcome) : Type 0 where
  pub interface : new.terms.interface ≡ old.terms.interface
  pub channel : new.channel ≡ old.channel
  pub represented : StatusRepresents new o.after
  pub reports : after ++ map (event_at s) (data_of x accepted) ≡ before ++ map (event_at s) o.reported

-- a packet of data transfer that passes: the channel after it, and what it reports
pub record Passes (old new : Known) (ws : List What) (o : Outcome) : Type 0 where
  pub interface : new.terms.interface ≡ old.terms.interface
  pub channel : new.channel ≡ old.channel
  pub represented : StatusRepresents new o.after
  pub reported : o.reported ≡ ws

-- a packet of data transfer, judged in a state: one that passes reports this, and a fault leaves the channel as it was
abbrev pub IsJudged : {U : Type 0} → Result U ℕ → (U → List What) → Side → StateName → (old new : Known) → Channel → Outcome → Type 0
IsJudged (Ok u) ws x q old new c o = Passes old new (ws u) o
IsJudged (Err n) ws x q old new c o = (failing x q n c ≡ o) × (new ≡ old)

-- a step whose events are all listed
abbrev pub listed : {U : Type 0} → Result U Fault → Result (Option ℕ) Fault
listed (Ok u) = Ok None
listed (Err e) = Err e

-- the same of a function that may be out of memory, on each channel that it represents
abbrev pub Comes : {U : Type 0} → Result U Fault → EventOrigin → (old new : Known) → (before after : List Event) → (Channel → Outcome) → Type 0
Comes r s old new before after f = (c : Channel) → StatusRepresents old c → IfOk r (λ _. Does s old new before after (f c))

-- after a fault the channel and its events are as they were
abbrev pub IsUnchanged : {U : Type 0} → Result U Fault → (old new : Known) → (before after : List Event) → Type 0
IsUnchanged r old new before after = OnErr r ((new ≡ old) × (after ≡ before))

-- being out of memory is the only fault
abbrev pub IsMemory : {U : Type 0} → Result U Fault → Type 0
IsMemory r = IfErr r (λ fault. fault ≡ Memory)
