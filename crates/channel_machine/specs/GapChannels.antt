-- What the code keeps of a channel of a recording with gaps, and the channel that it represents.
use Rattle.std.specs.Prelude.{ℕ, Bool, true, false, ◌≡◌, List, [], ◌++◌, map, Option, None, Result, IfOk, IfNone, OnErr}
use Rattle.line_model.specs.declared.event.Event.{Event}
use Rattle.line_model.specs.declared.fault.Fault.{Fault}
use Rattle.line_model.specs.declared.interface.Interface.{Interface}
use Rattle.line_model.specs.declared.state.Side.{Side}
use Rattle.line_model.specs.channels.Channels.{Channel, is_in_transfer, is_open, is_permanent}
use Rattle.line_model.specs.channels.Gaps as gaps
use Rattle.line_model.specs.channels.Gaps.{WhileAdrift, no_doubts, of_both}
use Rattle.line_model.specs.channels.GapStep.{GapOutcome, is_in_d1}
use Rattle.channel_machine.specs.declared.events.EventOrigin.{EventOrigin}
use Rattle.channel_machine.specs.Channels.{Known, StatusRepresents, RepresentsReached}
use Rattle.channel_machine.specs.Events.{Reports, data_of, event_at}
use Rattle.channel_machine.specs.GapView.{InDoubt, KnownCertainty}
use Rattle.channel_machine.specs.GapView.KnownCertainty.{Certain, Adrift, Settled}
use Rattle.channel_machine.specs.Reached.{IsReached}
use Rattle.channel_machine.specs.SettledNumbers.{NumbersRepresent, SequencesRepresent}

-- what the code keeps of a channel of a recording with gaps
pub record GapKnown : Type 0 where
  pub channel : Known
  pub restarting : Bool
  pub certainty : KnownCertainty

-- the interface of a channel, and its number
abbrev pub interface_of : GapKnown → Interface
interface_of p = p.channel.terms.interface

abbrev pub number_of : GapKnown → ℕ
number_of p = p.channel.channel

-- what is certain
abbrev pub certainty_of : KnownCertainty → gaps.Certainty
certainty_of Certain = gaps.Certain
certainty_of (Adrift a) = gaps.Adrift a
certainty_of (Settled s) = gaps.Settled s.doubts

-- the channel without its numbers, interrupts and sequences
abbrev pub at_rest : Channel → Channel
at_rest c = record c { accepted = []; acknowledged = of_both 0; unconfirmed = of_both false }

-- a channel adrift: all that was seen is kept, a permanent circuit is in data transfer, and a call that is not up was not
-- answered, unless another call may be hidden
pub record RepresentsAdrift (p : Known) (a : WhileAdrift) (c : Channel) : Type 0 where
  pub represented : StatusRepresents p c
  pub bare : IfNone c.opening (c.accepting ≡ None)
  pub circuit : is_permanent p.terms.interface p.channel ≡ true → is_in_transfer c ≡ true
  pub unanswered : a.hidden ≡ false → is_open c ≡ true → is_in_transfer c ≡ false → c.accepting ≡ None

-- a settled channel: numbers, interrupts and sequences are kept apart. Outside d1 nothing of them is in doubt or outstanding.
pub record RepresentsSettled (p : Known) (s : InDoubt) (c : Channel) : Type 0 where
  pub rest : StatusRepresents p (at_rest c)
  pub reached : IsReached c
  pub numbers : NumbersRepresent p.terms.interface.modulus s c
  pub sequences : SequencesRepresent p.terms.interface s c
  pub outside : is_in_d1 c.state ≡ false → (s.doubts ≡ no_doubts s.doubts.hidden) × (at_rest c ≡ c)

-- what is kept of a channel by what is certain of it
abbrev pub IsKnownBy : KnownCertainty → Known → Channel → Type 0
IsKnownBy Certain p c = RepresentsReached p c
IsKnownBy (Adrift a) p c = RepresentsAdrift p a c
IsKnownBy (Settled s) p c = RepresentsSettled p s c

-- what the code keeps represents a channel of the definitions
pub record Represents (p : GapKnown) (g : gaps.GapChannel) : Type 0 where
  pub restarting : p.restarting ≡ g.restarting
  pub certainty : certainty_of p.certainty ≡ g.certainty
  pub channel : IsKnownBy p.certainty p.channel g.channel

-- the channel of the definitions that has this channel adrift
abbrev pub adrift_at : GapKnown → WhileAdrift → Channel → gaps.GapChannel
adrift_at p a c = record { channel = c; restarting = p.restarting; certainty = gaps.Adrift a }

-- what a function does to a channel and its events
pub record GapDoes (s : EventOrigin) (old new : GapKnown) (before after : List Event) (o : GapOutcome) : Type 0 where
  pub interface : interface_of new ≡ interface_of old
  pub number : number_of new ≡ number_of old
  pub represents : Represents new o.after
  pub reports : Reports s before after o.reported

-- the same where the event of an accepted data packet is kept out of the list
pub record GapDoesApart (s : EventOrigin) (x : Side) (old new : GapKnown) (before after : List Event) (accepted : Option ℕ) (o : GapOutcome) : Type 0 where
  pub interface : interface_of new ≡ interface_of old
  pub number : number_of new ≡ number_of old
  pub represents : Represents new o.after
  pub reports : after ++ map (event_at s) (data_of x accepted) ≡ before ++ map (event_at s) o.reported

-- what a function does to a channel adrift, unless memory is refused
abbrev pub ComesAdrift : {U : Type 0} → Result U Fault → EventOrigin → (old new : GapKnown) → (before after : List Event) → WhileAdrift → (gaps.GapChannel → GapOutcome) → Type 0
ComesAdrift r s old new before after a f =
    (c : Channel) → RepresentsAdrift old.channel a c → IfOk r (λ _. GapDoes s old new before after (f (adrift_at old a c)))

-- after a fault the channel and its events are as they were
abbrev pub IsGapUnchanged : {U : Type 0} → Result U Fault → (old new : GapKnown) → (before after : List Event) → Type 0
IsGapUnchanged r old new before after = OnErr r ((new ≡ old) × (after ≡ before))
