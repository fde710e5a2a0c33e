-- What a packet does to a settled channel, in the parts of the code.
use Rattle.std.specs.Prelude.{ℕ, ◌≡◌, List, ◌++◌, map, Option, Result, Ok, Err, IfOk, OnErr}
use Rattle.line_model.specs.declared.event.Event.{Event}
use Rattle.line_model.specs.declared.fault.Fault.{Fault}
use Rattle.line_model.specs.declared.interface.Interface.{Interface}
use Rattle.line_model.specs.declared.state.Side.{Side}
use Rattle.line_model.specs.declared.state.StateName.{StateName}
use Rattle.line_model.specs.basics.Records.{Item}
use Rattle.line_model.specs.packets.Classes.{packet_class}
use Rattle.line_model.specs.packets.Formats.{packet_fault}
use Rattle.line_model.specs.channels.Channels.{Channel, is_permanent}
use Rattle.line_model.specs.channels.ChannelStep.{Judged, judged, report_nothing, verdict}
use Rattle.line_model.specs.channels.Gaps.{Doubts}
use Rattle.line_model.specs.channels.GapStep.{SettledOutcome, doubts_in, failing_in_doubt, settled_verdict}
use Rattle.channel_machine.specs.declared.events.EventOrigin.{EventOrigin}
use Rattle.channel_machine.specs.Channels.{Known}
use Rattle.channel_machine.specs.Events.{Reports, data_of, event_at}
use Rattle.channel_machine.specs.GapChannels.{RepresentsSettled, at_rest}
use Rattle.channel_machine.specs.GapView.{InDoubt}
use Rattle.channel_machine.specs.SettledNumbers.{NumbersRepresent, SequencesRepresent}

-- what a packet does by an entry of the state tables
abbrev pub settled_entry : Interface → (channel : ℕ) → Judged → Item → Doubts → Channel → SettledOutcome
settled_entry i n j r b c = settled_verdict i j.state r (verdict j (packet_fault i n c r)) b c

-- what a packet does
abbrev pub settled_row : Interface → (channel : ℕ) → Item → Doubts → Channel → SettledOutcome
settled_row i n r b c = settled_entry i n (judged (is_permanent i n) r.side c.state c.owed (packet_class r.packet)) r b c

-- what the numbers of a settled channel return for a packet that changes the counts alone, and the channel after it
abbrev pub IsControlled : {U : Type 0} → Result U ℕ → Interface → Side → StateName → (new : InDoubt) → Doubts → Channel → SettledOutcome → Type 0
IsControlled (Ok u) i x s new b c o =
    (e : Channel) × (o ≡ record { outcome = report_nothing e; doubts = new.doubts }) × (at_rest e ≡ at_rest c) × NumbersRepresent i.modulus new e × SequencesRepresent i new e
IsControlled (Err n) i x s new b c o = o ≡ failing_in_doubt x s n b c

-- what a function does to a settled channel and its events
pub record SettledDoes (s : EventOrigin) (old new : Known) (left : InDoubt) (before after : List Event) (o : SettledOutcome) : Type 0 where
  pub interface : new.terms.interface ≡ old.terms.interface
  pub channel : new.channel ≡ old.channel
  pub doubts : left.doubts ≡ doubts_in o.outcome.after.state o.doubts
  pub represented : RepresentsSettled new left o.outcome.after
  pub reports : Reports s before after o.outcome.reported

-- the same of a function that memory may be refused to, on each channel that is settled so
abbrev pub ComesSettled : {U : Type 0} → Result U Fault → EventOrigin → (old new : Known) → (held left : InDoubt) → (before after : List Event) → (Channel → SettledOutcome) → Type 0
ComesSettled r s old new held left before after f =
    (c : Channel) → RepresentsSettled old held c → IfOk r (λ _. SettledDoes s old new left before after (f c))

-- the same where the event of an accepted data packet of side x is kept out of the list
abbrev pub ComesSettledApart : Result (Option ℕ) Fault → EventOrigin → Side → (old new : Known) → (held left : InDoubt) → (before after : List Event) → (Channel → SettledOutcome) → Type 0
ComesSettledApart r s x old new held left before after f =
    (c : Channel) → RepresentsSettled old held c → IfOk r (λ accepted. SettledDoes s old new left before (after ++ map (event_at s) (data_of x accepted)) (f c))

-- after a fault all is as it was
abbrev pub IsSettledUnchanged : {U : Type 0} → Result U Fault → (old new : Known) → (held left : InDoubt) → (before after : List Event) → Type 0
IsSettledUnchanged r old new held left before after = OnErr r ((new ≡ old) × (left ≡ held) × (after ≡ before))
