-- What a data packet does to a settled channel, in the parts of the code.
use Rattle.std.specs.Prelude.{ℕ, Bool, true, false, ◌≡◌, List, [], ◌∷◌, ◌++◌, Option, Some, None, Result, Ok, Err}
use Rattle.line_model.specs.declared.event.Event.{Event}
use Rattle.line_model.specs.declared.event.What.TheVariants.{Data}
use Rattle.line_model.specs.declared.interface.Interface.{Interface}
use Rattle.line_model.specs.declared.packet.DataHeader.{DataHeader}
use Rattle.line_model.specs.declared.state.Side.{Side}
use Rattle.line_model.specs.declared.state.StateName.{StateName}
use Rattle.line_model.specs.packets.Formats.{size_in_force}
use Rattle.line_model.specs.channels.Channels.{AcceptedData, Channel, of_side, other}
use Rattle.line_model.specs.channels.ChannelStep.{counts_of}
use Rattle.line_model.specs.channels.FlowControl.{count_data}
use Rattle.line_model.specs.channels.Gaps.{Doubts}
use Rattle.line_model.specs.channels.GapStep.{SettledOutcome, alike_at_end, completed_for_data, counted_in_doubt, failing_in_doubt, is_mixed, may_be_begun, may_be_category_a, message_in_doubt, settings_in_doubt, window_in_doubt}
use Rattle.line_model.specs.channels.Sequences.{sequence_octets}
use Rattle.data_transfer.specs.Assembler.{begun_on}
use Rattle.data_transfer.specs.Assembly.{Holds}
use Rattle.data_transfer.specs.FlowResidues.{FlowResidues}
use Rattle.channel_machine.specs.declared.events.EventOrigin.{EventOrigin}
use Rattle.channel_machine.specs.Events.{Reports}
use Rattle.channel_machine.specs.GapView.{InDoubt}
use Rattle.channel_machine.specs.SettledNumbers.{IsNumbered, kept_of}
use Rattle.channel_machine.specs.SettledSequences.{kept_after}

-- the packets that a data packet of a side continues
abbrev pub continued_by : Interface → Doubts → Side → DataHeader → Channel → List AcceptedData
continued_by i b x h c = may_be_begun b.hidden (size_in_force i c x) x (completed_for_data i.modulus b x h c).accepted

-- what a data packet of a side does, judged in a state
abbrev pub data_settled : Interface → Side → StateName → DataHeader → AcceptedData → Doubts → Channel → SettledOutcome
data_settled i x q h p b c =
    counted_in_doubt i.modulus x q (size_in_force i c x) p
    (count_data i.modulus (window_in_doubt i b c x) (counts_of (completed_for_data i.modulus b x h c)) x h.send h.receive)
    b (completed_for_data i.modulus b x h c) c

-- the result for its numbers and its Q bit
abbrev pub IsDataJudged : Result FlowResidues ℕ → Interface → Doubts → Side → DataHeader → AcceptedData → Channel → Type 0
IsDataJudged (Ok f) i b x h p c = IsNumbered (Ok f) i b x h c × (is_mixed b.hidden (of_side x b.sequences) p (continued_by i b x h c) ≡ false)
IsDataJudged (Err n) i b x h p c = (q : StateName) → data_settled i x q h p b c ≡ failing_in_doubt x q n b c

-- a packet continues these packets of its side, and what is kept of them is kept there
pub record Continues (s : InDoubt) (x : Side) (hs : List AcceptedData) (p : AcceptedData) : Type 0 where
  pub holds : Holds (begun_on s.assembler x) (kept_of (of_side x s.doubts.sequences) s.doubts.hidden hs)
  pub alike : is_mixed s.doubts.hidden (of_side x s.doubts.sequences) p hs ≡ false

-- the message that a packet completes, if it carries one that is known
abbrev pub known_message : (carried known : Bool) → List AcceptedData → AcceptedData → Option (List ℕ)
known_message true true hs p = Some (sequence_octets (alike_at_end p hs ++ p ∷ []))
known_message true false hs p = None
known_message false known hs p = None

-- a packet is added to the sequence of its side
pub record IsPut (i : Interface) (x : Side) (old new : InDoubt) (a : Bool) (hs : List AcceptedData) (p : AcceptedData) (c : Channel) : Type 0 where
  pub category : a ≡ may_be_category_a old.doubts.hidden (size_in_force i c x) p
  pub begun : Holds (begun_on new.assembler x) (kept_after (of_side x old.doubts.sequences) old.doubts.hidden a hs p)
  pub apart : begun_on new.assembler (other x) ≡ begun_on old.assembler (other x)
  pub doubts : new.doubts ≡ old.doubts

-- a packet is added to the sequence of its side, and reported
pub record IsAdded (s : EventOrigin) (i : Interface) (x : Side) (old new : InDoubt) (before after : List Event) (a : Bool) (hs : List AcceptedData) (p : AcceptedData) (c : Channel) : Type 0 where
  pub put : IsPut i x old new a hs p c
  pub reports : Reports s before after (Data x p.length ∷ settings_in_doubt x (message_in_doubt old.doubts.hidden (of_side x old.doubts.sequences) (size_in_force i c x) p hs c))
