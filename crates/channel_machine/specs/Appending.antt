-- What a data packet whose numbers are valid does to the sequences and the settings (X.25 clause 4.3.5).
use Rattle.std.specs.Prelude.{ℕ, Bool, true, false, ◌≡◌, List, [], ◌∷◌, ◌++◌, Option, Some, None}
use Rattle.line_model.specs.declared.event.Event.{Event}
use Rattle.line_model.specs.declared.state.Side.{Side}
use Rattle.line_model.specs.channels.Channels.{AcceptedData, PadMessage, of_side}
use Rattle.line_model.specs.channels.ChannelStep.{data_reports, messages_after}
use Rattle.line_model.specs.channels.Sequences.{is_alike, is_category_a, sequence_octets}
use Rattle.data_transfer.specs.Assembler.{Represents, begun_by, sizes}
use Rattle.data_transfer.specs.Sequences.{Assembly}
use Rattle.channel_machine.specs.Carried.{carried}
use Rattle.channel_machine.specs.declared.events.EventOrigin.{EventOrigin}
use Rattle.channel_machine.specs.declared.messages.BothSettings.{BothSettings}
use Rattle.channel_machine.specs.Events.{Reports}
use Rattle.channel_machine.specs.Messages.{SettingsRepresent}

-- the message of a sequence, which goes on or not
abbrev pub message_by : (goes_on carries_message : Bool) → List ℕ → Option (List ℕ)
message_by true b m = None
message_by false b m = carried b m

-- the message that a packet completes after those that were accepted
abbrev pub message_of : (carries_message : Bool) → Assembly → Side → AcceptedData → List AcceptedData → Option (List ℕ)
message_of b a x p hs = message_by (is_category_a (of_side x (sizes a)) p) b (sequence_octets (begun_by a x hs ++ p ∷ []))

-- by whether it has the Q bit of the sequence that was begun
abbrev pub IsAppended : (alike carries_message : Bool) → EventOrigin → (old new : Assembly) → (settings : BothSettings) → (before after : List Event) → Side → AcceptedData →
    List AcceptedData → List PadMessage → Type 0
IsAppended false b s old new settings before after x p hs ts = is_alike p (begun_by old x hs) ≡ false
IsAppended true b s old new settings before after x p hs ts =
    (is_alike p (begun_by old x hs) ≡ true) × Represents new (hs ++ p ∷ []) × (m : Option (List ℕ)) × (m ≡ message_of b old x p hs)
    × SettingsRepresent settings (messages_after x ts m) × Reports s before after (data_reports x p ts m)
