-- PAD messages on a channel, and the settings that represent them (X.29 clause 4).
use Rattle.std.specs.Prelude.{ℕ, ◌≡◌, List, ◌∷◌, ◌++◌, option_to_list}
use Rattle.line_model.specs.declared.state.Side.{Side}
use Rattle.line_model.specs.declared.state.Side.TheVariants.{T, N}
use Rattle.line_model.specs.declared.event.What.{What}
use Rattle.line_model.specs.declared.event.What.TheVariants.{Data}
use Rattle.line_model.specs.channels.ChannelStep.{option_found}
use Rattle.line_model.specs.channels.Pad.{message_fault, settings_after}
use Rattle.line_model.specs.channels.Channels.{PadMessage}
use Rattle.pad.specs.Represents as settings
use Rattle.channel_machine.specs.declared.messages.BothSettings.{BothSettings}

-- the settings of both PADs represent the messages of the call
pub record SettingsRepresent (b : BothSettings) (ts : List PadMessage) : Type 0 where
  pub pad_t : b.of_t.pad ≡ T
  pub pad_n : b.of_n.pad ≡ N
  pub of_t : settings.Represents b.of_t ts
  pub of_n : settings.Represents b.of_n ts

-- what a message of a side reports, on a packet of this length (X.29 clause 4; the order is profile)
abbrev pub message_reports : Side → (length : ℕ) → (ts : List PadMessage) → (message : List ℕ) → List What
message_reports x n ts m =
    option_to_list (option_found x (message_fault x ts m)) ++ Data x n ∷ settings_after (message_fault x ts m) x m
