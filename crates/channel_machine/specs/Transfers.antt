-- The data transfer part of a channel, and what it represents (X.25 clause 4).
use Rattle.std.specs.Prelude.{ℕ, ◌≡◌, List, length, Option, Some, None, Result, Ok, Err}
use Rattle.line_model.specs.declared.state.Side.{Side}
use Rattle.line_model.specs.declared.state.Side.TheVariants.{T, N}
use Rattle.line_model.specs.declared.state.StateName.{StateName}
use Rattle.line_model.specs.declared.interface.Interface.{Interface}
use Rattle.line_model.specs.declared.packet.DataHeader.{DataHeader}
use Rattle.line_model.specs.declared.event.Event.{Event}
use Rattle.line_model.specs.channels.Channels.{Channel, AcceptedData}
use Rattle.line_model.specs.channels.FlowControl.{Counts, count_data}
use Rattle.line_model.specs.packets.Formats.{window_in_force, size_in_force}
use Rattle.line_model.specs.channels.ChannelStep.{counts_of, data_counted, failing, accepting_data}
use Rattle.data_transfer.specs.FlowResidues.{FlowResidues, ResiduesRepresent}
use Rattle.data_transfer.specs.Sequences.{Assembly}
use Rattle.data_transfer.specs.Assembler as assembly
use Rattle.channel_machine.specs.declared.messages.BothSettings.{BothSettings}
use Rattle.channel_machine.specs.Messages.{SettingsRepresent}
use Rattle.channel_machine.specs.Events.{Reports}
use Rattle.channel_machine.specs.declared.events.EventOrigin.{EventOrigin}

-- what is kept of data transfer: the windows and interrupts, the sequences begun, and the settings of both PADs
pub record Transfer : Type 0 where
  pub flow : FlowResidues
  pub assembler : Assembly
  pub settings : BothSettings

-- the windows, sequences and settings of a channel, under the values in force
pub record Represents (i : Interface) (t : Transfer) (c : Channel) : Type 0 where
  pub flow : ResiduesRepresent t.flow (counts_of c)
  pub modulus : t.flow.modulus ≡ i.modulus
  pub windows : t.flow.windows ≡ record { of_t = window_in_force i c T; of_n = window_in_force i c N }
  pub sequences : assembly.Represents t.assembler c.accepted
  pub sizes : assembly.sizes t.assembler ≡ record { of_t = size_in_force i c T; of_n = size_in_force i c N }
  pub settings : SettingsRepresent t.settings c.pad_messages

-- what the counts return for a data packet of a side, in the window in force (X.25 clause 4.4.1)
abbrev pub counted_in_force : Interface → Side → (send receive : ℕ) → Channel → Result Counts ℕ
counted_in_force i x s n c = count_data i.modulus (window_in_force i c x) (counts_of c) x s n

-- the data packet of a header
abbrev pub packet : Side → DataHeader → List ℕ → AcceptedData
packet x h octets = record {
  side = x;
  qualified = h.qualified;
  more = h.more;
  delivery = h.delivery;
  length = length octets;
  octets = octets;
}

-- what a data packet does, by the result of its counts: a fault is reported and changes nothing
abbrev pub IsAccepted : Option ℕ → Interface → EventOrigin → (old new : Transfer) → (before after : List Event) →
    Side → AcceptedData → Result Counts ℕ → Channel → Type 0
IsAccepted (Some n) i s old new before after x p r c =
    ((t : StateName) → data_counted i x t p r c ≡ failing x t n c) × (new ≡ old) × (after ≡ before)
IsAccepted None i s old new before after x p r c =
    (v : Counts) × (m : Option (List ℕ)) × ((t : StateName) → data_counted i x t p r c ≡ accepting_data x p v m c)
    × Represents i new (accepting_data x p v m c).after × Reports s before after (accepting_data x p v m c).reported

-- what a packet that changes the counts alone does, by the result of the counts
abbrev pub IsCounted : {U : Type 0} → Result U ℕ → Interface → (old new : Transfer) → Result Counts ℕ → Channel → Type 0
IsCounted (Ok u) i old new r c =
    (v : Counts) × (r ≡ Ok v) × Represents i new (record c { acknowledged = v.acknowledged; unconfirmed = v.unconfirmed })
IsCounted (Err e) i old new r c = (r ≡ Err e) × (new ≡ old)
