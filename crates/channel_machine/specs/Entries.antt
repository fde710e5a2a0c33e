-- What an entry of the state tables has a channel do with a packet.
use Rattle.std.specs.Prelude.{ℕ, Bool, true, false, not, ◌&&◌, Option, Some, None}
use Rattle.line_model.specs.declared.interface.Interface.{Interface}
use Rattle.line_model.specs.declared.packet.Class.{Class}
use Rattle.line_model.specs.declared.packet.Class.TheVariants.{Data, Interrupt, InterruptConfirm, Rr, Rnr}
use Rattle.line_model.specs.declared.packet.DataHeader.{DataHeader}
use Rattle.line_model.specs.declared.state.ChannelState.{ChannelState}
use Rattle.line_model.specs.declared.state.Side.{Side}
use Rattle.line_model.specs.declared.table.Action.{Action}
use Rattle.line_model.specs.declared.table.Action.TheVariants.{Move, Normal}
use Rattle.line_model.specs.basics.Records.{Item}
use Rattle.line_model.specs.packets.Formats.{packet_fault}
use Rattle.line_model.specs.channels.Channels.{Channel}
use Rattle.line_model.specs.channels.ChannelStep.{Judged, Outcome, call_change, state_named, verdict, verdict_step}
use Rattle.line_model.specs.channels.GapStep.{is_in_d1}
use Rattle.channel_machine.specs.Reached.{is_from}

-- the packets of data transfer
abbrev pub is_transfer : Class → Bool
is_transfer Data = true
is_transfer Interrupt = true
is_transfer InterruptConfirm = true
is_transfer Rr = true
is_transfer Rnr = true
is_transfer _ = false

-- whether a packet is data with Q 0, by its header
abbrev pub is_unqualified : Option DataHeader → Bool
is_unqualified None = false
is_unqualified (Some h) = not h.qualified

-- whether the tables can have an entry for a packet in a state: only a packet of data transfer is normal, and a move
-- comes from where it changes the call so
abbrev pub is_entry : Action → Side → Class → (from : ChannelState) → Bool
is_entry Normal x k s = is_transfer k
is_entry (Move to) x k s = is_from (call_change x k to) to s
is_entry _ x k s = true

-- from which states an entry comes: a packet is normal in d1 alone, and no move of a channel in d1 is one to d1
abbrev pub comes_from : Action → (from : ChannelState) → Bool
comes_from Normal s = is_in_d1 s
comes_from (Move to) s = not (is_in_d1 (state_named to) && is_in_d1 s)
comes_from _ s = true

-- what a packet does to its channel by an entry
abbrev pub entry_step : Interface → (channel : ℕ) → Judged → Item → Channel → Outcome
entry_step i n j r c = verdict_step i j.state r (verdict j (packet_fault i n c r)) c
