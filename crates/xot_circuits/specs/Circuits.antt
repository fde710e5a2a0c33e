-- The circuit of a connection.
use Rattle.std.specs.Prelude.{ℕ, ◌%◌, ◌==◌, ◌&&◌, ◌||◌, Bool, true, false, not, List, Option, Some, None, unwrap_or, if◌then◌else◌}
use Rattle.std.specs.Option.{option_or}
use Rattle.line_model.specs.declared.state.Side.{Side}
use Rattle.line_model.specs.declared.state.Side.TheVariants.{T, N}
use Rattle.xot_circuits.specs.Calls.{after_gap, after_packet, head_of, is_confirmed, new_call}
use Rattle.xot_circuits.specs.declared.call.Head.{Head}
use Rattle.xot_circuits.specs.declared.channels.Purpose.{Purpose}
use Rattle.xot_circuits.specs.declared.channels.Purpose.TheVariants.{Permanent, Calls}
use Rattle.xot_circuits.specs.declared.circuit.Circuit.{Circuit}
use Rattle.xot_circuits.specs.declared.circuit.What.{What}
use Rattle.xot_circuits.specs.declared.circuit.What.TheVariants.{Packet, OtherChannel, SetUp, OfInterface}
use Rattle.xot_circuits.specs.declared.joining.Expected.{Expected}
use Rattle.xot_circuits.specs.declared.joining.SeenChannels.{SeenChannels}

abbrev pub new_circuit : (is_joined : Bool) → Circuit
new_circuit joined = record { modulus = None; of_t = None; of_n = None; call = new_call joined; has_gap = joined; is_left = false }

-- data and RR (X.25 table 5-2)
abbrev pub is_flow : (kind : ℕ) → Bool
is_flow kind = kind % 2 == 0 || kind % 32 == 1

-- diagnostic, registration and its confirmation, restart and its confirmation
abbrev pub is_of_interface : (kind : ℕ) → Bool
is_of_interface kind = kind == 0xF1 || (kind == 0xF3 || (kind == 0xF7 || (kind == 0xFB || kind == 0xFF)))

abbrev pub seen_of : Side → Circuit → Option SeenChannels
seen_of T c = c.of_t
seen_of N c = c.of_n

abbrev pub expected : Side → Circuit → Expected
expected s c = record { modulus = c.modulus; channels = seen_of s c }

-- for what the circuit needs a logical channel of the trace
abbrev pub purpose : Circuit → Purpose
purpose c = if c.call.is_permanent then Permanent else Calls (unwrap_or c.call.caller T)

abbrev pub seen_after : Option SeenChannels → (channel : ℕ) → SeenChannels
seen_after None channel = record { first = channel; last = channel }
seen_after (Some seen) channel = record { first = seen.first; last = channel }

abbrev pub is_last : Option SeenChannels → (channel : ℕ) → Bool
is_last None channel = false
is_last (Some seen) channel = seen.last == channel

-- the circuit of the next packet of a side
abbrev pub with_seen : Side → Option SeenChannels → Circuit → Circuit
with_seen T seen c = record c { of_t = seen }
with_seen N seen c = record c { of_n = seen }

-- what a packet is, and the circuit after it
pub record Followed : Type 0 where
  pub what : What
  pub after : Circuit

-- data or RR on the channel of the packet before it, while no confirmed clear is there
abbrev pub is_known : Side → Head → Circuit → Bool
is_known s h c = is_flow h.kind && (is_last (seen_of s c) h.channel && not (is_confirmed c.call.clearing))

abbrev pub what_of : Option SeenChannels → (channel : ℕ) → What
what_of None channel = Packet
what_of (Some seen) channel = if seen.last == channel then Packet else OtherChannel seen.last

abbrev pub taken : Side → Head → Circuit → Followed
taken s h c = record {
  what = what_of (seen_of s c) h.channel;
  after = with_seen s (Some (seen_after (seen_of s c) h.channel)) (record c { modulus = option_or c.modulus h.modulus; call = after_packet s h c.call });
}

abbrev pub followed_by : Side → Option Head → Circuit → Followed
followed_by s None c = record { what = Packet; after = c }
followed_by s (Some h) c = if is_known s h c then record { what = Packet; after = c }
    else if h.kind == 0xF5 && not c.call.is_called then record { what = SetUp; after = record c { call = record c.call { is_permanent = true } } }
    else if h.channel == 0 && is_of_interface h.kind then record { what = OfInterface h.kind; after = c }
    else taken s h c

abbrev pub followed : Side → List ℕ → Circuit → Followed
followed s octets c = followed_by s (head_of octets) c

-- after a gap a missing packet may have left p1
abbrev pub after_loss : Circuit → Circuit
after_loss c = record c { call = after_gap c.call; has_gap = true }

-- a header of another version: a wrong place after a gap, otherwise no XOT
abbrev pub after_other_version : Circuit → Circuit
after_other_version c = if c.has_gap then record c { call = after_gap c.call } else record c { is_left = true }
