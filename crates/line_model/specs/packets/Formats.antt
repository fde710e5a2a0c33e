-- Values in force, and faults of format (X.25 clause 5 and Annex E; the order is profile).
use Rattle.std.specs.Prelude.{ℕ, Bool, true, false, ◌==◌, nat_lt, ◌+◌, List, [], ◌∷◌, Option, Some, None, option_map, option_and_then}
use Rattle.std.specs.Option.{option_map_or}
use Rattle.line_model.specs.declared.diagnostic.TheConstants.{CALL_ON_ONE_WAY_LOGICAL_CHANNEL, PACKET_TOO_SHORT, PACKET_TOO_LONG}
use Rattle.line_model.specs.declared.interface.Interface.{Interface}
use Rattle.line_model.specs.declared.packet.Class.{Class}
use Rattle.line_model.specs.declared.packet.Class.TheVariants.{Call, Accepted, Clear, Interrupt, InterruptConfirm, Reset, ResetConfirm, Data, Rr, Rnr}
use Rattle.line_model.specs.declared.state.Side.{Side}
use Rattle.line_model.specs.declared.state.Side.TheVariants.{T, N}
use Rattle.line_model.specs.basics.Choice.{first_fault}
use Rattle.line_model.specs.basics.Octets.{octet}
use Rattle.line_model.specs.basics.Records.{Item}
use Rattle.line_model.specs.packets.Classes.{header_length, packet_class}
use Rattle.line_model.specs.packets.Facilities.{CallFields, fields_of, call_fault, accepted_fault}
use Rattle.line_model.specs.channels.Channels.{Channel, is_against}

-- the fields of the packet that opened the call, and of the 0F packet
abbrev pub opening_fields : Channel → Option CallFields
opening_fields c = option_map (λ o. fields_of o.packet) c.opening

-- the fields of the 0F packet
abbrev pub accepting_fields : Channel → Option CallFields
accepting_fields c = option_map fields_of c.accepting

-- the first of two that is there
abbrev pub or_other : {A : Type 0} → Option A → Option A → Option A
or_other (Some x) o = Some x
or_other None o = o

-- a facility of the call: that of the 0F packet, otherwise that of the opening packet
abbrev pub in_force : {A : Type 0} → (CallFields → Option A) → Channel → Option A
in_force f c = or_other (option_and_then f (accepting_fields c)) (option_and_then f (opening_fields c))

-- the value for data from a side, of the pair (from the called DTE, from the calling DTE)
abbrev pub for_side : (out : Bool) → Side → ℕ × ℕ → ℕ
for_side true T v = v.1
for_side true N v = v.0
for_side false T v = v.0
for_side false N v = v.1

-- whether the call is outgoing
abbrev pub is_out : Channel → Bool
is_out c = option_map_or (λ o. o.out) c.opening false

-- the packet size and the window in force for data from a side (7.2.2.1)
abbrev pub size_in_force : Interface → Channel → Side → ℕ
size_in_force i c x = option_map_or (for_side (is_out c) x) (in_force (λ f. f.sizes) c) i.size

-- the window in force for data from a side (7.2.2.1)
abbrev pub window_in_force : Interface → Channel → Side → ℕ
window_in_force i c x = option_map_or (for_side (is_out c) x) (in_force (λ f. f.windows) c) i.window

-- whether the packet that opened the call asks fast select
abbrev pub was_fast : Channel → Bool
was_fast c = option_map_or (λ f. f.fast) (opening_fields c) false

-- whether the call is a PAD call: its user data begins with 01 (X.29 clause 3; profile)
abbrev pub is_pad_call : Channel → Bool
is_pad_call c = option_map_or (λ f. octet 1 f.data_of_user == 1) (opening_fields c) false

-- the first fault of the format of a packet of a class, with its length and the octets that say more, if any
abbrev pub format_fault : Interface → Channel → Side → Class → (length : ℕ) → List ℕ → Option ℕ
format_fault i c x Call n xs = call_fault i xs
format_fault i c x Accepted n xs = accepted_fault i (was_fast c) xs
format_fault i c x Clear n xs = first_fault ((nat_lt n 4, PACKET_TOO_SHORT) ∷ [])
format_fault i c x Reset n xs = first_fault ((nat_lt n 4, PACKET_TOO_SHORT) ∷ (nat_lt 5 n, PACKET_TOO_LONG) ∷ [])
format_fault i c x ResetConfirm n xs = first_fault ((nat_lt 3 n, PACKET_TOO_LONG) ∷ [])
format_fault i c x InterruptConfirm n xs = first_fault ((nat_lt 3 n, PACKET_TOO_LONG) ∷ [])
format_fault i c x Interrupt n xs = first_fault ((nat_lt n 4, PACKET_TOO_SHORT) ∷ (nat_lt 35 n, PACKET_TOO_LONG) ∷ [])
format_fault i c x Rr n xs = first_fault ((nat_lt n (header_length i), PACKET_TOO_SHORT) ∷ (nat_lt (header_length i) n, PACKET_TOO_LONG) ∷ [])
format_fault i c x Rnr n xs = first_fault ((nat_lt n (header_length i), PACKET_TOO_SHORT) ∷ (nat_lt (header_length i) n, PACKET_TOO_LONG) ∷ [])
format_fault i c x Data n xs =
    first_fault ((nat_lt n (header_length i), PACKET_TOO_SHORT)
    ∷ (nat_lt (header_length i + size_in_force i c x) n, PACKET_TOO_LONG) ∷ [])
format_fault i c x _ n xs = None

-- a call against the direction of its channel (profile)
abbrev pub direction_fault : Interface → (channel : ℕ) → Side → Class → Option ℕ
direction_fault i n x Call = first_fault ((is_against i x n, CALL_ON_ONE_WAY_LOGICAL_CHANNEL) ∷ [])
direction_fault i n x _ = None

-- the first fault of a packet on a channel
abbrev pub packet_fault : Interface → (channel : ℕ) → Channel → Item → Option ℕ
packet_fault i n c r =
    or_other (direction_fault i n r.side (packet_class r.packet)) (format_fault i c r.side (packet_class r.packet) r.length r.octets)
