-- The faults of call packets by their parts.
use Rattle.std.specs.Prelude.{ℕ, Bool, ◌+◌, ◌&&◌, ◌||◌, nat_lt, List, [], ◌∷◌, length, take, drop, Option, is_none}
use Rattle.std.specs.List.{list_any}
use Rattle.line_model.specs.declared.diagnostic.TheConstants.{PACKET_TOO_LONG, FACILITY_PARAMETER_NOT_ALLOWED, INVALID_FACILITY_OR_REGISTRATION_LENGTH}
use Rattle.line_model.specs.declared.interface.Interface.{Interface}
use Rattle.line_model.specs.declared.packet.Class.{Class}
use Rattle.line_model.specs.declared.packet.Class.TheVariants.{Call, Accepted}
use Rattle.line_model.specs.basics.Choice.{first_fault}
use Rattle.line_model.specs.basics.Octets.{octet}
use Rattle.line_model.specs.packets.Facilities.{facilities_of, is_out_of_range, asks_fast, user_data_limit, call_fault, accepted_fault}
use Rattle.line_model.specs.packets.Classes.{class_of}
use Rattle.packet_decode.specs.Reading.{read_of}

-- the facilities in what follows the addresses (X.25 clause 5.2.1)
abbrev pub facility_field : List ℕ → List ℕ
facility_field ys = take (octet 1 ys) (drop 1 ys)

-- whether the facilities are too long, or longer than the packet (X.25 clause 5.2.1)
abbrev pub is_field_cut : List ℕ → Bool
is_field_cut ys = nat_lt 109 (octet 1 ys) || (nat_lt (length ys) (1 + octet 1 ys) && nat_lt 0 (length ys))

-- the faults of what follows the addresses (X.25 clause 6; the order is profile)
abbrev pub tail_fault : Interface → (fast : Bool) → List ℕ → Option ℕ
tail_fault i fast ys = first_fault
    ((nat_lt 109 (octet 1 ys), INVALID_FACILITY_OR_REGISTRATION_LENGTH)
    ∷ (nat_lt (length ys) (1 + octet 1 ys) && nat_lt 0 (length ys), INVALID_FACILITY_OR_REGISTRATION_LENGTH)
    ∷ (is_none (facilities_of (length (facility_field ys)) (facility_field ys)), INVALID_FACILITY_OR_REGISTRATION_LENGTH)
    ∷ (list_any (is_out_of_range i) (read_of (facility_field ys)), FACILITY_PARAMETER_NOT_ALLOWED)
    ∷ (nat_lt (user_data_limit (asks_fast (read_of (facility_field ys)) || fast)) (length (drop (1 + octet 1 ys) ys)), PACKET_TOO_LONG) ∷ [])

-- a call request, incoming call, call accepted or call connected (X.25 clauses 5.2.1 and 5.2.2)
abbrev pub IsCallPacket : Class → Type 0
IsCallPacket Call = Unit {0}
IsCallPacket Accepted = Unit {0}
IsCallPacket _ = ⊥

-- the first fault of a call packet by its class; `fast` says whether the packet that opened the call asked fast select
abbrev pub fault_by_class : Interface → (fast : Bool) → Class → List ℕ → Option ℕ
fault_by_class i fast Call xs = call_fault i xs
fault_by_class i fast k xs = accepted_fault i fast xs

-- the first fault of a call packet, if any
abbrev pub call_packet_fault : Interface → (fast : Bool) → List ℕ → Option ℕ
call_packet_fault i fast xs = fault_by_class i fast (class_of i xs) xs
