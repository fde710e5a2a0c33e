-- The fields of call packets (X.25 clauses 5.2.1, 5.2.2, 6 and 7).
use Rattle.std.specs.Prelude.{ℕ, zero, suc, Bool, true, false, not, ◌&&◌, ◌||◌, ◌==◌, nat_lt, nat_le, ◌+◌, ◌/◌, ◌^◌, List, [], ◌∷◌, length, map, reverse, take, drop, find, take_while, Option, Some, None, option_map, unwrap_or, is_none, if◌then◌else◌}
use Rattle.std.specs.List.{list_any}
use Rattle.std.specs.Option.{option_map_or}
use Rattle.line_model.specs.declared.diagnostic.TheConstants.{PACKET_TOO_SHORT, PACKET_TOO_LONG, FACILITY_PARAMETER_NOT_ALLOWED, INVALID_CALLED_DTE_ADDRESS, INVALID_CALLING_DTE_ADDRESS, INVALID_FACILITY_OR_REGISTRATION_LENGTH}
use Rattle.line_model.specs.declared.interface.Interface.{Interface}
use Rattle.line_model.specs.basics.Octets.{octet, bits, half_octets}
use Rattle.line_model.specs.basics.Choice.{first_fault}

-- a facility: its code and its parameter octets (7.1)
pub record Facility : Type 0 where
  pub code : ℕ
  pub parameters : List ℕ

-- whether octet 1 has the A bit, under which no address block is read (5.2.1, profile)
abbrev pub has_a_bit : List ℕ → Bool
has_a_bit xs = bits 8 8 (octet 1 xs) == 1

-- the lengths of the two addresses, from octet 4 (5.2.1)
abbrev pub calling_length : List ℕ → ℕ
calling_length xs = bits 8 5 (octet 4 xs)

-- the length of the called address, in half octets (5.2.1)
abbrev pub called_length : List ℕ → ℕ
called_length xs = bits 4 1 (octet 4 xs)

-- the octets of the address block, its last half octet filled (5.2.1)
abbrev pub address_octets : List ℕ → ℕ
address_octets xs = (called_length xs + calling_length xs + 1) / 2

-- the called digits, then the calling digits, a half octet each (5.2.1)
abbrev pub called_digits : List ℕ → List ℕ
called_digits xs = half_octets 0 (called_length xs) (drop 4 xs)

-- the calling digits (5.2.1)
abbrev pub calling_digits : List ℕ → List ℕ
calling_digits xs = half_octets (called_length xs) (calling_length xs) (drop 4 xs)

-- what follows the address block: the facility length octet, the facilities and the user data
abbrev pub after_addresses : List ℕ → List ℕ
after_addresses xs = drop (4 + address_octets xs) xs

-- the facility length (5.2.2)
abbrev pub facility_length : List ℕ → ℕ
facility_length xs = octet 1 (after_addresses xs)

-- the octets of the facility field (5.2.2)
abbrev pub facility_octets : List ℕ → List ℕ
facility_octets xs = take (facility_length xs) (drop 1 (after_addresses xs))

-- the user data, after the facilities (5.2.2)
abbrev pub user_data : List ℕ → List ℕ
user_data xs = drop (1 + facility_length xs) (after_addresses xs)

-- the parameter octets of a facility and what comes before them, by bits 8 and 7 of its code (7.1)
abbrev pub parameters_from : ℕ → List ℕ → ℕ × ℕ
parameters_from code rest = if bits 8 7 code == 3 then (octet 1 rest, 1) else (bits 8 7 code + 1, 0)

-- how many octets a facility has after its code
abbrev pub octets_after : ℕ → List ℕ → ℕ
octets_after code rest = (parameters_from code rest).1 + (parameters_from code rest).0

-- the facilities, none where one is cut; `n` is at least the number of octets
abbrev pub facilities_of : ℕ → List ℕ → Option (List Facility)
facilities_of n [] = Some []
facilities_of zero (code ∷ rest) = None
facilities_of (suc n) (code ∷ rest) =
    let size = (parameters_from code rest).0 in
    let skip = (parameters_from code rest).1 in
    elim (nat_lt (length rest) (skip + size)) [
      | true ↦ None
      | false ↦ option_map (λ fs. record { code = code; parameters = take size (drop skip rest) } ∷ fs)
          (facilities_of n (drop (skip + size) rest))
    ]

-- the facilities of a call packet, none where one is cut (7.1)
abbrev pub facilities : List ℕ → Option (List Facility)
facilities xs = facilities_of (length (facility_octets xs)) (facility_octets xs)

-- the facilities that are read: those before a marker (profile)
abbrev pub read_facilities : List ℕ → List Facility
read_facilities xs = take_while (λ f. not (f.code == 0)) (unwrap_or (facilities xs) [])

-- the parameters of a facility; of two with one code the last counts (profile)
abbrev pub last_parameters : ℕ → List Facility → Option (List ℕ)
last_parameters code fs = option_map (λ f. f.parameters) (find (λ f. f.code == code) (reverse fs))

-- reverse charging and fast select (7.2.2.6, 7.2.2.7)
abbrev pub asks_reverse : List Facility → Bool
asks_reverse fs = option_map_or (λ ps. bits 1 1 (octet 1 ps) == 1) (last_parameters 1 fs) false

-- whether fast select is asked; its restriction on response is not read (7.2.2.6)
abbrev pub asks_fast : List Facility → Bool
asks_fast fs = option_map_or (λ ps. bits 8 8 (octet 1 ps) == 1) (last_parameters 1 fs) false

-- packet sizes and windows, for data from the called and from the calling DTE (7.2.2.1)
abbrev pub asked_sizes : List Facility → Option (ℕ × ℕ)
asked_sizes fs = option_map (λ ps. (2 ^ octet 1 ps, 2 ^ octet 2 ps)) (last_parameters 0x42 fs)

-- the windows that are asked (7.2.2.1)
abbrev pub asked_windows : List Facility → Option (ℕ × ℕ)
asked_windows fs = option_map (λ ps. (octet 1 ps, octet 2 ps)) (last_parameters 0x43 fs)

-- whether a facility names a size other than 16 to 4096 octets, or a window of 0 or not below the modulus
abbrev pub is_out_of_range : Interface → Facility → Bool
is_out_of_range i f =
    (f.code == 0x42 && list_any (λ n. nat_lt n 4 || nat_lt 12 n) f.parameters)
    || (f.code == 0x43 && list_any (λ n. n == 0 || nat_le i.modulus n) f.parameters)

-- how much user data a call packet may have (6.16)
abbrev pub user_data_limit : Bool → ℕ
user_data_limit fast = if fast then 128 else 16

-- the faults of a packet whose address block is read, first that holds (the order is profile);
-- `fast` says whether the packet that opened the call asked fast select
abbrev pub block_fault : Interface → (fast : Bool) → List ℕ → Option ℕ
block_fault i fast xs = first_fault
    ((nat_lt (length xs) (4 + address_octets xs), PACKET_TOO_SHORT)
    ∷ (list_any (λ d. nat_lt 9 d) (called_digits xs), INVALID_CALLED_DTE_ADDRESS)
    ∷ (list_any (λ d. nat_lt 9 d) (calling_digits xs), INVALID_CALLING_DTE_ADDRESS)
    ∷ (nat_lt 109 (facility_length xs), INVALID_FACILITY_OR_REGISTRATION_LENGTH)
    ∷ (nat_lt (length (after_addresses xs)) (1 + facility_length xs) && nat_lt 0 (length (after_addresses xs)), INVALID_FACILITY_OR_REGISTRATION_LENGTH)
    ∷ (is_none (facilities xs), INVALID_FACILITY_OR_REGISTRATION_LENGTH)
    ∷ (list_any (is_out_of_range i) (read_facilities xs), FACILITY_PARAMETER_NOT_ALLOWED)
    ∷ (nat_lt (user_data_limit (asks_fast (read_facilities xs) || fast)) (length (user_data xs)), PACKET_TOO_LONG) ∷ [])

-- the fault of a call request or incoming call
abbrev pub call_fault : Interface → List ℕ → Option ℕ
call_fault i xs = elim (has_a_bit xs) [
  | true ↦ None
  | false ↦ elim (nat_lt (length xs) 4 || nat_lt (length xs) (5 + address_octets xs)) [
    | true ↦ Some PACKET_TOO_SHORT
    | false ↦ block_fault i false xs
  ]
]

-- the fault of a call accepted or connected, which may end after octet 3, the addresses or the facilities (profile)
abbrev pub accepted_fault : Interface → (fast : Bool) → List ℕ → Option ℕ
accepted_fault i fast xs = elim (has_a_bit xs || nat_le (length xs) 3) [ true ↦ None | false ↦ block_fault i fast xs ]

-- the fields of a call packet without fault
pub record CallFields : Type 0 where
  pub called : List ℕ
  pub calling : List ℕ
  pub reverse_charging : Bool
  pub fast : Bool
  pub sizes : Option (ℕ × ℕ)
  pub windows : Option (ℕ × ℕ)
  pub data_of_user : List ℕ

-- the digits as ASCII
abbrev pub ascii_digits : List ℕ → List ℕ
ascii_digits ds = map (λ d. 48 + d) ds

-- the fields of a packet whose A bit is 1 (profile)
abbrev pub no_fields : CallFields
no_fields = record { called = []; calling = []; reverse_charging = false; fast = false; sizes = None; windows = None; data_of_user = [] }

-- the fields that octets hold
abbrev pub fields_of : List ℕ → CallFields
fields_of xs = elim (has_a_bit xs) [
  | true ↦ no_fields
  | false ↦ record {
    called = ascii_digits (called_digits xs);
    calling = ascii_digits (calling_digits xs);
    reverse_charging = asks_reverse (read_facilities xs);
    fast = asks_fast (read_facilities xs);
    sizes = asked_sizes (read_facilities xs);
    windows = asked_windows (read_facilities xs);
    data_of_user = user_data xs;
  }
]
