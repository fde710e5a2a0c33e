-- The address block of call packets.
use Rattle.std.specs.Prelude.{ℕ, ◌≡◌, ◌+◌, nat_lt, List, [], ◌∷◌, length, Option}
use Rattle.std.specs.List.{list_any}
use Rattle.line_model.specs.declared.diagnostic.TheConstants.{PACKET_TOO_SHORT, INVALID_CALLED_DTE_ADDRESS, INVALID_CALLING_DTE_ADDRESS}
use Rattle.line_model.specs.basics.Choice.{first_fault}
use Rattle.line_model.specs.packets.Facilities.{address_octets, called_digits, calling_digits, after_addresses, ascii_digits}
use Rattle.packet_decode.specs.declared.fields.Addresses.{Addresses}

-- the faults of the addresses
abbrev pub address_fault : List ℕ → Option ℕ
address_fault xs = first_fault
    ((nat_lt (length xs) (4 + address_octets xs), PACKET_TOO_SHORT)
    ∷ (list_any (λ d. nat_lt 9 d) (called_digits xs), INVALID_CALLED_DTE_ADDRESS)
    ∷ (list_any (λ d. nat_lt 9 d) (calling_digits xs), INVALID_CALLING_DTE_ADDRESS) ∷ [])

-- the addresses that octets hold, and what follows them
pub record AreAddresses (a : Addresses) (xs : List ℕ) : Type 0 where
  pub called : a.called ≡ ascii_digits (called_digits xs)
  pub calling : a.calling ≡ ascii_digits (calling_digits xs)
  pub after : a.after.now ≡ after_addresses xs
