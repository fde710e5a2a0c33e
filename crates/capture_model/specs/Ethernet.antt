-- What an Ethernet type carries.
use Rattle.std.specs.Prelude.{ℕ, ◌+◌, ◌-◌, ◌*◌, ◌==◌, ◌||◌, nat_lt, Bool, false, List, ◌∷◌, drop, take, if◌then◌else◌}
use Rattle.capture_model.specs.Views.{Payload, Carried, Internet, Lapb, Device, Other, Cut}

abbrev pub two_octets : (high low : ℕ) → ℕ
two_octets high low = high * 256 + low

-- what comes after some octets
abbrev pub after : ℕ → Payload → Payload
after n p = record { octets = drop n p.octets; length = p.length - n }

-- the protocols of VLAN tags (IEEE 802.1Q)
abbrev pub is_tag : ℕ → Bool
is_tag n = n == 0x8100 || (n == 0x88A8 || n == 0x9100)

-- octets begin with a whole tag: its type and its control information
abbrev pub is_tagged : List ℕ → Bool
is_tagged (a ∷ b ∷ c ∷ d ∷ xs) = is_tag (two_octets a b)
is_tagged xs = false

-- what comes after tags of four octets
abbrev pub untagged : List ℕ → (length : ℕ) → Payload
untagged (a ∷ b ∷ c ∷ d ∷ xs) n = if is_tag (two_octets a b) then untagged xs (n - 4) else record { octets = a ∷ b ∷ c ∷ d ∷ xs; length = n }
untagged xs n = record { octets = xs; length = n }

-- LAPB after its length, the low octet first
abbrev pub with_length : (length : ℕ) → (octets : List ℕ) → (room : ℕ) → Carried
with_length n xs room = if nat_lt room n then Other else Lapb (record { octets = take n xs; length = n })

abbrev pub lapb_of : List ℕ → (length : ℕ) → Carried
lapb_of (low ∷ high ∷ xs) n = with_length (two_octets high low) xs (n - 2)
lapb_of xs n = Cut

abbrev pub lapb_over_ethernet : Payload → Carried
lapb_over_ethernet p = lapb_of p.octets p.length

abbrev pub by_protocol : ℕ → Payload → Carried
by_protocol n p = if n == 0x0800 || n == 0x86DD then Internet p
    else if n == 0x0805 then Device p
    else if n == 0x0019 then Lapb p
    else if n == 0x6000 then lapb_over_ethernet p
    else if is_tag n then Cut
    else Other

-- an Ethernet type, perhaps after tags
abbrev pub by_type_of : List ℕ → (length : ℕ) → Carried
by_type_of (a ∷ b ∷ xs) n = by_protocol (two_octets a b) (record { octets = xs; length = n - 2 })
by_type_of xs n = Cut

abbrev pub by_type : Payload → Carried
by_type p = let q = untagged p.octets p.length in by_type_of q.octets q.length

-- the protocol of a cooked header
abbrev pub by_cooked : ℕ → Payload → Carried
by_cooked n p = if is_tag n then by_type (after 2 p) else by_protocol n p
