-- Rows as they are read.
use Rattle.std.proofs.Common.{◌≡◌, ◌==◌, ℕ, Bool, true, false, refl, sym, ◌∙◌, ap, subst, List, [], ◌∷◌, length, Option, Some, None}
use Rattle.std.specs.Prelude.{nat_lt, if◌then◌else◌}
use Rattle.line_model.specs.declared.interface.Interface.{Interface}
use Rattle.line_model.specs.declared.packet.Class.{Class}
use Rattle.line_model.specs.declared.packet.Class.TheVariants.{Data, Rr, Rnr}
use Rattle.line_model.specs.declared.packet.Packet.{Packet}
use Rattle.line_model.specs.declared.packet.Packet as packet
use Rattle.line_model.specs.declared.packet.PacketKind as kind
use Rattle.line_model.specs.basics.Choice.{first_that}
use Rattle.line_model.specs.basics.Octets.{bits, channel_of, octet}
use Rattle.line_model.specs.basics.Records.{Item}
use Rattle.line_model.specs.packets.Classes.{class_of, header_length, packet_of, packet_with}
use Rattle.line_model.specs.packets.Says.{packet_or_gap}
use Rattle.gap_laws.specs.Thinned.{IsSaid}

-- a packet and its length: where the header of data, RR or RNR is cut, the packet is shorter than that header
abbrev pub is_read : Interface → Packet → (length : ℕ) → Bool
is_read i (packet.TheVariants.Channel k (kind.TheVariants.Data None)) n = nat_lt n (header_length i)
is_read i (packet.TheVariants.Channel k (kind.TheVariants.Rr None)) n = nat_lt n (header_length i)
is_read i (packet.TheVariants.Channel k (kind.TheVariants.Rnr None)) n = nat_lt n (header_length i)
is_read i (packet.TheVariants.Channel k kind.TheVariants.Gap) n = false
is_read i packet.TheVariants.GapOfAll n = false
is_read i p n = true

-- a header is cut only where the modulus is 128 and an octet is missing
header_by : {A : Type 0} (P : Option A → Type 0) (b c : Bool) (h k : A) → ((a : A) → P (Some a)) → (b ≡ false → c ≡ true → P None) → P (first_that ((b, Some h) ∷ (c, None) ∷ []) (Some k))
header_by P true c h k some none = some h
header_by P false true h k some none = none refl refl
header_by P false false h k some none = some k

packet_read : (i : Interface) (xs : List ℕ) (k : Class) → is_read i (packet_with i xs k) (length xs) ≡ true
packet_read i xs k = at k
  where
    cut : (i.modulus == 8) ≡ false → nat_lt (length xs) 4 ≡ true → nat_lt (length xs) (header_length i) ≡ true
    cut e d = ap (λ b. nat_lt (length xs) (if b then 3 else 4)) e ∙ d

    at : (k : Class) → is_read i (packet_with i xs k) (length xs) ≡ true
    at Data =
        header_by (λ o. is_read i (packet.TheVariants.Channel (channel_of xs) (kind.TheVariants.Data o)) (length xs) ≡ true) (i.modulus == 8) (nat_lt (length xs) 4)
        (record { send = bits 4 2 (octet 3 xs); receive = bits 8 6 (octet 3 xs); more = bits 5 5 (octet 3 xs) == 1; delivery = bits 7 7 (octet 1 xs) == 1; qualified = bits 8 8 (octet 1 xs) == 1 })
        (record { send = bits 8 2 (octet 3 xs); receive = bits 8 2 (octet 4 xs); more = bits 1 1 (octet 4 xs) == 1; delivery = bits 7 7 (octet 1 xs) == 1; qualified = bits 8 8 (octet 1 xs) == 1 })
        (λ h. refl) cut
    at Rr = header_by (λ o. is_read i (packet.TheVariants.Channel (channel_of xs) (kind.TheVariants.Rr o)) (length xs) ≡ true) (i.modulus == 8) (nat_lt (length xs) 4) (bits 8 6 (octet 3 xs)) (bits 8 2 (octet 4 xs)) (λ h. refl) cut
    at Rnr = header_by (λ o. is_read i (packet.TheVariants.Channel (channel_of xs) (kind.TheVariants.Rnr o)) (length xs) ≡ true) (i.modulus == 8) (nat_lt (length xs) 4) (bits 8 6 (octet 3 xs)) (bits 8 2 (octet 4 xs)) (λ h. refl) cut
    at k = refl

pub said_read : (i : Interface) (x : Item) → IsSaid i x → is_read i x.packet x.length ≡ true
said_read i x (r, none, is) =
    subst (λ (x : Item). is_read i x.packet x.length ≡ true) (sym is)
    (subst (λ g. is_read i (packet_or_gap g (packet_of i r.octets)) (length r.octets) ≡ true) (sym none) (packet_read i r.octets (class_of i r.octets)))
