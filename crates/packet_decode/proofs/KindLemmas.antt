-- What a packet on an assigned channel is, whatever its type.
use Rattle.std.proofs.Common.{◌≡◌, ℕ, Bool, true, false, true≢false, refl, List, [], ◌∷◌, length}
use Rattle.std.specs.Prelude.{◌==◌, Option, Some, unwrap_or, if◌then◌else◌}
use Rattle.line_model.specs.declared.interface.Interface.{Interface}
use Rattle.line_model.specs.declared.packet.Class.{Class}
use Rattle.line_model.specs.declared.packet.Class.TheVariants.{Short, WrongFormat, Unassigned, Call, Accepted, TwoOctets, RestartHere, Clear, ClearConfirm, Interrupt, InterruptConfirm, Reset, ResetConfirm, Data, Rr, Rnr, Rej, Undefined}
use Rattle.line_model.specs.declared.packet.Packet.TheVariants.{Channel}
use Rattle.line_model.specs.basics.Octets.{octet, bits, channel_of}
use Rattle.line_model.specs.basics.Choice.{first_that, value_at}
use Rattle.line_model.specs.packets.Classes.{channel_class, channel_type, flow_type, kind_of, packet_with, supervisory, type_class}

-- a packet of the class is one on a channel
abbrev IsOn : Interface → List ℕ → Class → Type 0
IsOn i xs k = Channel (channel_of xs) (kind_of i xs k) ≡ packet_with i xs k

-- each class of a list is
abbrev AllOn : Interface → List ℕ → List (ℕ × Class) → Type 0
AllOn i xs [] = Unit {0}
AllOn i xs (e ∷ es) = IsOn i xs e.1 × AllOn i xs es

either_on : (i : Interface) (xs : List ℕ) (b : Bool) (k : Class) (o : Option Class) (r : Class) → IsOn i xs k → IsOn i xs (unwrap_or o r) → IsOn i xs (unwrap_or (elim b [ true ↦ Some k | false ↦ o ]) r)
either_on i xs true k o r own more = own
either_on i xs false k o r own more = more

listed : (i : Interface) (xs : List ℕ) (es : List (ℕ × Class)) (t : ℕ) (r : Class) → AllOn i xs es → IsOn i xs r → IsOn i xs (unwrap_or (value_at es t) r)
listed i xs [] t r all last = last
listed i xs (e ∷ es) t r all last = either_on i xs (e.0 == t) e.1 (value_at es t) r all.0 (listed i xs es t r all.1 last)

two_on : (i : Interface) (xs : List ℕ) (b : Bool) (j k : Class) → IsOn i xs j → IsOn i xs k → IsOn i xs (if b then j else k)
two_on i xs true j k first second = first
two_on i xs false j k first second = second

flow_on : (i : Interface) (xs : List ℕ) (t : ℕ) → IsOn i xs (unwrap_or (flow_type (supervisory i t)) Undefined)
flow_on i xs t = listed i xs ((0x01, Rr) ∷ (0x05, Rnr) ∷ (0x09, Rej) ∷ []) (supervisory i t) Undefined (refl, (refl, (refl, tt))) refl

type_on : (i : Interface) (xs : List ℕ) (t : ℕ) → IsOn i xs (type_class i t)
type_on i xs t =
    two_on i xs (bits 1 1 t == 0) Data (unwrap_or (channel_type t) (unwrap_or (flow_type (supervisory i t)) Undefined)) refl
    (listed i xs
    ((0x0b, Call) ∷ (0x0f, Accepted) ∷ (0x13, Clear) ∷ (0x17, ClearConfirm)
    ∷ (0x23, Interrupt) ∷ (0x27, InterruptConfirm) ∷ (0x1b, Reset) ∷ (0x1f, ResetConfirm)
    ∷ (0xfb, RestartHere) ∷ (0xff, RestartHere) ∷ []) t (unwrap_or (flow_type (supervisory i t)) Undefined)
    (refl, (refl, (refl, (refl, (refl, (refl, (refl, (refl, (refl, (refl, tt)))))))))) (flow_on i xs t))

-- on an assigned channel each packet is of a kind there
pub on_channel : (i : Interface) (xs : List ℕ) → IsOn i xs (channel_class i xs)
on_channel i xs = two_on i xs (length xs == 2) TwoOctets (type_class i (octet 3 xs)) refl (type_on i xs (octet 3 xs))

-- the last case of a class
pub past_all : (short wrong apart line : Bool) (l k : Class) → short ≡ false → wrong ≡ false → apart ≡ false → line ≡ false →
    first_that ((short, Short) ∷ (wrong, WrongFormat) ∷ (apart, Unassigned) ∷ (line, l) ∷ []) k ≡ k
past_all false false false false l k s w a n = refl
past_all true wrong apart line l k s w a n = absurd (true≢false s)
past_all false true apart line l k s w a n = absurd (true≢false w)
past_all false false true line l k s w a n = absurd (true≢false a)
past_all false false false true l k s w a n = absurd (true≢false n)
