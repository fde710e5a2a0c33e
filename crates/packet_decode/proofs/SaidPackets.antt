-- What a row says of its octets: data and call packets, and where the header of data ends.
use Rattle.std.proofs.lemmas.Bool.{ltb-false, eqb-false}
use Rattle.std.proofs.Common.{◌≡◌, ◌≢◌, ◌≤◌, ◌==◌, ◌&&◌, ◌%◌, ◌/◌, ◌^◌, ◌∙◌, nat_lt, ℕ, Bool, true, false, refl, sym, ap, subst, arith, List, [], ◌∷◌, length, cond, Option, Some, None}
use Rattle.std.specs.Prelude.{if◌then◌else◌, not, unwrap_or}
use Rattle.line_model.specs.basics.Bounds.{IsSaid}
use Rattle.line_model.specs.basics.Choice.{first_that, value_at}
use Rattle.line_model.specs.basics.Records.{Item}
use Rattle.line_model.specs.declared.interface.Interface.{Interface}
use Rattle.line_model.specs.declared.packet.DataHeader.{DataHeader}
use Rattle.line_model.specs.declared.packet.Class.{Class}
use Rattle.line_model.specs.declared.packet.Class.TheVariants.{Call, Accepted, Short, WrongFormat, Unassigned, Restart, RestartConfirm, Diagnostic, Registration, RestartHere, TwoOctets, Clear, ClearConfirm, Interrupt, InterruptConfirm, Reset, ResetConfirm, Data, Rr, Rnr, Rej, Undefined}
use Rattle.line_model.specs.packets.Classes.{channel_type, class_of, flow_type, format_of, header_length, line_type, packet_class, packet_of, packet_with, supervisory, type_class}
use Rattle.line_model.specs.packets.Says.{header_in, is_unqualified, packet_or_gap, said_octets}
use Rattle.line_model.specs.basics.Octets.{octet, bits, channel_of}
use Rattle.line_model.proofs.PacketClass.{class_is}
use Rattle.packet_decode.specs.SaidData.{IsSaidData}

-- no class of a list is k
abbrev NoneIs : Class → List (ℕ × Class) → Type 0
NoneIs k [] = Unit {0}
NoneIs k (e ∷ es) = (e.1 ≢ k) × NoneIs k es

unlisted : (k : Class) (es : List (ℕ × Class)) (t : ℕ) (r : Class) → NoneIs k es → r ≢ k → unwrap_or (value_at es t) r ≢ k
unlisted k [] t r none other = other
unlisted k (e ∷ es) t r none other = by (e.0 == t) (unlisted k es t r none.1 other)
  where
    by : (b : Bool) → unwrap_or (value_at es t) r ≢ k → unwrap_or (elim b [ true ↦ Some e.1 | false ↦ value_at es t ]) r ≢ k
    by true more = none.0
    by false more = more

abbrev line_types : List (ℕ × Class)
line_types = (0xfb, Restart) ∷ (0xff, RestartConfirm) ∷ (0xf1, Diagnostic) ∷ (0xf3, Registration) ∷ (0xf7, Registration) ∷ []

abbrev channel_types : List (ℕ × Class)
channel_types = (0x0b, Call) ∷ (0x0f, Accepted) ∷ (0x13, Clear) ∷ (0x17, ClearConfirm)
    ∷ (0x23, Interrupt) ∷ (0x27, InterruptConfirm) ∷ (0x1b, Reset) ∷ (0x1f, ResetConfirm)
    ∷ (0xfb, RestartHere) ∷ (0xff, RestartHere) ∷ []

abbrev flow_types : List (ℕ × Class)
flow_types = (0x01, Rr) ∷ (0x05, Rnr) ∷ (0x09, Rej) ∷ []

-- a class that a packet has by its third octet alone
record IsTyped (k : Class) : Type 0 where
  short : Short ≢ k
  wrong : WrongFormat ≢ k
  unassigned : Unassigned ≢ k
  two : TwoOctets ≢ k
  undefined : Undefined ≢ k
  line : NoneIs k line_types

typed_data : IsTyped Data
typed_data = record { short = λ h. cc; wrong = λ h. cc; unassigned = λ h. cc; two = λ h. cc; undefined = λ h. cc; line = ((λ h. cc), ((λ h. cc), ((λ h. cc), ((λ h. cc), ((λ h. cc), tt))))) }

typed_call : IsTyped Call
typed_call = record { short = λ h. cc; wrong = λ h. cc; unassigned = λ h. cc; two = λ h. cc; undefined = λ h. cc; line = ((λ h. cc), ((λ h. cc), ((λ h. cc), ((λ h. cc), ((λ h. cc), tt))))) }

typed_accepted : IsTyped Accepted
typed_accepted = record { short = λ h. cc; wrong = λ h. cc; unassigned = λ h. cc; two = λ h. cc; undefined = λ h. cc; line = ((λ h. cc), ((λ h. cc), ((λ h. cc), ((λ h. cc), ((λ h. cc), tt))))) }

by_third : (short wrong apart line two : Bool) (l m k : Class) → IsTyped k → l ≢ k →
    first_that ((short, Short) ∷ (wrong, WrongFormat) ∷ (apart, Unassigned) ∷ (line, if two then Unassigned else l) ∷ []) (if two then TwoOctets else m) ≡ k →
    (short ≡ false) × (two ≡ false) × (m ≡ k)
by_third true wrong apart line two l m k typed none e = absurd (typed.short e)
by_third false true apart line two l m k typed none e = absurd (typed.wrong e)
by_third false false true line two l m k typed none e = absurd (typed.unassigned e)
by_third false false false true true l m k typed none e = absurd (typed.unassigned e)
by_third false false false true false l m k typed none e = absurd (none e)
by_third false false false false true l m k typed none e = absurd (typed.two e)
by_third false false false false false l m k typed none e = (refl, refl, e)

three_octets : (n : ℕ) → nat_lt n 2 ≡ false → (n == 2) ≡ false → 3 ≤ n
three_octets n few two =
    let some : 2 ≤ n = ltb-false n 2 few in
    let more : n ≢ 2 = eqb-false n 2 two in
    omega arith

type_is : (i : Interface) (xs : List ℕ) (k : Class) → IsTyped k → class_of i xs ≡ k → (3 ≤ length xs) × (type_class i (octet 3 xs) ≡ k)
type_is i xs k typed e =
    let (few, two, is) = by_third (nat_lt (length xs) 2) (not (bits 6 5 (octet 1 xs) == format_of i)) (nat_lt i.svc (channel_of xs)) (channel_of xs == 0) (length xs == 2)
    (unwrap_or (line_type (octet 3 xs)) Unassigned) (type_class i (octet 3 xs)) k typed (unlisted k line_types (octet 3 xs) Unassigned typed.line typed.unassigned) e in
    (three_octets (length xs) few two, is)

-- bit 1 of the third octet says whether it is data
data_bit : (i : Interface) (t : ℕ) → type_class i t ≡ Data → (bits 1 1 t == 0) ≡ true
data_bit i t e = by (bits 1 1 t == 0) e
  where
    other : unwrap_or (channel_type t) (unwrap_or (flow_type (supervisory i t)) Undefined) ≢ Data
    other =
        unlisted Data channel_types t (unwrap_or (flow_type (supervisory i t)) Undefined)
        ((λ h. cc), ((λ h. cc), ((λ h. cc), ((λ h. cc), ((λ h. cc), ((λ h. cc), ((λ h. cc), ((λ h. cc), ((λ h. cc), ((λ h. cc), tt))))))))))
        (unlisted Data flow_types (supervisory i t) Undefined ((λ h. cc), ((λ h. cc), ((λ h. cc), tt))) (λ h. cc))

    by : (b : Bool) → (if b then Data else unwrap_or (channel_type t) (unwrap_or (flow_type (supervisory i t)) Undefined)) ≡ Data → b ≡ true
    by true h = refl
    by false h = absurd (other h)

other_bit : (i : Interface) (t : ℕ) (k : Class) → Data ≢ k → type_class i t ≡ k → (bits 1 1 t == 0) ≡ false
other_bit i t k apart e = by (bits 1 1 t == 0) e
  where
    by : (b : Bool) → (if b then Data else unwrap_or (channel_type t) (unwrap_or (flow_type (supervisory i t)) Undefined)) ≡ k → b ≡ false
    by true h = absurd (apart h)
    by false h = refl

-- what has such a class is no gap
packet_said : (i : Interface) (item : Item) (k : Class) → IsTyped k → (said : IsSaid i item) → packet_class item.packet ≡ k → item.packet ≡ packet_of i said.row.octets
packet_said i item k typed said is = says ∙ at said.row.gap (ap packet_class (sym says) ∙ is)
  where
    says : item.packet ≡ packet_or_gap said.row.gap (packet_of i said.row.octets)
    says = ap (λ j. j.packet) said.says

    at : (gap : Option (Option ℕ)) → packet_class (packet_or_gap gap (packet_of i said.row.octets)) ≡ k → packet_or_gap gap (packet_of i said.row.octets) ≡ packet_of i said.row.octets
    at None e = refl
    at (Some None) e = absurd (typed.unassigned e)
    at (Some (Some c)) e = absurd (typed.undefined e)

-- ---- call packets

whole_octets : (i : Interface) (item : Item) (k : Class) → IsTyped k → Data ≢ k → IsSaid i item → packet_class item.packet ≡ k → class_of i item.octets ≡ k
whole_octets i item k typed apart said is =
    let xs : List ℕ = said.row.octets in
    let class : class_of i xs ≡ k = class_is i xs item.packet (packet_said i item k typed said is) ∙ is in
    let loud : is_unqualified xs ≡ false = ap (λ b. b && (bits 8 8 (octet 1 xs) == 0)) (other_bit i (octet 3 xs) k apart (type_is i xs k typed class).1) in
    ap (class_of i) (ap (λ j. j.octets) said.says ∙ ap (λ b. cond b [] xs) loud) ∙ class

-- a call request or incoming call has its octets
pub call_said : (i : Interface) (item : Item) → IsSaid i item → packet_class item.packet ≡ Call → class_of i item.octets ≡ Call
call_said i item said is = whole_octets i item Call typed_call (λ h. cc) said is

-- a call accepted or connected has its octets
pub accepted_said : (i : Interface) (item : Item) → IsSaid i item → packet_class item.packet ≡ Accepted → class_of i item.octets ≡ Accepted
accepted_said i item said is = whole_octets i item Accepted typed_accepted (λ h. cc) said is

-- ---- data packets

header_at : (eight short : Bool) (x y z : DataHeader) (n : ℕ) (q : Bool) → 3 ≤ n → (short ≡ false → 4 ≤ n) → x.qualified ≡ q → y.qualified ≡ q →
    first_that ((eight, Some x) ∷ (short, None) ∷ []) (Some y) ≡ Some z → ((if eight then 3 else 4) ≤ n) × (z.qualified ≡ q)
header_at true short x y z n q three more same_x same_y e = let is : x ≡ z = cc in (three, ap (λ h. h.qualified) (sym is) ∙ same_x)
header_at false true x y z n q three more same_x same_y e = cc
header_at false false x y z n q three more same_x same_y e = let is : y ≡ z = cc in (more refl, ap (λ h. h.qualified) (sym is) ∙ same_y)

-- the Q bit as it is tested for each of its values
clear_bit : (m : ℕ) (q : Bool) → q ≡ (m % 2 == 1) → q ≡ false → (m % 2 == 0) ≡ true
clear_bit m q is e = let zero : (m % 2 == 1) ≡ false = sym is ∙ e in grind (arith, zero)

set_bit : (m : ℕ) (q : Bool) → q ≡ (m % 2 == 1) → q ≡ true → (m % 2 == 0) ≡ false
set_bit m q is e = let one : (m % 2 == 1) ≡ true = sym is ∙ e in grind (arith, one)

last_false : (a b : Bool) → b ≡ false → (a && b) ≡ false
last_false true b e = e
last_false false b e = refl

pub data_said : (i : Interface) (item : Item) (h : DataHeader) → IsSaid i item → packet_class item.packet ≡ Data → header_in item.packet ≡ Some h → IsSaidData i item h
data_said i item h said is header =
    let xs : List ℕ = said.row.octets in
    let packet : item.packet ≡ packet_of i xs = packet_said i item Data typed_data said is in
    let class : class_of i xs ≡ Data = class_is i xs item.packet packet ∙ is in
    let (three, type) = type_is i xs Data typed_data class in
    let (whole, q) = header_at (i.modulus == 8) (nat_lt (length xs) 4) _ _ h (length xs) (bits 8 8 (octet 1 xs) == 1) three (ltb-false (length xs) 4) refl refl
    (sym (ap header_in (packet ∙ ap (packet_with i xs) class)) ∙ header) in
    let long : item.length ≡ length xs = ap (λ j. j.length) said.says in
    let octets : item.octets ≡ said_octets xs = ap (λ j. j.octets) said.says in
    record {
      whole = subst (λ n. header_length i ≤ n) (sym long) whole;
      silent = λ e. octets ∙ ap (λ b. cond b [] xs) ((λ j. data_bit i (octet 3 xs) type j && clear_bit (octet 1 xs / 2 ^ 7) h.qualified q e j));
      full = λ e. ap (λ l. length l) (octets ∙ ap (λ b. cond b [] xs) (last_false (bits 1 1 (octet 3 xs) == 0) (bits 8 8 (octet 1 xs) == 0) (set_bit (octet 1 xs / 2 ^ 7) h.qualified q e))) ∙ sym long;
    }
