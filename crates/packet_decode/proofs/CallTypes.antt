-- The type octets of call packets.
use Rattle.std.proofs.Common.{◌≡◌, ◌≤◌, ◌⊎◌, ℕ, Bool, true, false, refl, arith, ◌∙◌, List, [], ◌∷◌, length, inl, inr}
use Rattle.std.specs.Prelude.{◌==◌, Option, Some, unwrap_or, if◌then◌else◌, nat_lt, not}
use Rattle.line_model.specs.declared.interface.Interface.{Interface}
use Rattle.line_model.specs.declared.packet.Class.{Class}
use Rattle.line_model.specs.declared.packet.Class.TheVariants.{Call, Accepted, Short, WrongFormat, Unassigned, TwoOctets, RestartHere, Clear, ClearConfirm, Interrupt, InterruptConfirm, Reset, ResetConfirm, Data, Rr, Rnr, Rej, Undefined, Restart, RestartConfirm, Diagnostic, Registration}
use Rattle.line_model.specs.basics.Octets.{octet, bits, channel_of}
use Rattle.line_model.specs.basics.Choice.{value_at, first_that}
use Rattle.line_model.specs.packets.Classes.{class_of, line_class, line_type, channel_class, type_class, channel_type, flow_type, supervisory, format_of}
use Rattle.packet_decode.specs.CallFaults.{IsCallPacket}

-- a call packet has three octets, and its type says which it is
pub record CallTypes (i : Interface) (xs : List ℕ) : Type 0 where
  pub whole : 3 ≤ length xs
  pub which : ((octet 3 xs ≡ 0x0b) × (class_of i xs ≡ Call)) ⊎ (((octet 3 xs == 0x0b) ≡ false) × (class_of i xs ≡ Accepted))

-- no class of a list is that of a call packet
abbrev HasNone : List (ℕ × Class) → Type 0
HasNone [] = Unit {0}
HasNone (e ∷ es) = (IsCallPacket e.1 → ⊥) × HasNone es

either_way : (b : Bool) (k : Class) (o : Option Class) (r : Class) → (IsCallPacket k → ⊥) →
    (IsCallPacket (unwrap_or o r) → IsCallPacket r) → IsCallPacket (unwrap_or (elim b [ true ↦ Some k | false ↦ o ]) r) → IsCallPacket r
either_way true k o r none more h = absurd (none h)
either_way false k o r none more h = more h

not_listed : (es : List (ℕ × Class)) (t : ℕ) (r : Class) → HasNone es → IsCallPacket (unwrap_or (value_at es t) r) → IsCallPacket r
not_listed [] t r none h = h
not_listed (e ∷ es) t r none h = either_way (e.0 == t) e.1 (value_at es t) r none.0 (not_listed es t r none.1) h

abbrev line_types : List (ℕ × Class)
line_types = (0xfb, Restart) ∷ (0xff, RestartConfirm) ∷ (0xf1, Diagnostic) ∷ (0xf3, Registration) ∷ (0xf7, Registration) ∷ []

-- no packet on channel 0 is one
no_line : (xs : List ℕ) → IsCallPacket (line_class xs) → ⊥
no_line xs h = line_by (length xs == 2) h
  where
    line_by : (b : Bool) → IsCallPacket (if b then Unassigned else unwrap_or (line_type (octet 3 xs)) Unassigned) → ⊥
    line_by true h = h
    line_by false h = not_listed line_types (octet 3 xs) Unassigned ((λ n. n), ((λ n. n), ((λ n. n), ((λ n. n), ((λ n. n), tt))))) h

-- the last case of a class
last_class : (a b c d : Bool) (l k : Class) → (IsCallPacket l → ⊥) →
    IsCallPacket (first_that ((a, Short) ∷ (b, WrongFormat) ∷ (c, Unassigned) ∷ (d, l) ∷ []) k) →
    IsCallPacket k × (first_that ((a, Short) ∷ (b, WrongFormat) ∷ (c, Unassigned) ∷ (d, l) ∷ []) k ≡ k)
last_class true b c d l k none h = absurd h
last_class false true c d l k none h = absurd h
last_class false false true d l k none h = absurd h
last_class false false false true l k none h = absurd (none h)
last_class false false false false l k none h = (h, refl)

first_not : (b : Bool) (cs : List (Bool × Class)) (k : Class) → IsCallPacket (first_that ((b, Short) ∷ cs) k) → b ≡ false
first_not true cs k h = absurd h
first_not false cs k h = refl

other_class : (b : Bool) (j k : Class) → (IsCallPacket j → ⊥) → IsCallPacket (if b then j else k) → (b ≡ false) × IsCallPacket k × ((if b then j else k) ≡ k)
other_class true j k none h = absurd (none h)
other_class false j k none h = (refl, h, refl)

-- one of the two
one_of : (b c : Bool) (o : Option Class) (r : Class) → (IsCallPacket (unwrap_or o r) → ⊥) →
    IsCallPacket (unwrap_or (elim b [ true ↦ Some Call | false ↦ elim c [ true ↦ Some Accepted | false ↦ o ] ]) r) →
    ((b ≡ true) × (unwrap_or (elim b [ true ↦ Some Call | false ↦ elim c [ true ↦ Some Accepted | false ↦ o ] ]) r ≡ Call))
    ⊎ ((b ≡ false) × (unwrap_or (elim b [ true ↦ Some Call | false ↦ elim c [ true ↦ Some Accepted | false ↦ o ] ]) r ≡ Accepted))
one_of true c o r none h = inl (refl, refl)
one_of false true o r none h = inr (refl, refl)
one_of false false o r none h = absurd (none h)

abbrev others : List (ℕ × Class)
others = (0x13, Clear) ∷ (0x17, ClearConfirm) ∷ (0x23, Interrupt) ∷ (0x27, InterruptConfirm) ∷ (0x1b, Reset) ∷ (0x1f, ResetConfirm)
    ∷ (0xfb, RestartHere) ∷ (0xff, RestartHere) ∷ []

abbrev flows : List (ℕ × Class)
flows = (0x01, Rr) ∷ (0x05, Rnr) ∷ (0x09, Rej) ∷ []

no_flow : (s : ℕ) → IsCallPacket (unwrap_or (flow_type s) Undefined) → ⊥
no_flow s h = not_listed flows s Undefined ((λ n. n), ((λ n. n), ((λ n. n), tt))) h

no_other : (i : Interface) (t : ℕ) → IsCallPacket (unwrap_or (value_at others t) (unwrap_or (flow_type (supervisory i t)) Undefined)) → ⊥
no_other i t h = no_flow (supervisory i t) (not_listed others t (unwrap_or (flow_type (supervisory i t)) Undefined)
    ((λ n. n), ((λ n. n), ((λ n. n), ((λ n. n), ((λ n. n), ((λ n. n), ((λ n. n), ((λ n. n), tt)))))))) h)

three : (n : ℕ) → nat_lt n 2 ≡ false → (n == 2) ≡ false → 3 ≤ n
three n h k = grind (arith, h, k)

is_eleven : (t : ℕ) → (0x0b == t) ≡ true → t ≡ 0x0b
is_eleven t h = grind (arith, h)

not_eleven : (t : ℕ) → (0x0b == t) ≡ false → (t == 0x0b) ≡ false
not_eleven t h = grind (arith, h)

pub call_types : (i : Interface) (xs : List ℕ) → IsCallPacket (class_of i xs) → CallTypes i xs
call_types i xs h =
    let t : ℕ = octet 3 xs in
    let r : Class = unwrap_or (flow_type (supervisory i t)) Undefined in
    let last = last_class (nat_lt (length xs) 2) (not (bits 6 5 (octet 1 xs) == format_of i)) (nat_lt i.svc (channel_of xs)) (channel_of xs == 0)
    (line_class xs) (channel_class i xs) (no_line xs) h in
    let not_two = other_class (length xs == 2) TwoOctets (type_class i t) (λ n. n) last.0 in
    let not_data = other_class (bits 1 1 t == 0) Data (unwrap_or (channel_type t) r) (λ n. n) not_two.1 in
    let is : class_of i xs ≡ unwrap_or (channel_type t) r = last.1 ∙ not_two.2 ∙ not_data.2 in
    let long : nat_lt (length xs) 2 ≡ false = first_not (nat_lt (length xs) 2) ((not (bits 6 5 (octet 1 xs) == format_of i), WrongFormat)
    ∷ (nat_lt i.svc (channel_of xs), Unassigned) ∷ (channel_of xs == 0, line_class xs) ∷ []) (channel_class i xs) h in
    record {
      whole = three (length xs) long not_two.0;
      which = elim (one_of (0x0b == t) (0x0f == t) (value_at others t) r (no_other i t) not_data.1) [
        | inl e ↦ inl (is_eleven t e.0, is ∙ e.1)
        | inr e ↦ inr (not_eleven t e.0, is ∙ e.1)
      ];
    }
