-- PAD messages (X.29 clause 4) and PAD parameters (X.3).
use Rattle.std.specs.Prelude.{ℕ, Bool, true, false, not, ◌==◌, nat_lt, nat_le, ◌&&◌, ◌||◌, ◌%◌, List, [], ◌∷◌, length, map, filter, drop, take_while, Option, Some, None, is_none}
use Rattle.std.specs.List.{list_any}
use Rattle.line_model.specs.declared.state.Side.{Side}
use Rattle.line_model.specs.declared.finding.Xcode.{Xcode}
use Rattle.line_model.specs.declared.finding.Xcode.TheVariants.{X1, X2, X3, X4, XL}
use Rattle.line_model.specs.declared.event.Entry.TheVariants.{Asked, Said, Refused}
use Rattle.line_model.specs.declared.event.What.{What}
use Rattle.line_model.specs.declared.event.What.TheVariants.{Setting, Initial}
use Rattle.line_model.specs.basics.Octets.{octet, bits}
use Rattle.line_model.specs.channels.Channels.{PadMessage, other}
use Rattle.line_model.specs.channels.FlowControl.{is_side}

-- a parameter reference and its value (X.29 4.4.1)
pub record Pair : Type 0 where
  pub reference : ℕ
  pub value : ℕ

-- the message code (X.29 Table 3)
abbrev pub message_code : List ℕ → ℕ
message_code xs = bits 4 1 (octet 1 xs)

-- a parameter indication (X.29 4.4.6)
abbrev pub is_indication : List ℕ → Bool
is_indication xs = message_code xs == 0

-- set, read, and set and read are requests
abbrev pub is_set : List ℕ → Bool
is_set xs = message_code xs == 2 || message_code xs == 6

-- a set, a read, or a set and read (X.29 4.4.1 to 4.4.3)
abbrev pub is_request : List ℕ → Bool
is_request xs = is_set xs || message_code xs == 4

-- the octets two by two
abbrev pub pairs_of : List ℕ → List Pair
pairs_of [] = []
pairs_of (r ∷ []) = []
pairs_of (r ∷ v ∷ rest) = record { reference = r; value = v } ∷ pairs_of rest

-- the separator between the standard and the national parameters (X.29 4.4.5.3; reference 80 in an indication is profile)
abbrev pub is_separator : (indication : Bool) → Pair → Bool
is_separator indication p =
    (p.reference == 0 && p.value == 0) || (indication && p.reference == 0x80)

-- the pairs before the separator
abbrev pub standard_pairs : List ℕ → List Pair
standard_pairs xs = take_while (λ p. not (is_separator (is_indication xs) p)) (pairs_of (drop 1 xs))

-- X1: no octets, bits 8 to 5 not 0, or an unknown code
abbrev pub is_unknown_message : List ℕ → Bool
is_unknown_message xs = length xs == 0 || not (bits 8 5 (octet 1 xs) == 0) || nat_lt 8 (message_code xs)

-- XL: longer than is read (profile)
abbrev pub is_too_long : List ℕ → Bool
is_too_long xs = nat_lt 1024 (length xs)

-- a break carries no pair, or the pair (8, 1) (X.29 4.4.8)
abbrev pub is_break_field : List ℕ → Bool
is_break_field [] = true
is_break_field (r ∷ v ∷ []) = r == 8 && v == 1
is_break_field _ = false

-- X2: the pairs are cut, or a break carries something else
abbrev pub is_badly_formed : List ℕ → Bool
is_badly_formed xs = elim (message_code xs == 3) [
  | true ↦ not (is_break_field (drop 1 xs))
  | false ↦ (is_indication xs || is_request xs) && (length (drop 1 xs) % 2 == 1)
]

-- the fault of a message alone
abbrev pub form_fault : List ℕ → Option Xcode
form_fault xs = elim (is_unknown_message xs) [
  | true ↦ Some X1
  | false ↦ elim (is_too_long xs) [
    | true ↦ Some XL
    | false ↦ elim (is_badly_formed xs) [ true ↦ Some X2 | false ↦ None ]
  ]
]

-- whether a PAD was asked anything: a well formed request came from the other side
abbrev pub was_asked : (pad : Side) → List PadMessage → Bool
was_asked pad pad_messages =
    list_any (λ t. is_side (other pad) t.from && is_request t.message && is_none (form_fault t.message)) pad_messages

-- a parameter that can't be set, or a value that it can't have (X.3 Table 1)
abbrev pub is_refusable : Pair → Bool
is_refusable p =
    p.reference == 11
    || (list_any (λ n. p.reference == n) (2 ∷ 8 ∷ 12 ∷ 15 ∷ []) && nat_lt 1 p.value)
    || (list_any (λ n. p.reference == n) (16 ∷ 17 ∷ 18 ∷ []) && nat_lt 127 p.value)

-- the finding on a message, the first that holds (the order is profile)
abbrev pub message_fault : Side → List PadMessage → List ℕ → Option Xcode
message_fault from pad_messages xs = elim (form_fault xs) [
  | Some x ↦ Some x
  | None ↦ elim (is_indication xs && not (was_asked from pad_messages)) [
    | true ↦ Some X4
    | false ↦ elim (is_set xs && list_any is_refusable (standard_pairs xs)) [ true ↦ Some X3 | false ↦ None ]
  ]
]

-- what an indication says of a parameter: bit 8 of the reference is the error mark (X.29 4.4.6)
abbrev pub indicated_by : (marked : Bool) → Side → Pair → What
indicated_by true pad p = Setting pad (bits 7 1 p.reference) (Refused p.value)
indicated_by false pad p = Setting pad p.reference (Said p.value)

-- what a pair of an indication says
abbrev pub indicated : Side → Pair → What
indicated pad p = indicated_by (bits 8 8 p.reference == 1) pad p

-- what a set asks of a parameter (X.29 4.4.1)
abbrev pub asked : Side → Pair → What
asked pad p = Setting pad p.reference (Asked p.value)

-- whether a reference is one of X.3's parameters 1 to 22
abbrev pub is_parameter : ℕ → Bool
is_parameter n = nat_le 1 n && nat_le n 22

-- a set without any octet after the first asks for the initial values (X.29 4.4.1)
abbrev pub events_of_set : (bare : Bool) → Side → List ℕ → List What
events_of_set true from xs = Initial (other from) ∷ []
events_of_set false from xs = map (asked (other from)) (filter (λ p. is_parameter p.reference) (standard_pairs xs))

-- what a message without fault, or with X3, does to the settings
abbrev pub events_of_settings : (indication set : Bool) → Side → List ℕ → List What
events_of_settings true s from xs = map (indicated from) (filter (λ p. is_parameter (bits 7 1 p.reference)) (standard_pairs xs))
events_of_settings false true from xs = events_of_set (length xs == 1) from xs
events_of_settings false false from xs = []

-- what a message says of settings
abbrev pub settings_of : Side → List ℕ → List What
settings_of from xs = events_of_settings (is_indication xs) (is_set xs) from xs

-- X1, XL, X2 and X4 change no setting
abbrev pub settings_after : Option Xcode → Side → List ℕ → List What
settings_after None from xs = settings_of from xs
settings_after (Some X3) from xs = settings_of from xs
settings_after (Some _) from xs = []
