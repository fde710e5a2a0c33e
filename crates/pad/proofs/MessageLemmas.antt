-- The fault of a message, by its parts.
use Rattle.std.proofs.Common.{◌≡◌, ◌≤◌, ◌<◌, ◌-◌, ◌==◌, ◌||◌, nat_lt, ℕ, Bool, true, false, arith, refl, sym, ◌∙◌, ap, List, [], ◌∷◌, length, drop, take, Option, Some, None}
use Rattle.std.specs.Prelude.{not, is_none, slice_index}
use Rattle.std.specs.Option.{option_map_or}
use Rattle.std.proofs.lemmas.Bool.{agree_below_at, eqb-true, ne_eqb, le-ltb, or_from, or_parts}
use Rattle.line_model.specs.basics.Octets.{octet, bits}
use Rattle.line_model.specs.channels.Pad.{form_fault, is_badly_formed, is_too_long, is_unknown_message}
use Rattle.line_model.specs.declared.finding.Xcode.{Xcode}
use Rattle.line_model.specs.declared.finding.Xcode.TheVariants.{X1, X2, XL}
use Rattle.line_model.proofs.DeviceLemmas.{rest_of}
use Rattle.pad.specs.Codes.{code_number, code_of, octets_of}
use Rattle.pad.specs.declared.message.MessageCode.{MessageCode}

abbrev fault_by : (is_unknown is_long is_bad : Bool) → Option Xcode
fault_by is_unknown is_long is_bad = elim is_unknown [
  | true ↦ Some X1
  | false ↦ elim is_long [
    | true ↦ Some XL
    | false ↦ elim is_bad [ true ↦ Some X2 | false ↦ None ]
  ]
]

-- a first octet that is no code
abbrev is_unknown_octet : ℕ → Bool
is_unknown_octet n = not (bits 8 5 n == 0) || nat_lt 8 (bits 4 1 n)

is_unknown-none : (n : ℕ) → n < 256 → is_none (code_of n) ≡ is_unknown_octet n
is_unknown-none n below = agree_below_at (λ b. is_none (code_of b)) is_unknown_octet 256 n refl below

-- a code's number is that octet
pub number_of : (n : ℕ) (k : MessageCode) → n < 256 → Some k ≡ code_of n → code_number k ≡ n
number_of n k below e =
    let same : option_map_or (λ c. code_number c == n) (code_of n) true ≡ true =
    agree_below_at (λ b. option_map_or (λ c. code_number c == b) (code_of b) true) (λ b. true) 256 n refl below in
    eqb-true _ _ (ap (λ o. option_map_or (λ c. code_number c == n) o true) e ∙ same)

pub whole_message : (xs : List ℕ) (k : MessageCode) → 1 ≤ length xs → code_number k ≡ slice_index xs 0 → octets_of k (take (length xs - 1) (drop 1 xs)) ≡ xs
whole_message [] k some e = absurd (omega arith)
whole_message (x ∷ xs) k some e = ap (λ l. code_number k ∷ l) (rest_of (x ∷ xs) 1) ∙ ap (λ n. n ∷ xs) e

-- X1
pub no_octets : (xs : List ℕ) → length xs < 1 → form_fault xs ≡ Some X1
no_octets [] few = refl
no_octets (x ∷ xs) few = absurd (omega arith)

either : (a b c : Bool) → (b || c) ≡ true → ((a || b) || c) ≡ true
either true b c e = refl
either false b c e = e

pub no_code : (xs : List ℕ) → slice_index xs 0 < 256 → None ≡ code_of (slice_index xs 0) → form_fault xs ≡ Some X1
no_code xs below e =
    let unknown : is_unknown_octet (octet 1 xs) ≡ true = sym (is_unknown-none (slice_index xs 0) below) ∙ ap is_none (sym e) in
    ap (λ u. fault_by u (is_too_long xs) (is_badly_formed xs)) (either (length xs == 0) _ _ unknown)

-- a message with a code
known : (xs : List ℕ) (k : MessageCode) → 1 ≤ length xs → slice_index xs 0 < 256 → Some k ≡ code_of (slice_index xs 0) → is_unknown_message xs ≡ false
known xs k some below e =
    let none : (length xs == 0) ≡ false = ne_eqb (length xs) 0 (λ h. omega arith) in
    let octet_known : is_unknown_octet (octet 1 xs) ≡ false = sym (is_unknown-none (slice_index xs 0) below) ∙ ap is_none (sym e) in
    let both = or_parts (not (bits 8 5 (octet 1 xs) == 0)) (nat_lt 8 (bits 4 1 (octet 1 xs))) octet_known in
    or_from _ _ (or_from _ _ none both.0) both.1

-- X2, or none
pub form_of : (xs : List ℕ) (k : MessageCode) (is_bad : Bool) → 1 ≤ length xs → slice_index xs 0 < 256 → Some k ≡ code_of (slice_index xs 0) → length xs ≤ 1024 → is_bad ≡ is_badly_formed xs → form_fault xs ≡ fault_by false false is_bad
form_of xs k is_bad some below e short bad =
    ap (λ u. fault_by u (is_too_long xs) (is_badly_formed xs)) (known xs k some below e) ∙ ap (λ l. fault_by false l (is_badly_formed xs)) (le-ltb 1024 (length xs) short)
    ∙ ap (fault_by false false) (sym bad)
