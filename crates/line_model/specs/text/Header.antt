-- The header line of a trace: `X25 1 MOD m WIN w SIZE s PVC p SVC q`, or
-- `X25 2 MOD m WIN w SIZE s PVC p IN i TWO t OUT o`, with ` JOIN` after it or not; with 3 in place of 2 gaps are rows (profile).
use Rattle.std.specs.Prelude.{◌≡◌, ℕ, Bool, true, false, ◌==◌, ◌&&◌, ◌||◌, nat_le, not, List, [], ◌∷◌, length, Option, Some, None, refl, option_map, codes, slice_index, if◌then◌else◌}
use Rattle.std.specs.Char.{is_ascii_digit}
use Rattle.std.specs.List.{slice_split, list_all}
use Rattle.std.specs.Option.{option_and_then}
use Rattle.std.specs.Str.{bytes_eq}
use Rattle.std.specs.Str.Parse.{digits_value}
use Rattle.line_model.specs.basics.Limits.{is_interface}
use Rattle.line_model.specs.declared.interface.Interface.{Interface}

-- whether a byte separates words
abbrev pub is_space : ℕ → Bool
is_space b = b == 32

-- single spaces separate words
abbrev pub words_of : List ℕ → List (List ℕ)
words_of text = slice_split is_space text

-- 1 to 9 digits, and no leading zero except in `0`
abbrev pub is_number : List ℕ → Bool
is_number word = (nat_le 1 (length word) && nat_le (length word) 9) && (list_all is_ascii_digit word && ((length word == 1) || not (slice_index word 0 == 48)))

-- the number that a word writes, if it does
abbrev pub number_of : List ℕ → Option ℕ
number_of word = if is_number word then Some (digits_value 10 word) else None

-- what a header says
pub record HeaderNumbers : Type 0 where
  pub modulus : ℕ
  pub window : ℕ
  pub size : ℕ
  pub pvc : ℕ
  pub incoming : ℕ
  pub two_way : ℕ
  pub svc : ℕ
  pub join : Bool
  pub gaps : Bool

-- a word that has to be there, and the number after it
abbrev pub named_number : List ℕ → List ℕ → List ℕ → Option ℕ
named_number name word number = if bytes_eq word name then number_of number else None

-- the number after a name, and the words after both
abbrev pub named : List ℕ → List (List ℕ) → Option (ℕ × List (List ℕ))
named name (word ∷ number ∷ words) = option_map (λ n. (n, words)) (named_number name word number)
named name _ = None

-- the numbers that all forms begin with: MOD, WIN, SIZE, PVC
pub record Defaults : Type 0 where
  pub modulus : ℕ
  pub window : ℕ
  pub size : ℕ
  pub pvc : ℕ

-- these four, and the words after them
abbrev pub defaults_in : List (List ℕ) → Option (Defaults × List (List ℕ))
defaults_in words =
    option_and_then (λ m. option_and_then (λ w. option_and_then (λ s. option_and_then (λ p.
    Some (record { modulus = m.0; window = w.0; size = s.0; pvc = p.0 }, p.1))
    (named (codes "PVC") s.1)) (named (codes "SIZE") w.1)) (named (codes "WIN") m.1)) (named (codes "MOD") words)

-- no word is left
abbrev pub ending : {A : Type 0} → A → List (List ℕ) → Option A
ending a [] = Some a
ending a _ = None

-- no word is left, or JOIN alone
abbrev pub join_in : List (List ℕ) → Option Bool
join_in [] = Some false
join_in (word ∷ []) = if bytes_eq word (codes "JOIN") then Some true else None
join_in _ = None

-- without ranges the channels after the permanent ones are two-way
abbrev pub all_two_way : Defaults → ℕ → HeaderNumbers
all_two_way d q = record { modulus = d.modulus; window = d.window; size = d.size; pvc = d.pvc; incoming = d.pvc; two_way = q; svc = q; join = false; gaps = false }

-- the first form, after its version
abbrev pub first_form : List (List ℕ) → Option HeaderNumbers
first_form words = option_and_then (λ d. option_and_then (λ q. ending (all_two_way d.0 q.0) q.1) (named (codes "SVC") d.1)) (defaults_in words)

-- the second form, or the third where gaps are rows, after the version
abbrev pub second_form : (gaps : Bool) → List (List ℕ) → Option HeaderNumbers
second_form gaps words =
    option_and_then (λ d. option_and_then (λ i. option_and_then (λ t. option_and_then (λ o. option_and_then (λ join.
    Some (record { modulus = d.0.modulus; window = d.0.window; size = d.0.size; pvc = d.0.pvc; incoming = i.0; two_way = t.0; svc = o.0; join = join; gaps = gaps }))
    (join_in o.1)) (named (codes "OUT") t.1)) (named (codes "TWO") i.1)) (named (codes "IN") d.1)) (defaults_in words)

-- each version has its form
abbrev pub form_of : (version : List ℕ) → List (List ℕ) → Option HeaderNumbers
form_of version words =
    if bytes_eq version (codes "1") then first_form words else
    if bytes_eq version (codes "2") then second_form false words else
    if bytes_eq version (codes "3") then second_form true words else None

-- what the words of a header say
abbrev pub numbers_in : List (List ℕ) → Option HeaderNumbers
numbers_in (x25 ∷ version ∷ words) = if bytes_eq x25 (codes "X25") then form_of version words else None
numbers_in _ = None

-- what a header line says, if it has one of the forms
unfoldable pub header_numbers : List ℕ → Option HeaderNumbers
header_numbers line = numbers_in (words_of line)

-- whether these numbers are in their ranges
abbrev pub is_lawful : HeaderNumbers → Bool
is_lawful n = is_interface n.modulus n.window n.size n.pvc n.incoming n.two_way n.svc

-- the interface of these numbers, if they keep the rules
unfoldable pub interface_with : HeaderNumbers → Option Interface
interface_with n =
    let make : (b : Bool) → is_lawful n ≡ b → Option Interface =
    λ b. elim b as (λ v. is_lawful n ≡ v → Option Interface) [
      | true ↦ λ e. Some (record { modulus = n.modulus; window = n.window; size = n.size; pvc = n.pvc; incoming = n.incoming; two_way = n.two_way; svc = n.svc; join = n.join; gaps = n.gaps; lawful = e })
      | false ↦ λ e. None
    ] in
    make (is_lawful n) refl

-- the interface of a header line, if it has a form and keeps the ranges
unfoldable pub interface_of : List ℕ → Option Interface
interface_of line = option_and_then interface_with (header_numbers line)
