-- What facilities ask, all together.
use Rattle.std.specs.Prelude.{ℕ, Bool, true, false, not, ◌==◌, ◌||◌, nat_lt, nat_le, ◌≡◌, ◌≤◌, ◌<◌, List, length, take_while, Option, Some, None, option_map, IfSome}
use Rattle.std.specs.List.{list_any}
use Rattle.line_model.specs.declared.interface.Interface.{Interface}
use Rattle.line_model.specs.basics.Octets.{octet}
use Rattle.line_model.specs.packets.Facilities.{Facility, facilities_of, last_parameters, is_out_of_range}
use Rattle.packet_decode.specs.declared.facility.Asked.{Asked}

-- no facility asks anything
abbrev pub nothing_asked : Asked
nothing_asked = record { charging = None; sizes = None; windows = None; out_of_range = false }

-- the first two octets
abbrev pub two_octets : List ℕ → ℕ × ℕ
two_octets ps = (octet 1 ps, octet 2 ps)

-- what some facilities ask
abbrev pub asked_of : Interface → List Facility → Asked
asked_of i fs = record {
  charging = option_map (octet 1) (last_parameters 1 fs);
  sizes = option_map two_octets (last_parameters 0x42 fs);
  windows = option_map two_octets (last_parameters 0x43 fs);
  out_of_range = list_any (is_out_of_range i) fs;
}

-- the facilities before a marker
abbrev pub before_marker : List Facility → List Facility
before_marker fs = take_while (λ f. not (f.code == 0)) fs

-- what the facilities in some octets ask, none where one is cut
abbrev pub asked_in : Interface → List ℕ → Option Asked
asked_in i xs = option_map (λ fs. asked_of i (before_marker fs)) (facilities_of (length xs) xs)

-- a logarithm of a packet size other than 16 to 4096 octets (X.25 clause 7.2.2.1.1)
abbrev pub is_bad_size : ℕ → Bool
is_bad_size n = nat_lt n 4 || nat_lt 12 n

-- a window of 0 or not below the modulus (X.25 clause 7.2.2.1.2)
abbrev pub is_bad_window : Interface → ℕ → Bool
is_bad_window i n = n == 0 || nat_le i.modulus n

-- what is asked with one facility more, of a code and with octets after it, which replaces an earlier one of its code
abbrev pub with_facility : Interface → (code : ℕ) → (rest : List ℕ) → Asked → Asked
with_facility i code rest a = elim (code == 1) [
  | true ↦ record a { charging = Some (octet 1 rest) }
  | false ↦ elim (code == 0x42) [
    | true ↦ record a {
      sizes = Some (octet 1 rest, octet 2 rest);
      out_of_range = a.out_of_range || is_bad_size (octet 1 rest) || is_bad_size (octet 2 rest);
    }
    | false ↦ elim (code == 0x43) [
      | true ↦ record a {
        windows = Some (octet 1 rest, octet 2 rest);
        out_of_range = a.out_of_range || is_bad_window i (octet 1 rest) || is_bad_window i (octet 2 rest);
      }
      | false ↦ a
    ]
  ]
]

-- sizes and windows are in range, unless one was found that is not
pub record InRange (i : Interface) (a : Asked) : Type 0 where
  pub sizes : IfSome a.sizes (λ p. (4 ≤ p.0) × (p.0 ≤ 12) × (4 ≤ p.1) × (p.1 ≤ 12))
  pub windows : IfSome a.windows (λ p. (1 ≤ p.0) × (p.0 < i.modulus) × (1 ≤ p.1) × (p.1 < i.modulus))

-- the same as a fact of what was asked so far
abbrev pub IsInRange : Interface → Asked → Type 0
IsInRange i a = a.out_of_range ≡ false → InRange i a
