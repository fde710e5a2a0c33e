-- What was read from facilities.
use Rattle.std.specs.Prelude.{ℕ, Bool, false, ◌==◌, ◌≡◌, ◌^◌, List, [], length, option_map, is_none, unwrap_or}
use Rattle.std.specs.Option.{option_map_or}
use Rattle.std.specs.List.{list_any}
use Rattle.line_model.specs.declared.interface.Interface.{Interface}
use Rattle.line_model.specs.basics.Octets.{bits}
use Rattle.line_model.specs.packets.Facilities.{Facility, facilities_of, is_out_of_range, asks_fast, asks_reverse, asked_sizes, asked_windows}
use Rattle.packet_decode.specs.declared.facility.Asked.{Asked}
use Rattle.packet_decode.specs.Asked.{before_marker}

-- the facilities of some octets that are read
abbrev pub read_of : List ℕ → List Facility
read_of ys = before_marker (unwrap_or (facilities_of (length ys) ys) [])

abbrev pub charges_fast : Asked → Bool
charges_fast a = option_map_or (λ o. bits 8 8 o == 1) a.charging false

abbrev pub charges_reverse : Asked → Bool
charges_reverse a = option_map_or (λ o. bits 1 1 o == 1) a.charging false

-- sizes by their logarithms
abbrev pub powers : ℕ × ℕ → ℕ × ℕ
powers p = (2 ^ p.0, 2 ^ p.1)

-- whole facilities, and what they ask
pub record ReadsAs (i : Interface) (ys : List ℕ) (a : Asked) : Type 0 where
  pub whole : is_none (facilities_of (length ys) ys) ≡ false
  pub range : list_any (is_out_of_range i) (read_of ys) ≡ a.out_of_range
  pub fast : asks_fast (read_of ys) ≡ charges_fast a
  pub reverse_charging : asks_reverse (read_of ys) ≡ charges_reverse a
  pub sizes : asked_sizes (read_of ys) ≡ option_map powers a.sizes
  pub windows : asked_windows (read_of ys) ≡ a.windows
