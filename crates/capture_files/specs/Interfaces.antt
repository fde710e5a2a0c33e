-- The descriptions of interfaces.
use Rattle.std.specs.Prelude.{ℕ, ◌-◌, ◌/◌, ◌%◌, ◌^◌, Bool, List, [], ◌∷◌, drop, get_or, min, nat_lt, if◌then◌else◌}
use Rattle.std.specs.Int.{w64, cast_signed}
use Rattle.capture_files.specs.declared.interface.Interface.{Interface}
use Rattle.capture_files.specs.Numbers.{number, short_number}
use Rattle.capture_files.specs.Options.{BlockOption, count_of, last_value, options_in}

-- how many units of a timestamp are a second: a power of ten, or of two, as the resolution says; no timestamp counts more
-- than fit
abbrev pub units_of : (resolution : List ℕ) → ℕ
units_of [] = 1000000
units_of (r ∷ rs) = min ((if nat_lt r 128 then 10 else 2) ^ (r % 128)) (2 ^ 128 - 1)

-- the interface that a block describes, of these options: 9 has its resolution, 13 the bits of its check sequence, 14 the
-- seconds of its offset
abbrev pub described_by : Bool → List BlockOption → (body : List ℕ) → Interface
described_by big os body = record {
  link = short_number big (drop 8 body);
  snap = number big (drop 12 body);
  check = get_or (last_value 13 os) 0 0 / 8;
  units = units_of (last_value 9 os);
  offset = cast_signed w64 (count_of big (last_value 14 os));
}

abbrev pub interface_in : Bool → (body : List ℕ) → Interface
interface_in big body = described_by big (options_in big (drop 16 body)) body
