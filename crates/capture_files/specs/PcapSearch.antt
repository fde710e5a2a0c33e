-- Where a record can be, by its header.
use Rattle.std.specs.Prelude.{ℕ, ◌+◌, ◌&&◌, ◌||◌, ◌==◌, Bool, false, List, Option, None, Some, drop, is_some, length, nat_le, nat_lt, if◌then◌else◌}
use Rattle.std.specs.Option.{option_map_or}
use Rattle.capture_files.specs.declared.pcap.PcapForm.{PcapForm}
use Rattle.capture_files.specs.Numbers.{number}
use Rattle.capture_files.specs.PcapRecords.{header_size}

-- a record at a place keeps octets, at most as many as there were, and the part of a second is one
abbrev pub is_plausible : PcapForm → List ℕ → (at : ℕ) → Bool
is_plausible f octets at =
    nat_lt 0 (number f.is_big (drop (at + 8) octets))
    && nat_le (number f.is_big (drop (at + 8) octets)) (number f.is_big (drop (at + 12) octets))
    && nat_le (number f.is_big (drop (at + 12) octets)) f.largest
    && nat_lt (number f.is_big (drop (at + 4) octets)) (if f.is_nano then 1000000000 else 1000000)

-- how many octets it keeps; none where no record can be there
abbrev pub kept_at : PcapForm → List ℕ → (at : ℕ) → Option ℕ
kept_at f octets at = if nat_lt (length octets) (at + header_size f.header) then None
    else (if is_plausible f octets at then Some (number f.is_big (drop (at + 8) octets)) else None)

-- after a record at a place there is another one, or the end of the file where these octets reach to it
abbrev pub is_followed : PcapForm → List ℕ → (at : ℕ) → (is_end : Bool) → Bool
is_followed f octets at is_end = option_map_or (λ kept. is_end && at + header_size f.header + kept == length octets || is_some (kept_at f octets (at + header_size f.header + kept))) (kept_at f octets at) false
