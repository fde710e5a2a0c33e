use Rattle.std.proofs.Common.{◌≡◌, ◌+◌, ◌-◌, ◌++◌, length}
use Rattle.std.specs.Prelude.{map, nat_lt}
use Rattle.std.specs.List.{list_any}
use Rattle.line_model.specs.basics.Octets.{half_octets}
use Rattle.packet_decode.proofs.address.address.Given as goal

abbrev pub invariant-loop-k : goal.invariant-loop-k
invariant-loop-k l = record {
  digits : list_any (λ d. nat_lt 9 d) (half_octets l.k (l.from + l.count - l.k) l.octets)
      ≡ list_any (λ d. nat_lt 9 d) (half_octets l.from l.count l.octets);
  written : l.address ++ map (λ d. 48 + d) (half_octets l.k (l.from + l.count - l.k) l.octets)
      ≡ map (λ d. 48 + d) (half_octets l.from l.count l.octets);
  room : length l.address + l.from ≡ l.k;
}
