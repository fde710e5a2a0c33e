-- What was counted so far, and then what is left, is what was counted.
use Rattle.std.proofs.Common.{◌≡◌, ◌<◌, ℕ, length, slice_index_or}
use Rattle.capture_report.specs.OtherPorts.{none_counted, port_count, port_count_from}
use Rattle.capture_report.proofs.other_ports.OtherPorts.port_counts.Given as goal

abbrev pub invariant-loop-pair : goal.invariant-loop-pair
invariant-loop-pair l = record {
  next : (goal.iterator-loop-pair).can_next l.pair-iterator;
  finite : (goal.iterator-loop-pair).is_finite l.pair-iterator;
  all : length l.counts.items ≡ 65536;
  each : (port : ℕ) → port < 65536 → port_count_from (slice_index_or l.counts.items port none_counted) l.pair-iterator port ≡ port_count l.self.pairs port;
}
