-- The octets that are left, with the weight so far, give the weight of all.
use Rattle.std.proofs.Common.{◌≡◌, ◌-◌, length}
use Rattle.capture_report.specs.PortSights.{weight, weight_from}
use Rattle.capture_report.proofs.port_sight.weight.Given as goal

abbrev pub invariant-loop : goal.invariant-loop
invariant-loop l = weight_from (length l.fn.octets - l.counter) l.found l.rest ≡ weight l.fn.octets
