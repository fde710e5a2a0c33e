-- The rest has the same after its labels.
use Rattle.std.proofs.Common.{◌≡◌, length}
use Rattle.ip_segments.specs.Carriers.{by_labels}
use Rattle.ip_segments.proofs.ethernet.last_label.Given as goal

abbrev pub invariant-loop-payload : goal.invariant-loop-payload
invariant-loop-payload l = by_labels l.payload.octets.now l.payload.length ≡ by_labels l.fn.payload.octets.now l.fn.payload.length

abbrev pub decreases-loop-payload : goal.decreases-loop-payload
decreases-loop-payload l = length l.payload.octets.now
