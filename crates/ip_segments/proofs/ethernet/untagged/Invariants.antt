-- The rest has the same octets after its tags.
use Rattle.std.proofs.Common.{◌≡◌, length}
use Rattle.capture_model.specs.Ethernet.{untagged}
use Rattle.ip_segments.proofs.ethernet.untagged.Given as goal

abbrev pub invariant-loop-payload : goal.invariant-loop-payload
invariant-loop-payload l = untagged l.payload.octets.now l.payload.length ≡ untagged l.fn.payload.octets.now l.fn.payload.length

abbrev pub decreases-loop-payload : goal.decreases-loop-payload
decreases-loop-payload l = length l.payload.octets.now
