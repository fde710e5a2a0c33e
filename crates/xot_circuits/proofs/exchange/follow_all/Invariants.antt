-- What is left gives what all octets give, after the items so far.
use Rattle.std.proofs.Common.{◌≡◌, ◌+◌, ◌++◌, false, length}
use Rattle.xot_circuits.specs.Exchanges.{behind, contents_of, carried}
use Rattle.xot_circuits.proofs.exchange.follow_all.Given as goal

abbrev pub invariant-loop-rest : goal.invariant-loop-rest
invariant-loop-rest g l =
    (l.stream.is_sought ≡ false)
    × (behind (g.I.Items.taken l.out) (carried l.origin (contents_of (l.stream.rest ++ l.left)) l.dialogue)
    ≡ behind (g.I.Items.taken l.initial.out) (carried l.origin (contents_of (l.initial.stream.rest ++ l.initial.left)) l.initial.dialogue))

abbrev pub decreases-loop-rest : goal.decreases-loop-rest
decreases-loop-rest g l = length l.stream.rest + length l.left
