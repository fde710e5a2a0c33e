use Rattle.std.specs.Prelude.{◌≡◌}
use Rattle.workers.proofs.piece_feeding.feed_end.Given as goal

abbrev pub invariant-loop : goal.invariant-loop
invariant-loop g l = l.pass ≡ l.initial.pass
