use Rattle.std.specs.Prelude.{◌≡◌, take}
use Rattle.workers.proofs.gathering.totals_of_each.Given as goal

abbrev pub invariant-loop-share : goal.invariant-loop-share
invariant-loop-share g l = l.all.items ≡ take l.share-index l.shares
