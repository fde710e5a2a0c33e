-- No octet was lost so far; each read brings more octets.
use Rattle.std.proofs.Common.{◌≡◌, ◌-◌, ◌++◌, ℕ, List, [], length}
use Rattle.capture_files.specs.Windows.{Passes, still}
use Rattle.capture_files.proofs.window.Window.read_on.Given as goal

abbrev pub invariant-loop-self : goal.invariant-loop-self
invariant-loop-self g l = record {
  passes : Passes (still l.fn.self.ahead (g.S.Source.left l.fn.source)) (still l.self.ahead (g.S.Source.left l.source)) [];
  grown : (more : List ℕ) × (l.self.ahead ≡ l.fn.self.ahead ++ more);
}

abbrev pub decreases-loop-self : goal.decreases-loop-self
decreases-loop-self g l = l.many - length l.self.ahead
