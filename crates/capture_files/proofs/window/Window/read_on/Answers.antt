-- A read that gave nothing leaves a source at its end.
use Rattle.std.proofs.Common.{◌≡◌, inr, length, rules}
use Rattle.capture_files.proofs.WindowLemmas.{at_end}
use Rattle.capture_files.proofs.window.Window.read_on.Goals as goal

pub returns-then-branch-eq0-clause-there : goal.returns-then-branch-eq0-clause-there
returns-then-branch-eq0-clause-there g c =
    let read = c.in_ok-read.ensures.read in
    let none : length read.0 ≡ 0 = search rules in
    inr (λ file is.
    let so_far = c.loop-self.invariant.passes file is in
    at_end c.loop-self.self.ahead read.0 so_far.0 _ _ so_far.1 read.3 none)
