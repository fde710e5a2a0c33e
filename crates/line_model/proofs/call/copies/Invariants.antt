use Rattle.std.proofs.Common.{◌≡◌, take}
use Rattle.line_model.proofs.call.copies.Given as goal

abbrev pub invariant-loop-call : goal.invariant-loop-call
invariant-loop-call g l = l.copies.items ≡ take l.call-index l.calls
