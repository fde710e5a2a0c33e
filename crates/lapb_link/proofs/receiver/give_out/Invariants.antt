-- What was shown so far comes before what is shown from here on.
use Rattle.std.proofs.Common.{◌≡◌, ◌++◌, length}
use Rattle.lapb_link.specs.Receiving.{given, passed_over, passing}
use Rattle.lapb_link.proofs.receiver.give_out.Given as goal

abbrev pub invariant-loop-frame : goal.invariant-loop-frame
invariant-loop-frame l = record {
  since : passing l.reading.modulus l.way l.progress l.held ≡ passing l.reading.modulus l.way l.fn.progress l.fn.held;
  held : passed_over l.reading.modulus l.way l.held ≡ passed_over l.reading.modulus l.way l.fn.held;
  shown : l.out.items ++ given l.reading l.way l.progress l.held ≡ l.fn.out.items ++ given l.reading l.way l.fn.progress l.fn.held;
}

abbrev pub decreases-loop-frame : goal.decreases-loop-frame
decreases-loop-frame l = length l.held
