use Rattle.std.proofs.Common.{◌≤◌, ℕ, List, length}
use Rattle.annotated_trace.specs.declared.rows.Rows.{Rows}
use Rattle.annotated_trace.specs.Printers.{HasFollowed, PrintOf}
use Rattle.annotated_trace.proofs.PassedLemmas.{Passed}
use Rattle.annotated_trace.proofs.printing.TracePrinter.take_lines.Given as goal

-- the lines that were passed
abbrev pub invariant-loop-front : goal.invariant-loop-front
invariant-loop-front g l = record {
  passed : (choice : Rows) (gone : List ℕ) → Passed (HasFollowed g.O.TraceObserver g.P.Printer choice) (PrintOf g.P.Printer choice gone) l.fn.self l.self (g.K.Sink.taken l.fn.sink) (g.K.Sink.taken l.sink) l.fn.chunk l.rest;
  rising : g.K.Sink.failures l.fn.sink ≤ g.K.Sink.failures l.sink;
}

abbrev pub decreases-loop-front : goal.decreases-loop-front
decreases-loop-front g l = length l.rest
