use Rattle.std.proofs.Common.{◌≡◌, ℕ, ◌+◌, List, ◌++◌, Option, drop}
use Rattle.std.specs.List.{flat_map, enumerate_from}
use Rattle.line_model.specs.observer.Report.{call_line}
use Rattle.line_model.specs.basics.Written.{Writes}
use Rattle.report_merge.proofs.text.put_calls.Given as goal

abbrev pub invariant-loop-index : goal.invariant-loop-index
invariant-loop-index g l = (done : List ℕ) × (done ++ flat_map call_line (enumerate_from (l.index + 1) (drop l.index l.calls)) ≡ flat_map call_line (enumerate_from 1 l.calls))
    × ((before : Option (List ℕ) × ℕ) (text : List ℕ) → Writes before (g.W.Sink.taken l.fn.sink, g.W.Sink.failures l.fn.sink) l.fn.out text → Writes before (g.W.Sink.taken l.sink, g.W.Sink.failures l.sink) l.out (text ++ done))
