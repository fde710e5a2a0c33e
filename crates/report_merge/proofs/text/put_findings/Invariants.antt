use Rattle.std.proofs.Common.{◌≡◌, ℕ, List, ◌++◌, Option, drop}
use Rattle.std.specs.List.{flat_map}
use Rattle.line_model.specs.observer.Report.{finding_line}
use Rattle.line_model.specs.basics.Written.{Writes}
use Rattle.report_merge.proofs.text.put_findings.Given as goal

abbrev pub invariant-loop-finding : goal.invariant-loop-finding
invariant-loop-finding g l = (done : List ℕ) × (done ++ flat_map finding_line (drop l.finding-index l.findings) ≡ flat_map finding_line l.findings)
    × ((before : Option (List ℕ) × ℕ) (text : List ℕ) → Writes before (g.W.Sink.taken l.fn.sink, g.W.Sink.failures l.fn.sink) l.fn.out text → Writes before (g.W.Sink.taken l.sink, g.W.Sink.failures l.sink) l.out (text ++ done))
