use Rattle.std.proofs.Common.{◌≡◌, ℕ, List, ◌++◌, Option, drop}
use Rattle.std.specs.List.{flat_map}
use Rattle.header_trials.specs.TriedLines.{tried_line}
use Rattle.line_model.specs.basics.Written.{Writes}
use Rattle.header_trials.proofs.tried_lines.put_lines.Given as goal

abbrev pub invariant-loop-line : goal.invariant-loop-line
invariant-loop-line g l = (done : List ℕ) × (done ++ flat_map tried_line (drop l.line-index l.tried) ≡ flat_map tried_line l.tried)
    × ((before : Option (List ℕ) × ℕ) (text : List ℕ) → Writes before (g.W.Sink.taken l.fn.sink, g.W.Sink.failures l.fn.sink) l.fn.out text → Writes before (g.W.Sink.taken l.sink, g.W.Sink.failures l.sink) l.out (text ++ done))
