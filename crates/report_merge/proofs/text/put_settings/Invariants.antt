use Rattle.std.proofs.Common.{◌≡◌, ℕ, List, ◌++◌, Option, drop}
use Rattle.std.specs.List.{flat_map}
use Rattle.line_model.specs.observer.Report.{setting_line}
use Rattle.line_model.specs.basics.Written.{Writes}
use Rattle.report_merge.proofs.text.put_settings.Given as goal

abbrev pub invariant-loop-setting : goal.invariant-loop-setting
invariant-loop-setting g l = (done : List ℕ) × (done ++ flat_map (setting_line l.number) (drop l.setting-index l.settings) ≡ flat_map (setting_line l.number) l.settings)
    × ((before : Option (List ℕ) × ℕ) (text : List ℕ) → Writes before (g.W.Sink.taken l.fn.sink, g.W.Sink.failures l.fn.sink) l.fn.out text → Writes before (g.W.Sink.taken l.sink, g.W.Sink.failures l.sink) l.out (text ++ done))
