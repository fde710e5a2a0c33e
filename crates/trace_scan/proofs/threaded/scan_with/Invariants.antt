use Rattle.std.specs.Option.{option_map}
use Rattle.line_model.specs.traces.Traces.{trace_plan}
use Rattle.trace_scan.proofs.threaded.scan_with.Given as goal

abbrev pub ghosts-work_on_trace-P-Plan : goal.ghosts-work_on_trace-P-Plan
ghosts-work_on_trace-P-Plan g a = record { pieces = option_map trace_plan (g.S.Source.left a.source.now) }

abbrev pub ghosts-work_on_trace-P-TraceText : goal.ghosts-work_on_trace-P-TraceText
ghosts-work_on_trace-P-TraceText g a = record { text = g.S.Source.left a.source.now }
