use Rattle.std.specs.Option.{option_map}
use Rattle.line_model.specs.traces.Traces.{trace_plan}
use Rattle.tests_scans.proofs.scans.runs.scan_by.Given as goal

abbrev pub ghosts-scan_in_blocks-P-Plan : goal.ghosts-scan_in_blocks-P-Plan
ghosts-scan_in_blocks-P-Plan g a = record { pieces = option_map trace_plan (g.S.Source.left a.source.now) }

abbrev pub ghosts-scan_in_blocks-P-TraceText : goal.ghosts-scan_in_blocks-P-TraceText
ghosts-scan_in_blocks-P-TraceText g a = record { text = g.S.Source.left a.source.now }
