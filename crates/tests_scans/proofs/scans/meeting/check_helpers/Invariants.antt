use Rattle.std.specs.Prelude.{Some}
use Rattle.line_model.specs.traces.Traces.{trace_plan}
use Rattle.tests_scans.proofs.scans.meeting.check_helpers.Given as goal

abbrev pub ghosts-scan_meeting-P-Plan : goal.ghosts-scan_meeting-P-Plan
ghosts-scan_meeting-P-Plan g a = record { pieces = Some (trace_plan a.text.now) }

abbrev pub ghosts-scan_meeting-P-TraceText : goal.ghosts-scan_meeting-P-TraceText
ghosts-scan_meeting-P-TraceText g a = record { text = Some a.text.now }
