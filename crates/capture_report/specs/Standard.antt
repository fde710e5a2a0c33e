-- Standard input as the program reads it.
use Rattle.std.specs.Prelude.{ℕ, false, List, Option, None, Some, if◌then◌else◌}
use Rattle.std.specs.Option.{option_and_then}
use Rattle.std.specs.declared.io.traits.Read.{Ghosts as Read}
use Rattle.capture_files.specs.CaptureFiles.{records_of}
use Rattle.capture_report.specs.Given.{is_whole}
use Rattle.capture_report.specs.Piped.{piped_text}
use Rattle.capture_report.specs.Recordings.{begins_as_capture, capture_left}
use Rattle.capture_report.specs.declared.options.CaptureOptions.{CaptureOptions}
use Rattle.capture_report.specs.declared.standard.StandardCapture.{StandardCapture}
use Rattle.capture_report.specs.declared.standard.StandardInput.{StandardInput}
use Rattle.capture_report.specs.declared.standard.StandardInput.TheVariants.{Trace, Capture}

-- the trace of a capture; none of octets that begin as none
abbrev pub capture_in : CaptureOptions → List ℕ → Option (List ℕ)
capture_in o octets = if begins_as_capture octets then option_and_then (piped_text o) (records_of false 0 octets) else None

abbrev pub capture_bytes : CaptureOptions → (input : Option (List ℕ)) → Option (List ℕ)
capture_bytes o input = option_and_then (capture_in o) input

-- what it shows: the trace of a capture where the whole header is given, and otherwise its bytes
abbrev pub standard_bytes : CaptureOptions → (input : Option (List ℕ)) → Option (List ℕ)
standard_bytes o input = if is_whole o.header then capture_bytes o input else input

-- what is left of a capture: of its trace once it is open, and otherwise what its input shows
abbrev pub input_left : {I B : Type 0} (read : Read I) (begun : Read B) → StandardCapture I B begun → Option (List ℕ)
input_left read begun s = elim s.text [ Some t ↦ capture_left begun t | None ↦ capture_bytes s.options (elim s.input [ Some i ↦ read.remaining i | None ↦ read.remaining s.first.value ]) ]

abbrev pub standard_left : {I B : Type 0} (read : Read I) (begun : Read B) → StandardInput I B begun → Option (List ℕ)
standard_left read begun (Trace input) = read.remaining input
standard_left read begun (Capture s) = input_left read begun s
