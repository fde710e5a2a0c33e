-- The parts so far, and those of the names that are left, are all.
use Rattle.std.proofs.Common.{◌≡◌, drop, map}
use Rattle.std.specs.Fmt.{option_append}
use Rattle.capture_report.specs.JoinedFiles.{left_out, parts_left, without_headers}
use Rattle.capture_report.proofs.joined_files.JoinedFiles.open_parts.Given as goal

abbrev pub invariant-loop-name : goal.invariant-loop-name
invariant-loop-name g l =
    option_append (parts_left g.R.File.Read.remaining l.parts.items) (without_headers (left_out l.header) (g.R.Opener.named l.self.system) (map (λ name. name.now) (drop l.name-index l.self.further.now)))
    ≡ without_headers (left_out l.header) (g.R.Opener.named l.self.system) (map (λ name. name.now) l.self.further.now)
