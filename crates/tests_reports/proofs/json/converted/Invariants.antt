use Rattle.std.specs.Prelude.{Some}
use Rattle.tests_reports.proofs.json.converted.Given as goal

abbrev pub ghosts-convert : goal.ghosts-convert
ghosts-convert a = record { name = a.sink.ghost_name; before = (Some a.sink.now.taken.items, a.sink.now.failures) }
