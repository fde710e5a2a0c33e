use Rattle.std.proofs.Common.{◌<◌, List, ℕ, length, subst, sym}
use Rattle.std.specs.List.{AllByRecursion}
use Rattle.line_model.specs.text.Text.{ended_lines}
use Rattle.json_lines.specs.Json.{line_room}
use Rattle.json_lines.specs.Reports.{report_words}
use Rattle.json_lines.proofs.ObjectLemmas.{lines_short}
use Rattle.json_lines.proofs.ReportLemmas.{are_known, are_lines, report_objects, text_words}
use Rattle.json_lines.proofs.laws.objects_of_report.Goals as goal

pub returns-clause-short : goal.returns-clause-short
returns-clause-short c r h = subst (λ (x : List ℕ). AllByRecursion (λ (l : List ℕ). length l < line_room) (ended_lines x)) (sym (text_words r)) (lines_short (report_words r) (are_lines r h))

pub returns-clause-objects : goal.returns-clause-objects
returns-clause-objects c = report_objects

pub returns-clause-known : goal.returns-clause-known
returns-clause-known c = are_known
