use Rattle.std.proofs.Common.{◌≡◌, drop, flat_map}
use Rattle.line_model.specs.work.Book.{ids_of}
use Rattle.report_merge.specs.Refusal.{unknown_id}
use Rattle.report_merge.proofs.merging.unknown_id_of.Given as goal

abbrev pub invariant-loop-some : goal.invariant-loop-some
invariant-loop-some g l = unknown_id l.pieces (ids_of (flat_map g.T.Reports.reports l.reports)) ≡ unknown_id l.pieces (ids_of (flat_map g.T.Reports.reports (drop l.some-index l.reports)))
