use Rattle.std.proofs.Common.{◌≡◌, drop}
use Rattle.report_merge.specs.Refusal.{unknown_id}
use Rattle.report_merge.proofs.judge.first_unknown_id.Given as goal

abbrev pub invariant-loop-id : goal.invariant-loop-id
invariant-loop-id l = unknown_id l.pieces l.ids ≡ unknown_id l.pieces (drop l.id-index l.ids)
