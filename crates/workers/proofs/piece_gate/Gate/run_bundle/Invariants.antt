use Rattle.std.proofs.Common.{◌≡◌, map, take}
use Rattle.std.specs.Prelude.{All}
use Rattle.line_model.specs.pieces.Plans.{result_of}
use Rattle.workers.proofs.piece_gate.Gate.run_bundle.Given as goal

abbrev pub invariant-loop-piece : goal.invariant-loop-piece
invariant-loop-piece g l = (l.reports ≡ map result_of (take l.piece-index l.front))
    × All (λ p. g.Self.Gate.ran l.fn.self p (result_of p)) (take l.piece-index l.front)
