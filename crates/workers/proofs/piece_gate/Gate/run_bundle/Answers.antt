use Rattle.std.proofs.Common.{◌≡◌, ◌∙◌, ◌++◌, ◌∷◌, ◌+◌, [], map, take, ap, subst, sym, arith}
use Rattle.std.specs.Prelude.{All}
use Rattle.std.proofs.lemmas.List.{take_all, take_more}
use Rattle.line_model.specs.pieces.Plans.{result_of}
use Rattle.workers.proofs.Pieces.{All-more, value_more}
use Rattle.workers.proofs.piece_gate.Gate.run_bundle.Goals as goal

pub loop-piece-init : goal.loop-piece-init
loop-piece-init g c = (c.new-reports.ensures, λ k d lt. absurd (omega (arith, lt)))

pub loop-piece-preserved : goal.loop-piece-preserved
loop-piece-preserved g c =
    let done = take c.loop-piece.piece-index c.parts.result.0.now in
    let more : done ++ c.piece-item.result ∷ [] ≡ take (c.loop-piece.piece-index + 1) c.parts.result.0.now =
    ap (λ p. done ++ p ∷ []) c.piece-item.is ∙ sym (take_more c.parts.result.0.now c.loop-piece.piece-index c.piece-item.result c.loop-piece-test.true) in
    let run = subst (g.Self.Gate.ran c.args.self.now c.piece-item.result) c.in_ok-run.ensures.value c.in_ok-run.ensures.ran in
    let runs = All-more (λ p. g.Self.Gate.ran c.args.self.now p (result_of p)) done c.piece-item.result c.loop-piece.invariant.1 run in (
      c.in_ok-reports.ensures ∙ value_more _ _ done c.piece-item.result c.loop-piece.invariant.0 c.in_ok-run.ensures.value ∙ ap (map result_of) more,
      subst (All (λ p. g.Self.Gate.ran c.args.self.now p (result_of p))) more runs,
    )

pub returns-clause-ran : goal.returns-clause-ran
returns-clause-ran g c =
    let run = subst (g.Self.Gate.ran c.args.self.now c.parts.result.1.now) c.in_ok-run-2.ensures.value c.in_ok-run-2.ensures.ran in
    let runs = subst (All (λ p. g.Self.Gate.ran c.args.self.now p (result_of p))) (take_all c.loop-piece.piece-index c.parts.result.0.now c.loop-piece-test.false) c.loop-piece.invariant.1 in
    subst (All (λ p. g.Self.Gate.ran c.args.self.now p (result_of p))) (sym c.parts.ensures) (All-more (λ p. g.Self.Gate.ran c.args.self.now p (result_of p)) c.parts.result.0.now c.parts.result.1.now runs run)
