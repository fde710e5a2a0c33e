use Rattle.std.proofs.Common.{◌≡◌, All, length, sym, ap, ◌∙◌, subst, refl, arith}
use Rattle.std.specs.Prelude.{IfErr}
use Rattle.std.proofs.lemmas.List.{length-map}
use Rattle.std.proofs.lemmas.Result.{IfOk-from_err, err_from_is_err_and}
use Rattle.line_model.specs.declared.fault.Fault.TheVariants.{Memory}
use Rattle.line_model.specs.pieces.Plans.{result_of}
use Rattle.line_model.specs.work.Book.{IsValue}
use Rattle.workers.specs.Vouching.{IsRunOfOne}
use Rattle.workers.proofs.Pieces.{values_are, runs_of}
use Rattle.workers.proofs.handler.PostingHandler.handle.Goals as goal

pub loop-init : goal.loop-init
loop-init g c = record { values = c.in_ok-reports.ensures.values; share = refl; pass = refl }

pub returns-in-Ok-clause-refused : goal.returns-in-Ok-clause-refused
returns-in-Ok-clause-refused g c = tt

pub post-requires-clause-vouched : goal.post-requires-clause-vouched
post-requires-clause-vouched g c =
    let pieces = c.witness_of.ensures.witness.1 ∙ ap (λ v. v.pieces) c.loop.invariant.pass in
    let ran = g.L.QueueName.ran in
    let runs : All (λ p. ran p (result_of p)) c.args.bundle.now = λ k d lt. c.requires.queue.2 _ _ (c.in_ok-reports.ensures.ran k d lt) in
    subst (λ l. All (IsRunOfOne ran l) c.loop.reports) (sym pieces) (subst (All (IsRunOfOne ran c.args.pass.now.pieces)) (sym c.loop.invariant.values) (runs_of ran c.args.pass.now.pieces c.args.bundle.now c.requires.taken runs))

pub loop-preserved : goal.loop-preserved
loop-preserved g c =
    let i = c.loop.invariant in
    let back = c.in-Err.ensures.refused in record {
      values = back.0 ∙ i.values;
      share = back.1 ∙ i.share;
      pass = c.witness_of.ensures.same ∙ i.pass;
    }

pub witness_of-requires : goal.witness_of-requires
witness_of-requires g c = ap (λ v. v.queue) c.loop.invariant.pass ∙ (c.requires.queue.0 ∙ sym c.requires.queue.1)

pub post-requires-clause-values : goal.post-requires-clause-values
post-requires-clause-values g c = subst (All (IsValue g.P.Plan.pieces)) (sym c.loop.invariant.values) (values_are g.P.Plan.pieces c.args.bundle.now c.requires.planned)

pub returns-in-Ok-clause-same : goal.returns-in-Ok-clause-same
returns-in-Ok-clause-same g c = c.witness_of.ensures.same ∙ c.loop.invariant.pass

pub returns-in-Ok-clause-posted : goal.returns-in-Ok-clause-posted
returns-in-Ok-clause-posted g c =
    let i = c.loop.invariant in
    omega (arith, ap (λ s. s.posts) c.in-Ok.ensures.share, ap (λ s. s.posts) i.share, ap length i.values, length-map c.args.bundle.now result_of)

pub returns-in_err-reports-clause-posted : goal.returns-in_err-reports-clause-posted
returns-in_err-reports-clause-posted g c = IfOk-from_err _ _ c.from_residual.ensures.0

pub returns-in_err-reports-clause-refused : goal.returns-in_err-reports-clause-refused
returns-in_err-reports-clause-refused g c =
    let p = err_from_is_err_and c.from_residual.result c.from_residual.ensures.1 in
    subst (λ r. IfErr r (λ f. f ≡ Memory)) (sym p.1) (p.2 ∙ c.in_err-reports.ensures.values)
