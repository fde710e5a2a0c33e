use Rattle.std.proofs.Common.{◌≡◌, ◌∙◌, sym, subst}
use Rattle.std.specs.Prelude.{IfErr}
use Rattle.std.proofs.lemmas.Result.{IfOk-from_err, err_from_is_err_and}
use Rattle.line_model.specs.declared.fault.Fault.TheVariants.{Memory}
use Rattle.report_merge.proofs.parts.Parts.copy.Goals as goal

pub returns-in_err-clone-clause-same : goal.returns-in_err-clone-clause-same
returns-in_err-clone-clause-same g c = IfOk-from_err _ _ c.from_residual.ensures.0

pub returns-in_err-clone-clause-memory : goal.returns-in_err-clone-clause-memory
returns-in_err-clone-clause-memory g c =
    let p = err_from_is_err_and c.from_residual.result c.from_residual.ensures.1 in
    subst (λ r. IfErr r (λ f. f ≡ Memory)) (sym p.1) p.2

pub returns-in_err-from_slice-clause-same : goal.returns-in_err-from_slice-clause-same
returns-in_err-from_slice-clause-same g c = IfOk-from_err _ _ c.from_residual-in_err-from_slice.ensures.0

pub returns-in_err-from_slice-clause-memory : goal.returns-in_err-from_slice-clause-memory
returns-in_err-from_slice-clause-memory g c =
    let p = err_from_is_err_and c.from_residual-in_err-from_slice.result c.from_residual-in_err-from_slice.ensures.1 in
    subst (λ r. IfErr r (λ f. f ≡ Memory)) (sym p.1) p.2

pub returns-in_err-copies-clause-same : goal.returns-in_err-copies-clause-same
returns-in_err-copies-clause-same g c = IfOk-from_err _ _ c.from_residual-in_err-copies.ensures.0

pub returns-in_err-copies-clause-memory : goal.returns-in_err-copies-clause-memory
returns-in_err-copies-clause-memory g c =
    let p = err_from_is_err_and c.from_residual-in_err-copies.result c.from_residual-in_err-copies.ensures.1 in
    subst (λ r. IfErr r (λ f. f ≡ Memory)) (sym p.1) (p.2 ∙ c.in_err-copies.ensures.memory)

pub returns-in_err-clone-2-clause-same : goal.returns-in_err-clone-2-clause-same
returns-in_err-clone-2-clause-same g c = IfOk-from_err _ _ c.from_residual-in_err-clone-2.ensures.0

pub returns-in_err-clone-2-clause-memory : goal.returns-in_err-clone-2-clause-memory
returns-in_err-clone-2-clause-memory g c =
    let p = err_from_is_err_and c.from_residual-in_err-clone-2.result c.from_residual-in_err-clone-2.ensures.1 in
    subst (λ r. IfErr r (λ f. f ≡ Memory)) (sym p.1) p.2
