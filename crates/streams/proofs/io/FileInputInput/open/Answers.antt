use Rattle.std.proofs.Common.{◌∙◌, Err, ap, subst, sym}
use Rattle.std.specs.Prelude.{IfErr}
use Rattle.std.proofs.lemmas.Result.{err_from_is_err_and}
use Rattle.streams.specs.OpenFaults.{IsByItsReason}
use Rattle.streams.proofs.io.FileInputInput.open.Goals as goal

pub returns-in_err-file-clause-reason : goal.returns-in_err-file-clause-reason
returns-in_err-file-clause-reason g c =
    let p = err_from_is_err_and c.from_residual.result c.from_residual.ensures.1 in
    subst (λ r. IfErr r IsByItsReason) (sym (p.1 ∙ ap (λ e. Err e) p.2)) c.in_err-file.ensures.reason
