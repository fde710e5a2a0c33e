use Rattle.std.proofs.Common.{◌≡◌, ◌∙◌, ap, subst, sym}
use Rattle.std.specs.Prelude.{IfErr}
use Rattle.std.proofs.lemmas.Result.{IfOk-from_err, err_from_is_err_and}
use Rattle.line_model.specs.work.Book.{sum_of}
use Rattle.line_model.specs.declared.fault.Fault.TheVariants.{Memory}
use Rattle.workers.proofs.gathering.gather.Goals as goal

pub returns : goal.returns
returns g c =
    let e = c.gather-reports.ensures in
    let each = c.in_ok-each.ensures.same ∙ c.as_slice.ensures.value in record {
      reports = e.reports;
      vouched = e.vouched;
      totals = e.totals;
      sums = e.shares ∙ ap sum_of (sym each);
      each = each;
      refused = tt;
    }

pub returns-in_err-each : goal.returns-in_err-each
returns-in_err-each g c =
    let no = c.from_residual.ensures.0 in
    let p = err_from_is_err_and c.from_residual.result c.from_residual.ensures.1 in record {
      reports = IfOk-from_err _ _ no;
      vouched = IfOk-from_err _ _ no;
      totals = IfOk-from_err _ _ no;
      sums = IfOk-from_err _ _ no;
      each = IfOk-from_err _ _ no;
      refused = subst (λ r. IfErr r (λ f. f ≡ Memory)) (sym p.1) (p.2 ∙ c.in_err-each.ensures.refused);
    }
