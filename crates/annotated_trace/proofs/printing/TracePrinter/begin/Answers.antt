use Rattle.std.proofs.Common.{◌∙◌, ◌++◌, sym, subst, ap}
use Rattle.std.specs.Prelude.{IfErr}
use Rattle.std.proofs.lemmas.Result.{err_from_is_err_and}
use Rattle.line_model.specs.text.Text.{early}
use Rattle.trace_text.specs.Represents.{IsFaultOf, IsTextFault}
use Rattle.line_model.proofs.TextLemmas.{begun-more, ended-more}
use Rattle.annotated_trace.proofs.printing.TracePrinter.begin.Goals as goal

pub returns-clause-fed : goal.returns-clause-fed
returns-clause-fed g c choice text s one = record {
  trace = (
    c.in_ok-feed.ensures.represented text s.trace.0,
    subst (g.P.Printer.printed c.args.self.now.printer) (sym (ended-more text c.args.more.now one)) s.trace.1,
    s.trace.2,
  );
  begun = c.in_ok-extend_from_slice.ensures.items ∙ ap (λ xs. xs ++ c.args.more.now) s.begun ∙ sym (begun-more text c.args.more.now one);
}

pub returns-in_err-extend_from_slice-clause-refused : goal.returns-in_err-extend_from_slice-clause-refused
returns-in_err-extend_from_slice-clause-refused g c choice text s =
    let p = err_from_is_err_and c.from_residual-in_err-extend_from_slice.result c.from_residual-in_err-extend_from_slice.ensures.1 in
    subst (λ r. IfErr r (IsFaultOf (early (text ++ c.args.more.now)))) (sym p.1) (subst (IsFaultOf (early (text ++ c.args.more.now))) (sym p.2) tt)

pub returns-in_err-extend_from_slice-clause-kinds : goal.returns-in_err-extend_from_slice-clause-kinds
returns-in_err-extend_from_slice-clause-kinds g c =
    let p = err_from_is_err_and c.from_residual-in_err-extend_from_slice.result c.from_residual-in_err-extend_from_slice.ensures.1 in
    subst (λ r. IfErr r IsTextFault) (sym p.1) (subst IsTextFault (sym p.2) tt)
