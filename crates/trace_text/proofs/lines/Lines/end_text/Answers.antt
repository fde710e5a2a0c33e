use Rattle.std.proofs.Common.{◌∙◌, sym, ap, ◌+◌}
use Rattle.std.proofs.lemmas.Result.{err_from_is_err_and}
use Rattle.trace_text.specs.Progress.{Progress}
use Rattle.line_model.specs.declared.fault.Fault.TheVariants.{Trace}
use Rattle.line_model.specs.declared.fault.Kind.TheVariants.{HeaderMissing}
use Rattle.trace_text.specs.Reads.{whole_row}
use Rattle.trace_text.proofs.EndLemmas.{end-header, end-header-rows, end-missing, known-end}
use Rattle.trace_text.proofs.RefusalLemmas.{is-running}
use Rattle.trace_text.proofs.lines.Lines.end_text.Goals as goal

pub returns-in_err-count-clause-known : goal.returns-in_err-count-clause-known
returns-in_err-count-clause-known g c text s =
    let exit = err_from_is_err_and c.from_residual.result c.from_residual.ensures.1 in
    rw (exit.1, exit.2)
    (known-end text c.in_err-count.field-0.0 s.sound (c.in_err-count.ensures.refused text s))

pub returns-in-Some-interface-clause-ok : goal.returns-in-Some-interface-clause-ok
returns-in-Some-interface-clause-ok g c text s =
    let header = ap (λ (p : Progress). p.interface) (sym c.self-2.view_is) ∙ c.in-Some-interface.is in
    end-header c.end_begun.new.self c.in_ok-count.count text c.in-Some-interface.interface (c.in_ok-count.ensures.ok text s) header

pub returns-in-Some-interface-clause-row : goal.returns-in-Some-interface-clause-row
returns-in-Some-interface-clause-row g c text s =
    let header = ap (λ (p : Progress). p.interface) (sym c.self-2.view_is) ∙ c.in-Some-interface.is in (
      whole_row c.end_begun.new.row,
      end-header-rows c.end_begun.new.self c.in_ok-count.count text c.in-Some-interface.interface _ (c.in_ok-count.ensures.ok text s) header (c.in_ok-count.ensures.row text s),
      λ _. c.drop_unread.ensures,
    )

pub returns-clause-refused : goal.returns-clause-refused
returns-clause-refused g c text s =
    end-missing c.end_begun.new.self c.in_ok-count.count text (c.in_ok-count.ensures.ok text s) (ap (λ (p : Progress). p.interface) (sym c.self-2.view_is) ∙ c.in-None.is)

pub returns-clause-known : goal.returns-clause-known
returns-clause-known g c text s =
    known-end text (Trace (c.in_ok-count.count + 1) HeaderMissing) s.sound
    (end-missing c.end_begun.new.self c.in_ok-count.count text (c.in_ok-count.ensures.ok text s) (ap (λ (p : Progress). p.interface) (sym c.self-2.view_is) ∙ c.in-None.is))

pub returns-in-Some-clause-refused : goal.returns-in-Some-clause-refused
returns-in-Some-clause-refused g c text s = absurd (is-running c.args.self text c.in-Some.fault s (ap (λ (p : Progress). p.refused) (sym c.self.view_is) ∙ c.in-Some.is))

pub returns-in-Some-clause-known : goal.returns-in-Some-clause-known
returns-in-Some-clause-known g c text s = absurd (is-running c.args.self text c.in-Some.fault s (ap (λ (p : Progress). p.refused) (sym c.self.view_is) ∙ c.in-Some.is))
