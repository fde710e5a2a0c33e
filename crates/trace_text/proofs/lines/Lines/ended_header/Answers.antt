use Rattle.std.proofs.Common.{◌∙◌, sym, ap, ◌+◌}
use Rattle.line_model.specs.declared.fault.Kind.TheVariants.{HeaderMissing}
use Rattle.line_model.specs.declared.fault.Fault.TheVariants.{Trace}
use Rattle.trace_text.specs.Progress.{Progress}
use Rattle.trace_text.proofs.EndedLemmas.{part-header, part-missing, part-rows}
use Rattle.trace_text.proofs.RefusalLemmas.{is-running}
use Rattle.trace_text.proofs.lines.Lines.ended_header.Goals as goal

pub returns-in-Some-interface-clause-ok : goal.returns-in-Some-interface-clause-ok
returns-in-Some-interface-clause-ok g c text s =
    part-header c.args.self.now text c.in-Some-interface.interface s (ap (λ (p : Progress). p.interface) (sym c.self.view_is) ∙ c.in-Some-interface.is)

pub returns-in-Some-interface-clause-rows : goal.returns-in-Some-interface-clause-rows
returns-in-Some-interface-clause-rows g c text s = part-rows c.args.self.now text s

pub returns-in-None-clause-refused : goal.returns-in-None-clause-refused
returns-in-None-clause-refused g c text s =
    let ended = ap (λ (p : Progress). p.ended) c.self.view_is in
    rw ended (part-missing c.args.self.now text s (ap (λ (p : Progress). p.interface) (sym c.self.view_is) ∙ c.in-None.is))

pub returns-in-None-clause-missing : goal.returns-in-None-clause-missing
returns-in-None-clause-missing g c text s =
    ap (λ n. Trace (n + 1) HeaderMissing) (ap (λ (p : Progress). p.ended) c.self.view_is ∙ s.ended)

pub returns-in-None-clause-rows : goal.returns-in-None-clause-rows
returns-in-None-clause-rows g c text s = part-rows c.args.self.now text s

pub returns-in-Some-clause-refused : goal.returns-in-Some-clause-refused
returns-in-Some-clause-refused g c text s = absurd (is-running c.args.self.now text c.in-Some.fault s (ap (λ (p : Progress). p.refused) (sym c.self.view_is) ∙ c.in-Some.is))

pub returns-in-Some-clause-missing : goal.returns-in-Some-clause-missing
returns-in-Some-clause-missing g c text s = absurd (is-running c.args.self.now text c.in-Some.fault s (ap (λ (p : Progress). p.refused) (sym c.self.view_is) ∙ c.in-Some.is))
