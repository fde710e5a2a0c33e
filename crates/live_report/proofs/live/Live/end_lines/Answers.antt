use Rattle.std.proofs.Common.{Err, ap, subst, sym}
use Rattle.std.specs.Prelude.{IfSome}
use Rattle.trace_text.specs.Progress.{Progress}
use Rattle.trace_text.specs.Represents.{IsTextFault, Represents as IsReaderOf}
use Rattle.live_report.proofs.ReportLemmas.{apart, same}
use Rattle.live_report.proofs.live.Live.end_lines.Goals as goal

pub returns-in-Some-clause-refused : goal.returns-in-Some-clause-refused
returns-in-Some-clause-refused g c text s = absurd (apart c.args.self.now.refused c.in-Some.fault s.running c.in-Some.is)

pub returns-in-Some-clause-kinds : goal.returns-in-Some-clause-kinds
returns-in-Some-clause-kinds g c = subst (λ f. IfSome f IsTextFault) c.in-Some.is c.requires.fed.kinds

pub returns-in-Some-clause-again : goal.returns-in-Some-clause-again
returns-in-Some-clause-again g c fault r = ap (λ f. Err f) (same c.args.self.now.refused c.in-Some.fault fault c.in-Some.is r)

pub returns-clause-ok : goal.returns-clause-ok
returns-clause-ok g c text s = c.end_row.ensures.ok text (subst (λ (v : Progress). IsReaderOf v text) (sym c.replace-lines.ensures.value) s.reads)

pub returns-clause-row : goal.returns-clause-row
returns-clause-row g c text s = c.end_row.ensures.row text (subst (λ (v : Progress). IsReaderOf v text) (sym c.replace-lines.ensures.value) s.reads)

pub returns-clause-refused : goal.returns-clause-refused
returns-clause-refused g c text s = c.end_row.ensures.refused text (subst (λ (v : Progress). IsReaderOf v text) (sym c.replace-lines.ensures.value) s.reads)

pub returns-clause-again : goal.returns-clause-again
returns-clause-again g c fault r = absurd (apart c.args.self.now.refused fault c.in_default.is r)
