use Rattle.trace_text.specs.Progress.{Progress}
use Rattle.trace_text.specs.Represents.{Represents}
use Rattle.std.proofs.Common.{◌++◌, ◌∙◌, sym, subst, ap}
use Rattle.line_model.specs.text.Text.{early_rows}
use Rattle.trace_text.proofs.RefusalLemmas.{appended-of, is-running}
use Rattle.trace_text.proofs.lines.Lines.feed.Goals as goal

pub returns-clause-rows_appended : goal.returns-clause-rows_appended
returns-clause-rows_appended g c text rows s e =
    appended-of {T = Unit {0}} c.feed_rows-fed.result c.args.out.now.items c.feed_rows-fed.new.out.items rows (early_rows text) (early_rows (text ++ c.args.chunk.now)) (c.feed_rows-fed.ensures.appended text (subst (λ p. Represents p text) (sym c.keep_first.ensures) s)) e

pub returns-in-Some-clause-refused : goal.returns-in-Some-clause-refused
returns-in-Some-clause-refused g c text s = absurd (is-running c.args.self.now text c.in-Some.fault s (ap (λ (p : Progress). p.refused) (sym c.self.view_is) ∙ c.in-Some.is))

pub returns-in-Some-clause-appended : goal.returns-in-Some-clause-appended
returns-in-Some-clause-appended g c text s = absurd (is-running c.args.self.now text c.in-Some.fault s (ap (λ (p : Progress). p.refused) (sym c.self.view_is) ∙ c.in-Some.is))

pub returns-in-Some-clause-rows_appended : goal.returns-in-Some-clause-rows_appended
returns-in-Some-clause-rows_appended g c text rows s e = absurd (is-running c.args.self.now text c.in-Some.fault s (ap (λ (p : Progress). p.refused) (sym c.self.view_is) ∙ c.in-Some.is))

pub returns-in-Some-clause-header : goal.returns-in-Some-clause-header
returns-in-Some-clause-header g c text s = absurd (is-running c.args.self.now text c.in-Some.fault s (ap (λ (p : Progress). p.refused) (sym c.self.view_is) ∙ c.in-Some.is))
