use Rattle.std.proofs.Common.{◌∙◌, ap}
use Rattle.trace_text.proofs.RefusalLemmas.{head_represents}
use Rattle.trace_text.proofs.lines.Lines.interface.Goals as goal

pub returns-clause-head : goal.returns-clause-head
returns-clause-head g c text represented = ap (λ p. p.interface) c.self.view_is ∙ head_represents c.args.self.now text represented
