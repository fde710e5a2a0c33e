use Rattle.std.proofs.Common.{◌∙◌, refl, sym}
use Rattle.descriptions.proofs.CallLemmas.{ended_here, ended_there}
use Rattle.descriptions.proofs.call_rows.CallRows.end.Goals as goal

pub returns-then-is_open-clause-applied : goal.returns-then-is_open-clause-applied
returns-then-is_open-clause-applied c es e ends h = ended_here c.args.epoch c.args.channel es e c.args.self.now _ ends h (sym c.is_open.ensures ∙ c.if-is_open.true) refl refl refl

pub returns-else-is_open-clause-applied : goal.returns-else-is_open-clause-applied
returns-else-is_open-clause-applied c es e ends h = ended_there c.args.epoch c.args.channel es e c.args.self.now c.args.self.now ends h (sym c.is_open.ensures ∙ c.if-is_open.false) refl refl refl
