use Rattle.std.proofs.Common.{ap, refl, sym, ◌-◌}
use Rattle.descriptions.proofs.CallLemmas.{opened_later, opened_now}
use Rattle.descriptions.proofs.call_rows.CallRows.open.Goals as goal

pub returns-then-self-eq1-clause-applied : goal.returns-then-self-eq1-clause-applied
returns-then-self-eq1-clause-applied c es e opens h = opened_now c.args.epoch c.args.channel es e c.args.self.now _ opens h c.if-self-eq1.true refl (sym (ap (λ n. n - 1) c.if-self-eq1.true)) refl

pub returns-else-self-eq1-clause-applied : goal.returns-else-self-eq1-clause-applied
returns-else-self-eq1-clause-applied c es e opens h = opened_later c.args.epoch c.args.channel es e c.args.self.now _ opens h c.if-self-eq1.false refl c.saturating_sub-self.ensures refl
