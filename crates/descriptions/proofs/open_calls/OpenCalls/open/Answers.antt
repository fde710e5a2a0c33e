use Rattle.descriptions.proofs.RowCallLemmas.{counted_opening}
use Rattle.descriptions.proofs.open_calls.OpenCalls.open.Goals as goal

pub returns-clause-counted : goal.returns-clause-counted
returns-clause-counted g c k es e opens h = counted_opening c.args.calls.now.epoch k es e c.args.self.now.opened c.args.calls.now.call _ opens h c.saturating_add-self.ensures
