use Rattle.json_lines.proofs.BetweenCallsLemmas.{represents_new}
use Rattle.json_lines.proofs.lines.JsonLines.new.Goals as goal

pub returns-clause-represented : goal.returns-clause-represented
returns-clause-represented c taken = represents_new taken _ c.new-2.ensures c.new.ensures.empty c.new.ensures.working c.new-3.ensures c.new-4.ensures
