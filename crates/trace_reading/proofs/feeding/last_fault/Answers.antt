use Rattle.trace_reading.proofs.Parts.{fed_both}
use Rattle.trace_reading.proofs.feeding.last_fault.Goals as goal

pub returns-in-Read-clause-fed : goal.returns-in-Read-clause-fed
returns-in-Read-clause-fed g c start fed = fed_both start c.args.pass.now c.take_failed.new.pass fed c.take_failed.ensures.fed

pub returns-in-Read-clause-other : goal.returns-in-Read-clause-other
returns-in-Read-clause-other g c differs = absurd (differs c.in-Read.is)

pub returns-in_default-clause-read : goal.returns-in_default-clause-read
returns-in_default-clause-read g c e = absurd (c.in_default.not-Read e)
