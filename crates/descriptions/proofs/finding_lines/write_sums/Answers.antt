use Rattle.std.proofs.Common.{[]}
use Rattle.descriptions.specs.FindingLines.{IsFindingSums}
use Rattle.descriptions.proofs.ClosingLemmas.{taken_all, taken_first}
use Rattle.descriptions.proofs.finding_lines.write_sums.Goals as goal

pub returns-clause-ok : goal.returns-clause-ok
returns-clause-ok g c =
    let added = c.put_finding_sums.ensures in
    taken_all c.finish.result.1 (IsFindingSums c.args.report.now) added.bytes g.S.LentSink.before.0 (g.S.Sink.taken c.finish.result.0) added.formed (c.finish.ensures.ok added.bytes (added.put [] c.new.ensures))

pub returns-clause-part : goal.returns-clause-part
returns-clause-part g c =
    let added = c.put_finding_sums.ensures in
    taken_first c.finish.result.1 (IsFindingSums c.args.report.now) added.bytes g.S.LentSink.before.0 (g.S.Sink.taken c.finish.result.0) added.formed (c.finish.ensures.part added.bytes (added.put [] c.new.ensures))

pub returns-clause-cause : goal.returns-clause-cause
returns-clause-cause g c =
    let added = c.put_finding_sums.ensures in
    c.finish.ensures.cause added.bytes (added.put [] c.new.ensures)
