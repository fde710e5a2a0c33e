use Rattle.std.proofs.Common.{[]}
use Rattle.descriptions.specs.CallSums.{sum_at}
use Rattle.descriptions.specs.Circuits.{kept_host}
use Rattle.descriptions.specs.CallTable.{IsCallTable}
use Rattle.descriptions.proofs.ClosingLemmas.{taken_all, taken_first}
use Rattle.descriptions.proofs.ValueLemmas.{table_put, these_same}
use Rattle.descriptions.proofs.call_table.write_table.Goals as goal

pub returns-clause-ok : goal.returns-clause-ok
returns-clause-ok g c =
    let t = c.put_entries.ensures in
    let added = table_put c.args.form (sum_at c.args.sources.now.findings.now) (sum_at c.args.sources.now.segments_t.now) (kept_host c.args.sources.now.circuits.now) c.args.sources.now.calls.now t.0 t.1 (these_same c.heading.ensures c.raw.ensures) t.2 in
    taken_all c.finish.result.1 (IsCallTable c.args.form (sum_at c.args.sources.now.findings.now) (sum_at c.args.sources.now.segments_t.now) (kept_host c.args.sources.now.circuits.now) c.args.sources.now.calls.now) added.bytes g.S.LentSink.before.0 (g.S.Sink.taken c.finish.result.0) added.formed (c.finish.ensures.ok added.bytes (added.put [] c.new.ensures))

pub returns-clause-part : goal.returns-clause-part
returns-clause-part g c =
    let t = c.put_entries.ensures in
    let added = table_put c.args.form (sum_at c.args.sources.now.findings.now) (sum_at c.args.sources.now.segments_t.now) (kept_host c.args.sources.now.circuits.now) c.args.sources.now.calls.now t.0 t.1 (these_same c.heading.ensures c.raw.ensures) t.2 in
    taken_first c.finish.result.1 (IsCallTable c.args.form (sum_at c.args.sources.now.findings.now) (sum_at c.args.sources.now.segments_t.now) (kept_host c.args.sources.now.circuits.now) c.args.sources.now.calls.now) added.bytes g.S.LentSink.before.0 (g.S.Sink.taken c.finish.result.0) added.formed (c.finish.ensures.part added.bytes (added.put [] c.new.ensures))

pub returns-clause-cause : goal.returns-clause-cause
returns-clause-cause g c =
    let t = c.put_entries.ensures in
    let added = table_put c.args.form (sum_at c.args.sources.now.findings.now) (sum_at c.args.sources.now.segments_t.now) (kept_host c.args.sources.now.circuits.now) c.args.sources.now.calls.now t.0 t.1 (these_same c.heading.ensures c.raw.ensures) t.2 in
    c.finish.ensures.cause added.bytes (added.put [] c.new.ensures)
