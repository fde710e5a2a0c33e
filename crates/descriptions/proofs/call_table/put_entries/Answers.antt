use Rattle.std.proofs.Common.{◌+◌, ◌++◌, List, ℕ, [], refl}
use Rattle.descriptions.specs.CallSums.{sum_at}
use Rattle.descriptions.specs.Circuits.{kept_host}
use Rattle.descriptions.specs.CallTable.{entry}
use Rattle.descriptions.proofs.MemberLemmas.{nothing_put}
use Rattle.descriptions.proofs.TableLemmas.{entries_end, entry_more}
use Rattle.descriptions.proofs.ValueLemmas.{these_then}
use Rattle.descriptions.proofs.call_table.put_entries.Goals as goal

pub loop-index-init : goal.loop-index-init
loop-index-init g c = ([], λ entries h. h, nothing_put refl)

pub loop-index-preserved : goal.loop-index-preserved
loop-index-preserved g c =
    let t = c.loop-index.invariant in
    let i = c.loop-index.index in
    let x = c.index-calls-index.result in
    let more : List ℕ = entry c.args.form (i + 1, x) c.further.result in (
      t.0 ++ more,
      entry_more c.args.form (sum_at c.args.sources.now.findings.now) (sum_at c.args.sources.now.segments_t.now) (kept_host c.args.sources.now.circuits.now) c.args.sources.now.calls.now i x t.0 more c.loop-index-test.true c.index-calls-index.is t.1 (record { further = c.further.result; found = c.further.ensures.findings; sent = c.further.ensures.segments; sides = c.further.ensures.sides; dte = c.further.ensures.dte; dce = c.further.ensures.dce; written = refl }),
      these_then t.2 c.put_entry.ensures,
    )

pub returns : goal.returns
returns g c =
    let t = c.loop-index.invariant in
    (t.0, entries_end c.args.form (sum_at c.args.sources.now.findings.now) (sum_at c.args.sources.now.segments_t.now) (kept_host c.args.sources.now.circuits.now) c.args.sources.now.calls.now c.loop-index.index t.0 c.loop-index-test.false t.1, t.2)
