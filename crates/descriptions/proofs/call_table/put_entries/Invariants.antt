use Rattle.std.proofs.Common.{ℕ, ◌+◌, List, ◌++◌, drop}
use Rattle.std.specs.List.{enumerate_from}
use Rattle.descriptions.specs.CallSums.{sum_at}
use Rattle.descriptions.specs.Circuits.{kept_host}
use Rattle.descriptions.specs.CallTable.{AreEntries}
use Rattle.descriptions.specs.Writing.{Adds, These}
use Rattle.descriptions.proofs.call_table.put_entries.Given as goal

abbrev pub invariant-loop-index : goal.invariant-loop-index
invariant-loop-index g l = (done : List ℕ)
    × ((entries : List ℕ) → AreEntries l.form (sum_at l.sources.findings.now) (sum_at l.sources.segments_t.now) (kept_host l.sources.circuits.now) (enumerate_from (l.index + 1) (drop l.index l.sources.calls.now)) entries → AreEntries l.form (sum_at l.sources.findings.now) (sum_at l.sources.segments_t.now) (kept_host l.sources.circuits.now) (enumerate_from 1 l.sources.calls.now) (done ++ entries))
    × Adds g.O.Out.has (These done) l.fn.json.out l.json.out
