use Rattle.std.proofs.Common.{◌≡◌, ◌≤◌, take}
use Rattle.descriptions.specs.FindingLines.{count_of}
use Rattle.descriptions.proofs.finding_sums.count_of.Given as goal

-- the findings of the side among the first ones
abbrev pub invariant-loop-finding : goal.invariant-loop-finding
invariant-loop-finding l = record { count : l.number ≡ count_of l.fn.side (take l.finding-index l.findings); few : l.number ≤ l.finding-index }
