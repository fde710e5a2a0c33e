-- The decimals so far come before those of the rest.
use Rattle.std.proofs.Common.{◌≡◌, ◌++◌, drop}
use Rattle.capture_report.specs.Texts.{decimals}
use Rattle.capture_report.proofs.print.append_decimals.Given as goal

abbrev pub invariant-loop-unit : goal.invariant-loop-unit
invariant-loop-unit l = l.out.items ++ decimals (drop l.unit-index l.units) l.rest ≡ l.fn.out.items ++ decimals l.units l.nanos
