-- A digit goes from the decimals that are left to those that were written.
use Rattle.std.proofs.Common.{◌∙◌, sym}
use Rattle.capture_report.proofs.DecimalLemmas.{decimals_all, decimals_more}
use Rattle.capture_report.proofs.print.append_decimals.Goals as goal

pub loop-unit-preserved : goal.loop-unit-preserved
loop-unit-preserved c =
    decimals_more c.args.units.now c.loop-unit.unit-index c.loop-unit.rest c.in-Some.digit c.in-Some.left c.loop-unit.out.items c.push.new.self.items _ c.loop-unit-test.true (sym c.split_decimal.ensures ∙ c.in-Some.is)
    c.in_ok-push.ensures.items c.loop-unit.invariant

pub returns : goal.returns
returns c =
    decimals_all c.args.units.now c.loop-unit.unit-index c.loop-unit.rest c.loop-unit.out.items _ c.loop-unit-test.false c.loop-unit.invariant
