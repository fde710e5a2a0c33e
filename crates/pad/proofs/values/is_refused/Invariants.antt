use Rattle.std.proofs.Common.{◌≡◌}
use Rattle.std.specs.List.{list_any}
use Rattle.line_model.specs.channels.Pad.{is_refusable}
use Rattle.pad.proofs.values.is_refused.Given as goal

abbrev pub invariant-loop-pair : goal.invariant-loop-pair
invariant-loop-pair l = list_any is_refusable l.pair-iterator ≡ list_any is_refusable l.fn.pairs
