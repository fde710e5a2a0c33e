use Rattle.std.proofs.lemmas.Grind.{common_steps}
use Rattle.std.proofs.Common.{rules, arith}
use Rattle.packet_decode.proofs.facility.Asked.with.Goals as goal

pub returns-in-1-clause-value : goal.returns-in-1-clause-value
returns-in-1-clause-value c = search rules

pub returns-then-is_bad_size-clause-value : goal.returns-then-is_bad_size-clause-value
returns-then-is_bad_size-clause-value c = search rules

pub returns-else-is_bad_size-clause-value : goal.returns-else-is_bad_size-clause-value
returns-else-is_bad_size-clause-value c = search rules

pub returns-else-is_bad_size-clause-in_range : goal.returns-else-is_bad_size-clause-in_range
returns-else-is_bad_size-clause-in_range c = grind (arith, common_steps)

pub returns-else-is_bad_window-clause-in_range : goal.returns-else-is_bad_window-clause-in_range
returns-else-is_bad_window-clause-in_range c = grind (arith, common_steps)
