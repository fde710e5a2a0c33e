use Rattle.std.proofs.Common.{◌≡◌, ◌++◌, ◌-◌}
use Rattle.std.specs.List.{range_with_len}
use Rattle.call_accounts.specs.Counted.{settings_in}
use Rattle.call_accounts.proofs.pad_table.PadTable.push_known.Given as goal

abbrev pub invariant-loop-parameter : goal.invariant-loop-parameter
invariant-loop-parameter g l = l.settings.items ++ settings_in l.pad l.self (range_with_len l.parameter (23 - l.parameter)) ≡ l.initial.settings.items ++ settings_in l.pad l.self (range_with_len 1 22)
