use Rattle.std.proofs.Common.{◌≡◌, ◌++◌, length}
use Rattle.std.specs.List.{AllByRecursion, flat_map}
use Rattle.restart_epochs.specs.BlockCuts.{parts_of}
use Rattle.restart_epochs.specs.OpenRows.{rows_of, HasNoOthers}
use Rattle.restart_epochs.proofs.TakenParts.{AreTakenOut}
use Rattle.restart_epochs.proofs.block_rows.take_parts.Given as goal

abbrev pub invariant-loop-parts : goal.invariant-loop-parts
invariant-loop-parts g l = record {
  taken : AreTakenOut l.fn.table l.table l.parts.items;
  others : HasNoOthers l.table;
  rest : AllByRecursion (λ k. rows_of l.table k ≡ rows_of l.fn.table k) l.table.channels;
  rows : l.rows ≡ flat_map (rows_of l.table) l.table.channels;
  order : l.parts.items ++ parts_of (rows_of l.fn.table) l.table.channels ≡ parts_of (rows_of l.fn.table) l.fn.table.channels;
}

abbrev pub decreases-loop-parts : goal.decreases-loop-parts
decreases-loop-parts g l = length l.table.channels
