-- The rows of a part, in a list of their own or in one with others.
use Rattle.std.specs.Prelude.{List}
use Rattle.line_model.specs.basics.Records.{Item}
use Rattle.line_model.specs.declared.part_items.PartRows.{PartRows}
use Rattle.line_model.specs.declared.part_items.PartRows.TheVariants.{Own, Shared}

abbrev pub part_rows : {A : Type 0} → PartRows A → List Item
part_rows (Own items) = items
part_rows (Shared items) = items
