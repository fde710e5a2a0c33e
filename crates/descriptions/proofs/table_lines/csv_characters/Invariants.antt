use Rattle.std.proofs.Common.{flat_map, take}
use Rattle.descriptions.specs.CallTable.{character}
use Rattle.descriptions.specs.Writing.{Adds, These}
use Rattle.descriptions.specs.declared.call_columns.TableForm.TheVariants.{Csv}
use Rattle.descriptions.proofs.table_lines.csv_characters.Given as goal

abbrev pub invariant-loop-byte : goal.invariant-loop-byte
invariant-loop-byte g l = Adds g.O.Out.has (These (flat_map (character Csv) (take l.byte-index l.text))) l.fn.json.out l.json.out
