use Rattle.std.proofs.Common.{flat_map, take}
use Rattle.descriptions.specs.CallTable.{character}
use Rattle.descriptions.specs.Writing.{Adds, These}
use Rattle.descriptions.specs.declared.call_columns.TableForm.TheVariants.{Objects}
use Rattle.descriptions.proofs.json.Json.words.Given as goal

abbrev pub invariant-loop-byte : goal.invariant-loop-byte
invariant-loop-byte g l = Adds g.O.Out.has (These (flat_map (character Objects) (take l.byte-index l.bytes))) l.fn.self.out l.self.out
