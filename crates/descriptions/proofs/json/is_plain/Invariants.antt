use Rattle.std.proofs.Common.{◌≡◌, flat_map, take}
use Rattle.descriptions.specs.CallTable.{character}
use Rattle.descriptions.specs.declared.call_columns.TableForm.TheVariants.{Objects}
use Rattle.descriptions.proofs.json.is_plain.Given as goal

abbrev pub invariant-loop-byte : goal.invariant-loop-byte
invariant-loop-byte l = flat_map (character Objects) (take l.byte-index l.bytes) ≡ take l.byte-index l.bytes
