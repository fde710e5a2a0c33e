use Rattle.std.proofs.Common.{ap, flat_map, refl, sym}
use Rattle.std.proofs.lemmas.List.{take_all}
use Rattle.descriptions.specs.CallTable.{character}
use Rattle.descriptions.specs.declared.call_columns.TableForm.TheVariants.{Csv}
use Rattle.descriptions.proofs.MemberLemmas.{nothing_put}
use Rattle.descriptions.proofs.ValueLemmas.{flat_more, these_same, these_then}
use Rattle.descriptions.proofs.table_lines.csv_characters.Goals as goal

pub loop-byte-init : goal.loop-byte-init
loop-byte-init g c = nothing_put refl

pub loop-byte-preserved : goal.loop-byte-preserved
loop-byte-preserved g c = these_same (sym (flat_more (character Csv) c.args.text.now c.loop-byte.byte-index _ c.loop-byte-test.true)) (these_then c.loop-byte.invariant c.csv_character.ensures)

pub returns : goal.returns
returns g c = these_same (ap (flat_map (character Csv)) (take_all c.loop-byte.byte-index c.args.text.now c.loop-byte-test.false)) c.loop-byte.invariant
