use Rattle.std.proofs.Common.{ap, flat_map, refl, sym}
use Rattle.std.proofs.lemmas.Bool.{OnTrue_at}
use Rattle.std.proofs.lemmas.List.{take_all}
use Rattle.descriptions.specs.CallTable.{character}
use Rattle.descriptions.specs.declared.call_columns.TableForm.TheVariants.{Objects}
use Rattle.descriptions.proofs.MemberLemmas.{nothing_put}
use Rattle.descriptions.proofs.ValueLemmas.{flat_more, these_same, these_then}
use Rattle.descriptions.proofs.json.Json.words.Goals as goal

pub returns-then-is_plain : goal.returns-then-is_plain
returns-then-is_plain g c = these_same (sym (OnTrue_at c.if-is_plain.true c.is_plain.ensures)) c.raw.ensures

pub loop-byte-init : goal.loop-byte-init
loop-byte-init g c = nothing_put refl

pub loop-byte-preserved : goal.loop-byte-preserved
loop-byte-preserved g c = these_same (sym (flat_more (character Objects) c.args.bytes.now c.loop-byte.byte-index _ c.loop-byte-test.true)) (these_then c.loop-byte.invariant c.byte.ensures)

pub returns : goal.returns
returns g c = these_same (ap (flat_map (character Objects)) (take_all c.loop-byte.byte-index c.args.bytes.now c.loop-byte-test.false)) c.loop-byte.invariant
