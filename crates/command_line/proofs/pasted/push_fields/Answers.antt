use Rattle.std.proofs.Common.{refl}
use Rattle.explanations.specs.Table.{rows}
use Rattle.command_line.proofs.PastedLemmas.{fields_end, fields_turn, words_end}
use Rattle.command_line.proofs.pasted.push_fields.Goals as goal

pub loop-field-init : goal.loop-field-init
loop-field-init c = refl

pub loop-field-preserved : goal.loop-field-preserved
loop-field-preserved c =
    fields_turn c.args.fields.now c.loop-field.field-index _ c.loop-field.words c.next.new.self c.in-Some.word.now (rows c.args.table.now) c.loop-field.found.items _ _
    c.loop-field-test.true c.in-Some.ensures c.in_ok-push_word-in-Some.ensures c.loop-field.invariant

pub returns-in-None : goal.returns-in-None
returns-in-None c =
    words_end c.args.fields.now c.loop-field.field-index c.loop-field.words (rows c.args.table.now) c.loop-field.found.items _ c.in-None.ensures.0 c.loop-field.invariant

pub returns : goal.returns
returns c =
    fields_end c.args.fields.now c.loop-field.field-index c.loop-field.words (rows c.args.table.now) c.loop-field.found.items _ c.loop-field-test.false c.loop-field.invariant
