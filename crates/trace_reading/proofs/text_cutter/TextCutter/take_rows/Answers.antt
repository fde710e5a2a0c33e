use Rattle.std.proofs.Common.{◌∙◌, refl, sym}
use Rattle.std.proofs.lemmas.Result.{IfOk-from_err}
use Rattle.trace_text.proofs.SourceLemmas.{passed_on}
use Rattle.line_model.specs.text.Text.{early_rows}
use Rattle.line_model.specs.packets.Says.{items_of}
use Rattle.trace_reading.proofs.BlockTakes.{at_start, block_pieces, block_taken, passes}
use Rattle.trace_reading.proofs.text_cutter.TextCutter.take_rows.Goals as goal

pub join-requires : goal.join-requires
join-requires g c =
    let f = c.in-Some.row_cutter in
    let is = sym c.take.ensures.value ∙ c.in-Some.is in
    let at = at_start c.args.start.now c.args.self.now.row_cutter f (c.if-not-is_at.ensures refl) is in
    let p = passes c.requires.0 c.requires.1 c.args.start.now c.args.self.now c.args.self.now.lines c.pass_block.new.self c.args.rows f c.requires.2 c.requires.3 refl is at
    (λ rs represented headed block span. c.pass_block.ensures.passed f.interface c.requires.0 c.requires.1 rs c.if-not-pass_block.false represented headed block span) in
    record { next = (items_of f.interface (early_rows c.requires.0), items_of f.interface p.rs, p.before, p.trace, p.cut) }

pub returns-clause-taken : goal.returns-clause-taken
returns-clause-taken g c text taken bytes read _ =
    let f = c.in-Some.row_cutter in
    let is = sym c.take.ensures.value ∙ c.in-Some.is in
    let at = at_start c.args.start.now c.args.self.now.row_cutter f (c.if-not-is_at.ensures refl) is in
    let p = passes text bytes c.args.start.now c.args.self.now c.args.self.now.lines c.pass_block.new.self c.args.rows f taken read refl is at
    (λ rs represented headed block span. c.pass_block.ensures.passed f.interface text bytes rs c.if-not-pass_block.false represented headed block span) in
    block_taken text bytes c.args.self.now.lines c.pass_block.new.self c.args.rows f c.in_ok-join.field-0 _ p (c.in_ok-join.ensures.cut (items_of f.interface (early_rows text)) p.before (items_of f.interface p.rs) p.trace p.cut) c.in_ok-join.ensures.interface refl refl

pub returns-clause-pieces : goal.returns-clause-pieces
returns-clause-pieces g c text taken bytes read _ =
    let f = c.in-Some.row_cutter in
    let is = sym c.take.ensures.value ∙ c.in-Some.is in
    let at = at_start c.args.start.now c.args.self.now.row_cutter f (c.if-not-is_at.ensures refl) is in
    let p = passes text bytes c.args.start.now c.args.self.now c.args.self.now.lines c.pass_block.new.self c.args.rows f taken read refl is at
    (λ rs represented headed block span. c.pass_block.ensures.passed f.interface text bytes rs c.if-not-pass_block.false represented headed block span) in
    block_pieces text bytes c.args.self.now.lines c.pass_block.new.self c.args.rows f c.args.pieces.now.items c.join.new.pieces.items p (c.in_ok-join.ensures.pieces (items_of f.interface (early_rows text)) p.before (items_of f.interface p.rs) p.trace p.cut)

pub returns-in_err-join-clause-taken : goal.returns-in_err-join-clause-taken
returns-in_err-join-clause-taken g c text taken bytes read = IfOk-from_err _ _ c.from_residual.ensures.0

pub returns-in_err-join-clause-pieces : goal.returns-in_err-join-clause-pieces
returns-in_err-join-clause-pieces g c text taken bytes read = IfOk-from_err _ _ c.from_residual.ensures.0

pub returns-in_err-join-clause-same : goal.returns-in_err-join-clause-same
returns-in_err-join-clause-same g c = IfOk-from_err _ _ c.from_residual.ensures.0

pub returns-in_err-join-clause-memory : goal.returns-in_err-join-clause-memory
returns-in_err-join-clause-memory g c = passed_on c.from_residual.result c.in_err-join.field-0.0 _ c.from_residual.ensures.1 c.in_err-join.ensures.memory
