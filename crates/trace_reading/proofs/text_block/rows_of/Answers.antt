use Rattle.std.proofs.Common.{◌∙◌, ◌++◌, refl}
use Rattle.line_model.specs.packets.Says.{items_of}
use Rattle.line_model.specs.text.Text.{early_rows}
use Rattle.trace_reading.specs.TextBlocks.{HasReadTo}
use Rattle.trace_reading.proofs.BlockReads.{read_as, read_heading, cut_under}
use Rattle.trace_reading.proofs.text_block.rows_of.Goals as goal

pub returns : goal.returns
returns g c =
    let start = c.args.start.now in
    let at = c.at_rows-lines.ensures in
    let text = at.heading ++ c.args.bytes.now in
    let same = c.add_lines.ensures.interface ∙ c.new-rows.ensures.interface in
    let to : HasReadTo start.machine text c.add_lines.new.lines c.add_lines.new.self =
    c.in-Ok.ensures.added start.machine at.heading (read_heading start.machine start.interface c.at_rows-lines.result c.new-rows.result at c.new-rows.ensures.none) in
    let items = items_of start.interface (early_rows text) in
    read_as start at.heading c.args.bytes.now c.in_ok-span.span (record { span = c.in_ok-span.span; cut = c.in-Ok-end.cut })
    (c.in_ok-span.ensures.span start.interface at.heading c.args.bytes.now at.is to.reads to.rows.first) refl
    (c.in-Ok-end.ensures start.machine items (cut_under start.machine start.interface text c.add_lines.new.lines c.add_lines.new.self same to))
