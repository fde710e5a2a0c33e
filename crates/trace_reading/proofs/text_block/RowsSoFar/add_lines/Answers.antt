use Rattle.std.proofs.Common.{◌∙◌, refl}
use Rattle.live_report.proofs.ChunkLemmas.{ReadsRow}
use Rattle.trace_text.specs.Represents.{ReadsChunk}
use Rattle.trace_reading.proofs.BlockReads.{read_end, read_none, row_read}
use Rattle.trace_reading.proofs.text_block.RowsSoFar.add_lines.Goals as goal

pub loop-after-init : goal.loop-after-init
loop-after-init g c = record {
  same = refl;
  read = λ l text to. read_none l text c.args.bytes.now c.args.lines.now c.args.self.now to;
}

pub loop-after-preserved : goal.loop-after-preserved
loop-after-preserved g c =
    let inv = c.loop-after.invariant in
    let row : ReadsRow c.loop-after.lines c.next_row.new.self c.loop-after.rest.now c.in-Some.after.now c.next_row.new.row = rw c.in-Some.is at c.in_ok-after.ensures.ok in
    record {
      same = c.in_ok-add.ensures.interface ∙ inv.same;
      read = λ l text to. row_read l text c.args.bytes.now c.loop-after.rest.now c.in-Some.after.now c.next_row.new.row c.loop-after.lines c.next_row.new.self c.loop-after.self c.add.new.self (inv.read l text to) row (λ rs last are is. c.in_ok-add.ensures.added l rs last are is);
    }

pub returns-clause-added : goal.returns-clause-added
returns-clause-added g c l text to =
    let end : ReadsChunk c.loop-after.lines c.next_row.new.self c.loop-after.rest.now = rw c.in_default.is at c.in_ok-after.ensures.ok in
    read_end l text c.args.bytes.now c.loop-after.rest.now c.loop-after.lines c.next_row.new.self c.loop-after.self (c.loop-after.invariant.read l text to) end
