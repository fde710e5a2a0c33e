use Rattle.std.proofs.Common.{◌++◌, refl, subst}
use Rattle.line_model.specs.text.Text.{early_rows}
use Rattle.trace_text.specs.Represents.{ReadsChunk}
use Rattle.live_report.proofs.ChunkLemmas.{ReadsRow}
use Rattle.header_trials.specs.Trials.{IsTraceUnder}
use Rattle.header_trials.proofs.TrialsLemmas.{read_under}
use Rattle.header_trials.proofs.TriedLemmas.{course_begun, course_end, course_row, next_tried}
use Rattle.header_trials.proofs.tried_text.TriedText.take_chunk.Goals as goal

pub loop-after-init : goal.loop-after-init
loop-after-init g c = λ text h. course_begun g.C.Channel text c.args.chunk.now c.args.self.now h

pub take_row-requires-clause-next : goal.take_row-requires-clause-next
take_row-requires-clause-next g c =
    let text = c.requires.0 in
    let course = c.loop-after.invariant text c.requires.1 in
    let row : ReadsRow c.loop-after.self.lines c.next_row.new.self c.loop-after.rest.now c.in-Ok-Some.after.now c.next_row.new.row = rw c.in-Ok-Some.field-0-is at c.in-Ok-Some.ensures.ok in (
      early_rows (text ++ course.read),
      row.0,
      next_tried g.C.Channel (text ++ course.read) c.loop-after.rest.now c.loop-after.self c.next_row.new.self course.taken (c.in-Ok-Some.ensures.header (text ++ course.read) course.taken.reads),
      row.2,
      subst (IsTraceUnder c.next_row.new.self.interface) (row.1.rows (text ++ course.read) course.taken.reads) (read_under c.next_row.new.self ((text ++ course.read) ++ row.1.taken) (row.1.represented (text ++ course.read) course.taken.reads)),
    )

pub loop-after-preserved : goal.loop-after-preserved
loop-after-preserved g c = λ text h.
    let course = c.loop-after.invariant text h in
    let row : ReadsRow c.loop-after.self.lines c.next_row.new.self c.loop-after.rest.now c.in-Ok-Some.after.now c.next_row.new.row = rw c.in-Ok-Some.field-0-is at c.in-Ok-Some.ensures.ok in
    course_row g.C.Channel text c.args.chunk.now c.loop-after.rest.now c.in-Ok-Some.after.now c.next_row.new.row c.next_row.new.self c.loop-after.self c.take_row.new.self course c.in_ok-take_row-in-Ok-Some.ensures.lines row
    (c.in_ok-take_row-in-Ok-Some.ensures.tried (early_rows (text ++ course.read)) row.0
    (next_tried g.C.Channel (text ++ course.read) c.loop-after.rest.now c.loop-after.self c.next_row.new.self course.taken (c.in-Ok-Some.ensures.header (text ++ course.read) course.taken.reads))
    row.2 (subst (IsTraceUnder c.next_row.new.self.interface) (row.1.rows (text ++ course.read) course.taken.reads) (read_under c.next_row.new.self ((text ++ course.read) ++ row.1.taken) (row.1.represented (text ++ course.read) course.taken.reads))))

pub returns-in-Ok-None-clause-taken : goal.returns-in-Ok-None-clause-taken
returns-in-Ok-None-clause-taken g c text h =
    let course = c.loop-after.invariant text h in
    let ends : ReadsChunk c.loop-after.self.lines c.next_row.new.self c.loop-after.rest.now = rw c.in-Ok-None.field-0-is at c.in-Ok-None.ensures.ok in
    course_end g.C.Channel text c.args.chunk.now c.loop-after.rest.now c.loop-after.self _ course ends (c.in-Ok-None.ensures.header (text ++ course.read) course.taken.reads) refl
