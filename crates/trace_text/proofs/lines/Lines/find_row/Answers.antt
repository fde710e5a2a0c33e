use Rattle.std.proofs.Common.{ap, subst, sym, ℕ, List, Option, ◌++◌}
use Rattle.std.proofs.lemmas.Result.{err_from_is_err_and}
use Rattle.std.specs.Borrow.{Bor}
use Rattle.trace_text.specs.Progress.{Progress}
use Rattle.trace_text.specs.Reads.{whole_row}
use Rattle.trace_text.proofs.ChunkLemmas.{Passed, head-so-far, known-so-far, passed-more, passed-taken, reads-chunk, row-head, takes-row, whole_chunk, whole_chunk_lf}
use Rattle.trace_text.proofs.FeedLemmas.{begin-refused-all, line-fault, line-headed, line-refused, refused-line}
use Rattle.trace_text.proofs.RefusalLemmas.{head_represents}
use Rattle.trace_text.proofs.lines.Lines.find_row.Goals as goal

pub returns-then-branch-clause-ok : goal.returns-then-branch-clause-ok
returns-then-branch-clause-ok g c =
    let passed = subst (λ (v : Progress). Passed c.args.self.now v c.args.chunk.now c.loop-after.rest.now) (sym c.in_default.ensures) c.loop-after.invariant in (
      whole_row c.end_line.new.row,
      takes-row c.args.self.now c.read_first.new.self c.end_line.new.self (whole_row c.end_line.new.row) c.args.chunk.now c.loop-after.rest.now c.in-Some-split_at_byte.front.now c.in-Some-split_at_byte.back.now
          passed c.in-Some-split_at_byte.ensures.0 c.in-Some-split_at_byte.ensures.1 (rw c.if-branch.true at c.in_ok-end_line.ensures.ok),
      c.drop_unread.ensures,
    )

pub returns-then-branch-clause-header : goal.returns-then-branch-clause-header
returns-then-branch-clause-header g c text s =
    let passed = subst (λ (v : Progress). Passed c.args.self.now v c.args.chunk.now c.loop-after.rest.now) (sym c.in_default.ensures) c.loop-after.invariant in
    let line = rw c.if-branch.true at c.in_ok-end_line.ensures.ok in
    row-head c.args.self.now c.end_line.new.self c.args.chunk.now c.in-Some-split_at_byte.back.now (whole_row c.end_line.new.row)
    (takes-row c.args.self.now c.read_first.new.self c.end_line.new.self (whole_row c.end_line.new.row) c.args.chunk.now c.loop-after.rest.now c.in-Some-split_at_byte.front.now c.in-Some-split_at_byte.back.now passed c.in-Some-split_at_byte.ensures.0 c.in-Some-split_at_byte.ensures.1 line)
    (line-headed c.read_first.new.self c.end_line.new.self c.in-Some-split_at_byte.front.now (whole_row c.end_line.new.row) line) text s

pub loop-after-preserved : goal.loop-after-preserved
loop-after-preserved g c =
    let passed = subst (λ (v : Progress). Passed c.args.self.now v c.args.chunk.now c.loop-after.rest.now) (sym c.in_default.ensures) c.loop-after.invariant in
    passed-more c.args.self.now c.read_first.new.self c.end_line.new.self (whole_row c.end_line.new.row) c.args.chunk.now c.loop-after.rest.now c.in-Some-split_at_byte.front.now c.in-Some-split_at_byte.back.now
    passed c.in-Some-split_at_byte.ensures.0 c.in-Some-split_at_byte.ensures.1 (rw c.if-branch.false at c.in_ok-end_line.ensures.ok)

pub returns-in_err-end_line-clause-refused : goal.returns-in_err-end_line-clause-refused
returns-in_err-end_line-clause-refused g c text s =
    let passed = subst (λ (v : Progress). Passed c.args.self.now v c.args.chunk.now c.loop-after.rest.now) (sym c.in_default.ensures) c.loop-after.invariant in
    let exit = err_from_is_err_and c.from_residual.result c.from_residual.ensures.1 in
    rw (exit.1, exit.2)
    (rw (whole_chunk_lf text passed.fed c.loop-after.rest.now c.in-Some-split_at_byte.front.now c.in-Some-split_at_byte.back.now c.args.chunk.now passed.whole c.in-Some-split_at_byte.ensures.0)
    at (line-refused c.read_first.new.self (text ++ passed.fed) c.in-Some-split_at_byte.front.now c.in-Some-split_at_byte.back.now c.in_err-end_line.field-0.0 (passed.represented text s) c.in-Some-split_at_byte.ensures.1 c.in_err-end_line.ensures.refused))

pub returns-in_err-end_line-clause-known : goal.returns-in_err-end_line-clause-known
returns-in_err-end_line-clause-known g c text s =
    let passed = subst (λ (v : Progress). Passed c.args.self.now v c.args.chunk.now c.loop-after.rest.now) (sym c.in_default.ensures) c.loop-after.invariant in
    let exit = err_from_is_err_and c.from_residual.result c.from_residual.ensures.1 in
    rw (exit.1, exit.2)
    (known-so-far c.args.self.now c.read_first.new.self c.args.chunk.now c.loop-after.rest.now c.in_err-end_line.field-0.0 passed text s (refused-line _ _ c.in_err-end_line.field-0.0 c.in_err-end_line.ensures.refused)
    (line-fault c.read_first.new.self (text ++ passed.fed) c.loop-after.rest.now c.in-Some-split_at_byte.front.now c.in-Some-split_at_byte.back.now c.in_err-end_line.field-0.0 c.in-Some-split_at_byte.ensures.0 (passed.represented text s) c.in-Some-split_at_byte.ensures.1 c.in_err-end_line.ensures.refused))

pub returns-in_err-end_line-clause-header : goal.returns-in_err-end_line-clause-header
returns-in_err-end_line-clause-header g c text s =
    let passed = subst (λ (v : Progress). Passed c.args.self.now v c.args.chunk.now c.loop-after.rest.now) (sym c.in_default.ensures) c.loop-after.invariant in
    let exit = err_from_is_err_and c.from_residual.result c.from_residual.ensures.1 in
    rw (exit.1, exit.2)
    (head-so-far (Option (Bor (List ℕ))) c.args.self.now c.read_first.new.self c.args.chunk.now c.loop-after.rest.now c.in_err-end_line.field-0.0 c.end_line.new.self.interface (passed-taken passed) text s (refused-line _ _ c.in_err-end_line.field-0.0 c.in_err-end_line.ensures.refused)
    (line-fault c.read_first.new.self (text ++ passed.fed) c.loop-after.rest.now c.in-Some-split_at_byte.front.now c.in-Some-split_at_byte.back.now c.in_err-end_line.field-0.0 c.in-Some-split_at_byte.ensures.0 (passed.represented text s) c.in-Some-split_at_byte.ensures.1 c.in_err-end_line.ensures.refused)
    c.in_err-end_line.ensures.kept)

pub returns-clause-ok : goal.returns-clause-ok
returns-clause-ok g c =
    let passed = subst (λ (v : Progress). Passed c.args.self.now v c.args.chunk.now c.loop-after.rest.now) (sym c.in_default.ensures) c.loop-after.invariant in
    reads-chunk c.args.self.now c.read_first.new.self c.begin.new.self c.args.chunk.now c.loop-after.rest.now passed c.in_default-split_at_byte.ensures c.in_ok-begin.ensures.ok c.in_ok-begin.ensures.sound

pub returns-clause-header : goal.returns-clause-header
returns-clause-header g c text s =
    let passed = subst (λ (v : Progress). Passed c.args.self.now v c.args.chunk.now c.loop-after.rest.now) (sym c.in_default.ensures) c.loop-after.invariant in
    let read = reads-chunk c.args.self.now c.read_first.new.self c.begin.new.self c.args.chunk.now c.loop-after.rest.now passed c.in_default-split_at_byte.ensures c.in_ok-begin.ensures.ok c.in_ok-begin.ensures.sound in
    head_represents c.begin.new.self (text ++ c.args.chunk.now) (read.represented text s)

pub returns-in_err-begin-clause-refused : goal.returns-in_err-begin-clause-refused
returns-in_err-begin-clause-refused g c text s =
    let passed = subst (λ (v : Progress). Passed c.args.self.now v c.args.chunk.now c.loop-after.rest.now) (sym c.in_default.ensures) c.loop-after.invariant in
    let exit = err_from_is_err_and c.from_residual-in_err-begin.result c.from_residual-in_err-begin.ensures.1 in
    rw (exit.1, exit.2)
    (rw (whole_chunk text passed.fed c.loop-after.rest.now c.args.chunk.now passed.whole)
    at (begin-refused-all c.read_first.new.self (text ++ passed.fed) c.loop-after.rest.now c.in_err-begin.field-0.0 (passed.represented text s) c.in_default-split_at_byte.ensures c.in_err-begin.ensures.refused))

pub returns-in_err-begin-clause-known : goal.returns-in_err-begin-clause-known
returns-in_err-begin-clause-known g c text s =
    let passed = subst (λ (v : Progress). Passed c.args.self.now v c.args.chunk.now c.loop-after.rest.now) (sym c.in_default.ensures) c.loop-after.invariant in
    let exit = err_from_is_err_and c.from_residual-in_err-begin.result c.from_residual-in_err-begin.ensures.1 in
    rw (exit.1, exit.2)
    (known-so-far c.args.self.now c.read_first.new.self c.args.chunk.now c.loop-after.rest.now c.in_err-begin.field-0.0 passed text s (refused-line _ _ c.in_err-begin.field-0.0 c.in_err-begin.ensures.refused)
    (begin-refused-all c.read_first.new.self (text ++ passed.fed) c.loop-after.rest.now c.in_err-begin.field-0.0 (passed.represented text s) c.in_default-split_at_byte.ensures c.in_err-begin.ensures.refused))

pub returns-in_err-begin-clause-header : goal.returns-in_err-begin-clause-header
returns-in_err-begin-clause-header g c text s =
    let passed = subst (λ (v : Progress). Passed c.args.self.now v c.args.chunk.now c.loop-after.rest.now) (sym c.in_default.ensures) c.loop-after.invariant in
    let exit = err_from_is_err_and c.from_residual-in_err-begin.result c.from_residual-in_err-begin.ensures.1 in
    rw (exit.1, exit.2)
    (head-so-far (Option (Bor (List ℕ))) c.args.self.now c.read_first.new.self c.args.chunk.now c.loop-after.rest.now c.in_err-begin.field-0.0 c.begin.new.self.interface (passed-taken passed) text s (refused-line _ _ c.in_err-begin.field-0.0 c.in_err-begin.ensures.refused)
    (begin-refused-all c.read_first.new.self (text ++ passed.fed) c.loop-after.rest.now c.in_err-begin.field-0.0 (passed.represented text s) c.in_default-split_at_byte.ensures c.in_err-begin.ensures.refused)
    (ap (λ (q : Progress). q.interface) c.in_err-begin.ensures.same))

pub returns-in-Some-clause-ok : goal.returns-in-Some-clause-ok
returns-in-Some-clause-ok g c =
    let row = c.in-Some.ensures.0 in
    let line = c.in-Some.ensures.1 in (
      row,
      takes-row c.args.self.now c.loop-after.self c.read_first.new.self row c.args.chunk.now c.loop-after.rest.now line.front c.in-Some.after.now c.loop-after.invariant line.whole line.one_line line.ends,
      c.in-Some.ensures.2,
    )

pub returns-in-Some-clause-header : goal.returns-in-Some-clause-header
returns-in-Some-clause-header g c text s =
    let row = c.in-Some.ensures.0 in
    let line = c.in-Some.ensures.1 in
    row-head c.args.self.now c.read_first.new.self c.args.chunk.now c.in-Some.after.now row
    (takes-row c.args.self.now c.loop-after.self c.read_first.new.self row c.args.chunk.now c.loop-after.rest.now line.front c.in-Some.after.now c.loop-after.invariant line.whole line.one_line line.ends)
    (line-headed c.loop-after.self c.read_first.new.self line.front row line.ends) text s
