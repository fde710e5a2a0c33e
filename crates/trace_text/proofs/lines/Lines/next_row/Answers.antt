use Rattle.std.proofs.Common.{◌∙◌, sym, ap, arith, length-append, true}
use Rattle.std.proofs.lemmas.Grind.{common_steps}
use Rattle.trace_text.specs.Progress.{Progress}
use Rattle.trace_text.proofs.ChunkLemmas.{passed-none, row-head, takes-row}
use Rattle.trace_text.proofs.FeedLemmas.{line-headed, line-size}
use Rattle.trace_text.proofs.StepLemmas.{ended_kind-fits}
use Rattle.trace_text.specs.Steps.{with_more}
use Rattle.trace_text.proofs.RefusalLemmas.{is-running}
use Rattle.trace_text.proofs.lines.Lines.next_row.Goals as goal

pub returns-in-Some-clause-refused : goal.returns-in-Some-clause-refused
returns-in-Some-clause-refused g c text s = absurd (is-running c.args.self.now text c.in-Some.fault s (ap (λ (p : Progress). p.refused) (sym c.self.view_is) ∙ c.in-Some.is))

pub returns-in-Some-clause-known : goal.returns-in-Some-clause-known
returns-in-Some-clause-known g c text s = absurd (is-running c.args.self.now text c.in-Some.fault s (ap (λ (p : Progress). p.refused) (sym c.self.view_is) ∙ c.in-Some.is))

pub returns-in-Some-clause-header : goal.returns-in-Some-clause-header
returns-in-Some-clause-header g c text s = absurd (is-running c.args.self.now text c.in-Some.fault s (ap (λ (p : Progress). p.refused) (sym c.self.view_is) ∙ c.in-Some.is))

pub returns-in-Some-read_first-clause-ok : goal.returns-in-Some-read_first-clause-ok
returns-in-Some-read_first-clause-ok g c =
    let row = c.in-Some-read_first.ensures.0 in
    let line = c.in-Some-read_first.ensures.1 in (
      row,
      takes-row c.args.self.now c.args.self.now c.read_first.new.self row c.args.chunk.now c.args.chunk.now line.front c.in-Some-read_first.rest.now (passed-none c.args.self.now c.args.chunk.now) line.whole line.one_line line.ends,
      c.in-Some-read_first.ensures.2,
    )

pub returns-in-Some-read_first-clause-header : goal.returns-in-Some-read_first-clause-header
returns-in-Some-read_first-clause-header g c text s =
    let row = c.in-Some-read_first.ensures.0 in
    let line = c.in-Some-read_first.ensures.1 in
    row-head c.args.self.now c.read_first.new.self c.args.chunk.now c.in-Some-read_first.rest.now row
    (takes-row c.args.self.now c.args.self.now c.read_first.new.self row c.args.chunk.now c.args.chunk.now line.front c.in-Some-read_first.rest.now (passed-none c.args.self.now c.args.chunk.now) line.whole line.one_line line.ends)
    (line-headed c.args.self.now c.read_first.new.self line.front row line.ends) text s

pub returns-in-Some-read_first-clause-limit : goal.returns-in-Some-read_first-clause-limit
returns-in-Some-read_first-clause-limit g c =
    let line = c.in-Some-read_first.ensures.1 in
    let size = line-size c.args.self.now c.read_first.new.self line.front c.in-Some-read_first.ensures.0 true line.ends in
    omega (arith, size, ended_kind-fits (with_more c.args.self.now line.front) line.ends.sound, length-append c.args.self.now.begun line.front)

pub returns-in-Some-read_first-clause-size : goal.returns-in-Some-read_first-clause-size
returns-in-Some-read_first-clause-size g c = grind (arith, common_steps)

pub returns-clause-ok : goal.returns-clause-ok
returns-clause-ok g c = grind (arith, common_steps)
