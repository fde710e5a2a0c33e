use Rattle.std.proofs.Common.{◌≡◌, ◌+◌, ◌-◌, ◌∙◌, sym, ap, ap₂, arith, subst, length, ℕ, List, None}
use Rattle.std.proofs.lemmas.Grind.{common_steps, elements}
use Rattle.std.proofs.lemmas.Bool.{eqb-true}
use Rattle.std.specs.Vec.{vec_len}
use Rattle.line_model.specs.basics.Records.{Row}
use Rattle.trace_text.specs.Progress.{Progress}
use Rattle.trace_text.specs.Reads.{kept_row}
use Rattle.trace_text.specs.Steps.{TakesLine}
use Rattle.trace_text.proofs.BlockLemmas.{fits}
use Rattle.trace_text.proofs.RowFront.{front-few, front-line}
use Rattle.trace_text.proofs.StepLemmas.{no_bytes, takes-first}
use Rattle.trace_text.proofs.lines.Lines.read_first.Goals as goal

pub count_line-requires-clause-fits : goal.count_line-requires-clause-fits
count_line-requires-clause-fits g c =
    let none : vec_len c.self.inside.begun ≡ 0 = eqb-true (vec_len c.self.inside.begun) 0 (sym c.if-not-is_empty.ensures) in
    omega (arith, none, c.self.inside.begun.ok, c.if-self-gt-LAST_START.false, front-few c.self.inside.last c.in_ok-number.number c.in_ok-number.side c.in_ok-length.length c.args.chunk.now c.in_ok-number.digits.now c.in_ok-length.rest.now c.in_ok-number.ensures c.in_ok-length.ensures.0)

pub returns : goal.returns
returns g c =
    let none : length c.self.inside.begun.items ≡ 0 = let none : vec_len c.self.inside.begun ≡ 0 = eqb-true (vec_len c.self.inside.begun) 0 (sym c.if-not-is_empty.ensures) in
    omega (arith, none, c.self.inside.begun.ok) in
    let kept = c.self.inside in
    let front = c.in_ok-number in
    let back = c.in_ok-length in
    let written = back.ensures.0 in
    let row : Row = record { number = front.number; side = front.side; octets = written.octets; gap = None } in
    let before : Progress = record { ended = kept.ended; start = kept.start; interface = kept.interface; last = kept.last; begun = kept.begun.items; refused = kept.refused } in
    let len = length c.args.chunk.now - length back.rest.now in
    let few = front-few kept.last front.number front.side back.length c.args.chunk.now front.digits.now back.rest.now front.ensures written in
    let line = front-line kept.last front.number front.side back.length c.args.chunk.now front.digits.now back.rest.now front.ensures written in (
      row,
      subst (λ (v : Progress). TakesLine v c.count_line.new.self c.args.chunk.now back.rest.now row) c.self.view_is
          (takes-first before c.count_line.new.self c.args.chunk.now back.rest.now row line c.if-is_none.ensures none (fits kept.start (len - 1) (omega (arith, few)) (omega (arith, few, c.if-self-gt-LAST_START.false)))
          (c.count_line.ensures ∙ ap₂ (λ (n : ℕ) (xs : List ℕ). record before { ended = kept.ended + 1; start = n; last = front.number; begun = xs }) (omega (arith, few)) (no_bytes kept.begun.items none))),
      ap₂ (λ (n : ℕ) (os : List ℕ). record { number = front.number; side = front.side; length = n; octets = os; gap = None }) (sym written.count) (c.in_ok-convert_digits.ensures back.rest.now written)
          ∙ ap (λ b. kept_row b row) (sym c.if-whole.false),
    )

pub overflow_sub-chunk : goal.overflow_sub-chunk
overflow_sub-chunk g c = grind (arith, common_steps)

pub count_line-requires-clause-some : goal.count_line-requires-clause-some
count_line-requires-clause-some g c = grind (arith, elements)
