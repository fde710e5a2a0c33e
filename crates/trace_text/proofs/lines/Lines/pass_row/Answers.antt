use Rattle.std.proofs.Common.{◌≡◌, ◌+◌, ◌*◌, ◌∙◌, sym, ap, ap₂, arith, subst, length, ℕ, []}
use Rattle.std.specs.Prelude.{decimal}
use Rattle.std.specs.Vec.{vec_len}
use Rattle.std.proofs.lemmas.Bool.{eqb-true}
use Rattle.line_model.proofs.TextLemmas.{size_kind-none}
use Rattle.trace_text.specs.Progress.{Progress}
use Rattle.trace_text.specs.RowTexts.{row_text}
use Rattle.trace_text.specs.Represents.{TakesRow}
use Rattle.trace_text.specs.Steps.{after_line}
use Rattle.trace_text.proofs.RowTextLemmas.{passes_row}
use Rattle.trace_text.proofs.StepLemmas.{is_missing}
use Rattle.trace_text.proofs.lines.Lines.pass_row.Goals as goal

pub next_line-requires : goal.next_line-requires
next_line-requires g c =
    let fits = sym c.size_fault.ensures ∙ is_missing c.size_fault.result (sym c.if-is_some-2.ensures) in
    omega (arith, (size_kind-none c.self.inside.start 1 (c.digit_count.result + 3 + 2 * c.args.octets) fits).1)

pub returns-clause-passed : goal.returns-clause-passed
returns-clause-passed g c row plain number size bytes shown =
    let fits = sym c.size_fault.ensures ∙ is_missing c.size_fault.result (sym c.if-is_some-2.ensures) in
    let none : length c.self.inside.begun.items ≡ 0 = let none : vec_len c.self.inside.begun ≡ 0 = eqb-true (vec_len c.self.inside.begun) 0 (sym c.if-not-is_empty.ensures) in
    omega (arith, none, c.self.inside.begun.ok) in
    let kept = c.self.inside in
    let before : Progress = record { ended = kept.ended; start = kept.start; interface = kept.interface; last = kept.last; begun = kept.begun.items; refused = kept.refused } in
    let len : c.digit_count.result + 3 + 2 * c.args.octets ≡ length (decimal row.number) + 3 + 2 * length row.octets =
    omega (arith, c.digit_count.ensures.value, ap (λ n. length (decimal n)) number, size) in
    subst (λ (v : Progress). TakesRow v c.next_line.new.self (row_text row) [] row) c.self.view_is
    (passes_row before c.next_line.new.self row plain c.if-is_none.ensures none (omega (arith, c.if-number-self.false, number)) (omega (arith, c.if-number-gt-LARGEST_NUMBER.false, number)) bytes
    (omega (arith, c.if-octets-eq0.false, size)) (omega (arith, c.if-octets-gt-OCTET_LIMIT.false, size)) (rw len at fits) (c.next_line.ensures ∙ ap₂ (λ (n m : ℕ). after_line n (record before { last = m })) len (sym number)))
