use Rattle.std.proofs.Common.{◌≡◌, ◌∙◌, ◌+◌, ℕ, List, ap, arith, length, subst, sym}
use Rattle.std.specs.Prelude.{IfErr, IfSome, OnOk}
use Rattle.std.proofs.lemmas.Result.{IfOk-from_err}
use Rattle.trace_reading.specs.Readings.{IsFaultWithin, IsFedSoFar}
use Rattle.trace_reading.specs.TextBlocks.{IsPartAt}
use Rattle.trace_text.proofs.SourceLemmas.{passed_on}
use Rattle.trace_reading.proofs.Courses.{fault_wider}
use Rattle.trace_reading.proofs.Parts.{err_wider, fed_both, more_sent, ok_holds, ok_is}
use Rattle.trace_reading.proofs.taken_text.TakenText.hand_out.Goals as goal

pub returns-in_err-free_place-clause-refused : goal.returns-in_err-free_place-clause-refused
returns-in_err-free_place-clause-refused g c =
    let fault = c.in_err-free_place.field-0.0 in
    passed_on c.from_residual.result fault _ c.from_residual.ensures.1 (fault_wider g.P.TraceText.text c.args.self.now.sent (c.args.self.now.sent + length c.args.lines.items) fault (omega arith) c.in_err-free_place.ensures.refused)

pub take_ready-requires-clause-ready : goal.take_ready-requires-clause-ready
take_ready-requires-clause-ready g c = more_sent g.P.TraceText.text c.free_place.new.self.work.now.queue c.free_place.new.pass c.args.self.now.sent _ c.free_place.new.self.text c.in_ok-free_place.ensures.taken (omega (arith, c.free_place.ensures.sent))

pub returns-in_err-free_place-clause-taken : goal.returns-in_err-free_place-clause-taken
returns-in_err-free_place-clause-taken g c = IfOk-from_err _ _ c.from_residual.ensures.0

pub returns-in_err-free_place-clause-sent : goal.returns-in_err-free_place-clause-sent
returns-in_err-free_place-clause-sent g c = IfOk-from_err _ _ c.from_residual.ensures.0

-- ---- no row was read yet

pub take_lines-requires-clause-ready : goal.take_lines-requires-clause-ready
take_lines-requires-clause-ready g c = subst (λ n. IsFedSoFar g.P.TraceText.text c.free_place.new.self.work.now.queue c.free_place.new.pass n c.free_place.new.self.text) (sym c.free_place.ensures.sent) c.in_ok-free_place.ensures.taken

pub take_lines-requires-clause-place : goal.take_lines-requires-clause-place
take_lines-requires-clause-place g c = subst (λ n. IfSome g.P.TraceText.text (λ whole. IsPartAt whole n c.args.lines.items)) (sym c.free_place.ensures.sent) c.requires.place

pub returns-in_default-clause-fed : goal.returns-in_default-clause-fed
returns-in_default-clause-fed g c = fed_both c.args.pass.now c.free_place.new.pass c.take_lines.new.pass c.free_place.ensures.fed c.take_lines.ensures.fed

pub returns-in_default-clause-taken : goal.returns-in_default-clause-taken
returns-in_default-clause-taken g c = c.take_lines.ensures.taken

pub returns-in_default-clause-sent : goal.returns-in_default-clause-sent
returns-in_default-clause-sent g c = ok_is c.take_lines.result _ (c.free_place.new.self.sent + length c.args.lines.items) (c.args.self.now.sent + length c.args.lines.items) (ap (λ n. n + length c.args.lines.items) c.free_place.ensures.sent) c.take_lines.ensures.sent

pub returns-in_default-clause-refused : goal.returns-in_default-clause-refused
returns-in_default-clause-refused g c = subst (λ n. IfErr c.take_lines.result (IsFaultWithin g.P.TraceText.text (n + length c.args.lines.items))) c.free_place.ensures.sent c.take_lines.ensures.refused

-- ---- the block was handed out

pub returns-in-Ok-clause-fed : goal.returns-in-Ok-clause-fed
returns-in-Ok-clause-fed g c = fed_both c.args.pass.now c.free_place.new.pass c.take_ready.new.pass c.free_place.ensures.fed c.take_ready.ensures.fed

pub returns-in-Ok-clause-taken : goal.returns-in-Ok-clause-taken
returns-in-Ok-clause-taken g c = subst (λ n. OnOk c.take_ready.result (IsFedSoFar g.P.TraceText.text c.take_ready.new.self.work.now.queue c.take_ready.new.pass n c.take_ready.new.self.text)) (sym c.take_ready.ensures.sent) c.take_ready.ensures.taken

-- ---- it came back

pub returns-in-Err-clause-fed : goal.returns-in-Err-clause-fed
returns-in-Err-clause-fed g c = fed_both c.args.pass.now c.free_place.new.pass c.take_lines-in-Err.new.pass c.free_place.ensures.fed c.take_lines-in-Err.ensures.fed

pub take_lines-requires-in-Err-clause-ready : goal.take_lines-requires-in-Err-clause-ready
take_lines-requires-in-Err-clause-ready g c = subst (λ n. IsFedSoFar g.P.TraceText.text c.free_place.new.self.work.now.queue c.free_place.new.pass n c.free_place.new.self.text) (sym c.free_place.ensures.sent) c.in_ok-free_place.ensures.taken

pub returns-in-Err-clause-taken : goal.returns-in-Err-clause-taken
returns-in-Err-clause-taken g c = c.take_lines-in-Err.ensures.taken

pub take_lines-requires-in-Err-clause-place : goal.take_lines-requires-in-Err-clause-place
take_lines-requires-in-Err-clause-place g c =
    let bytes : c.back.inside.bytes.items ≡ c.args.lines.items = ap (λ b. b.bytes) (c.back.view_is ∙ c.in-Err.ensures.back) in
    subst (λ xs. IfSome g.P.TraceText.text (λ whole. IsPartAt whole c.free_place.new.self.sent xs)) (sym bytes) (subst (λ n. IfSome g.P.TraceText.text (λ whole. IsPartAt whole n c.args.lines.items)) (sym c.free_place.ensures.sent) c.requires.place)

pub returns-in-Err-clause-sent : goal.returns-in-Err-clause-sent
returns-in-Err-clause-sent g c =
    let bytes : c.back.inside.bytes.items ≡ c.args.lines.items = ap (λ b. b.bytes) (c.back.view_is ∙ c.in-Err.ensures.back) in
    ok_is c.take_lines-in-Err.result _ (c.free_place.new.self.sent + length c.back.inside.bytes.items) (c.args.self.now.sent + length c.args.lines.items) (ap (λ n. n + length c.back.inside.bytes.items) c.free_place.ensures.sent ∙ ap (λ (xs : List ℕ). c.args.self.now.sent + length xs) bytes) c.take_lines-in-Err.ensures.sent

pub returns-in-Err-clause-refused : goal.returns-in-Err-clause-refused
returns-in-Err-clause-refused g c =
    let bytes : c.back.inside.bytes.items ≡ c.args.lines.items = ap (λ b. b.bytes) (c.back.view_is ∙ c.in-Err.ensures.back) in
    subst (λ n. IfErr c.take_lines-in-Err.result (IsFaultWithin g.P.TraceText.text n)) (ap (λ n. n + length c.back.inside.bytes.items) c.free_place.ensures.sent ∙ ap (λ (xs : List ℕ). c.args.self.now.sent + length xs) bytes) c.take_lines-in-Err.ensures.refused

pub returns-in-Ok-clause-sent : goal.returns-in-Ok-clause-sent
returns-in-Ok-clause-sent g c = ok_holds c.take_ready.result (omega (arith, c.take_ready.ensures.sent, c.free_place.ensures.sent, c.len-len.ensures))

pub returns-in-Ok-clause-refused : goal.returns-in-Ok-clause-refused
returns-in-Ok-clause-refused g c = err_wider c.take_ready.result g.P.TraceText.text (c.free_place.new.self.sent + c.len-len.result) (c.args.self.now.sent + length c.args.lines.items) (omega (arith, c.free_place.ensures.sent, c.len-len.ensures)) c.take_ready.ensures.refused

pub overflow_cast-len : goal.overflow_cast-len
overflow_cast-len g c = omega (arith, c.len-len.ensures, c.requires.few)

pub overflow_add-self : goal.overflow_add-self
overflow_add-self g c = omega (arith, c.len-len.ensures, c.free_place.ensures.sent, c.requires.few)

pub invariant_of-block : goal.invariant_of-block
invariant_of-block g c = subst (λ n. IfSome g.P.TraceText.text (λ whole. IsPartAt whole n c.args.lines.items)) (sym c.free_place.ensures.sent) c.requires.place
