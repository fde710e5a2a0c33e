use Rattle.annotated_trace.proofs.CommentLemmas.{always}
use Rattle.annotated_trace.proofs.MarkingLemmas.{finding_put}
use Rattle.std.proofs.Common.{◌∙◌, ap, ◌++◌}
use Rattle.std.proofs.lemmas.Result.{IfOk-from_err}
use Rattle.annotated_trace.proofs.marks.append_finding.Goals as goal
use Rattle.trace_text.proofs.FeedLemmas.{on_ok}

pub returns-clause-ok : goal.returns-clause-ok
returns-clause-ok g c =
    on_ok c.append_code.result _ _ c.append_code.ensures.ok (λ e.
    finding_put c.args.out.now.items c.extend_from_slice.new.self.items c.append_number.new.out.items c.push.new.self.items c.extend_from_slice-2.new.self.items c.push-2.new.self.items c.extend_from_slice-3.new.self.items c.push-3.new.self.items c.append_code.new.out.items _ _ _ _
    c.in_ok-extend_from_slice.ensures.items c.in_ok-append_number.ensures.ok c.in_ok-push.ensures.items
    (c.in_ok-extend_from_slice-2.ensures.items ∙ ap (λ xs. c.push.new.self.items ++ xs) c.side_word.ensures) c.in_ok-push-2.ensures.items
    (c.in_ok-extend_from_slice-3.ensures.items ∙ ap (λ xs. c.push-2.new.self.items ++ xs) c.state_word.ensures) c.in_ok-push-3.ensures.items e)

pub returns-clause-packet : goal.returns-clause-packet
returns-clause-packet g c = always c.append_code.result _ c.append_number.ensures.fits

pub returns-clause-code : goal.returns-clause-code
returns-clause-code g c = always c.append_code.result _ c.append_code.ensures.fits

pub returns-in_err-extend_from_slice : goal.returns-in_err-extend_from_slice
returns-in_err-extend_from_slice g c = record { ok = IfOk-from_err _ _ c.from_residual.ensures.0; packet = IfOk-from_err _ _ c.from_residual.ensures.0; code = IfOk-from_err _ _ c.from_residual.ensures.0 }

pub returns-in_err-append_number : goal.returns-in_err-append_number
returns-in_err-append_number g c = record { ok = IfOk-from_err _ _ c.from_residual-in_err-append_number.ensures.0; packet = IfOk-from_err _ _ c.from_residual-in_err-append_number.ensures.0; code = IfOk-from_err _ _ c.from_residual-in_err-append_number.ensures.0 }

pub returns-in_err-push : goal.returns-in_err-push
returns-in_err-push g c = record { ok = IfOk-from_err _ _ c.from_residual-in_err-push.ensures.0; packet = IfOk-from_err _ _ c.from_residual-in_err-push.ensures.0; code = IfOk-from_err _ _ c.from_residual-in_err-push.ensures.0 }

pub returns-in_err-extend_from_slice-2 : goal.returns-in_err-extend_from_slice-2
returns-in_err-extend_from_slice-2 g c = record { ok = IfOk-from_err _ _ c.from_residual-in_err-extend_from_slice-2.ensures.0; packet = IfOk-from_err _ _ c.from_residual-in_err-extend_from_slice-2.ensures.0; code = IfOk-from_err _ _ c.from_residual-in_err-extend_from_slice-2.ensures.0 }

pub returns-in_err-push-2 : goal.returns-in_err-push-2
returns-in_err-push-2 g c = record { ok = IfOk-from_err _ _ c.from_residual-in_err-push-2.ensures.0; packet = IfOk-from_err _ _ c.from_residual-in_err-push-2.ensures.0; code = IfOk-from_err _ _ c.from_residual-in_err-push-2.ensures.0 }

pub returns-in_err-extend_from_slice-3 : goal.returns-in_err-extend_from_slice-3
returns-in_err-extend_from_slice-3 g c = record { ok = IfOk-from_err _ _ c.from_residual-in_err-extend_from_slice-3.ensures.0; packet = IfOk-from_err _ _ c.from_residual-in_err-extend_from_slice-3.ensures.0; code = IfOk-from_err _ _ c.from_residual-in_err-extend_from_slice-3.ensures.0 }

pub returns-in_err-push-3 : goal.returns-in_err-push-3
returns-in_err-push-3 g c = record { ok = IfOk-from_err _ _ c.from_residual-in_err-push-3.ensures.0; packet = IfOk-from_err _ _ c.from_residual-in_err-push-3.ensures.0; code = IfOk-from_err _ _ c.from_residual-in_err-push-3.ensures.0 }
