use Rattle.std.proofs.Common.{◌≡◌, ◌∙◌, ◌++◌, ap, sym, subst, IfOk, OnOk, append-nil}
use Rattle.line_model.specs.observer.Report.{report_of}
use Rattle.live_report.specs.Observing.{AreItems, last_item}
use Rattle.live_report.specs.Uncounted.{uncounted_of}
use Rattle.live_report.proofs.TakeLemmas.{on_any}
use Rattle.live_report.proofs.observing.finish_observing.Goals as goal

pub observe_last-requires : goal.observe_last-requires
observe_last-requires g c =
    let room = c.requires.room in
    record { room = (room.0, room.1, room.2, subst (λ b. AreItems room.0 (room.1 ++ last_item room.0 b c.args.row.now)) c.if-has_row.true room.3) }

pub returns-then-has_row-clause-report : goal.returns-then-has_row-clause-report
returns-then-has_row-clause-report g c i rows s sound =
    subst (λ b. IfOk c.observe_last.result (λ report. report ≡ report_of i (rows ++ last_item i b c.args.row.now))) (sym c.if-has_row.true)
    (c.observe_last.ensures.report i rows s (subst (λ b. AreItems i (rows ++ last_item i b c.args.row.now)) c.if-has_row.true sound))

pub returns-clause-report : goal.returns-clause-report
returns-clause-report g c i rows s sound =
    subst (λ b. IfOk c.end.result (λ report. report ≡ report_of i (rows ++ last_item i b c.args.row.now))) (sym c.if-has_row.false)
    (subst (λ l. IfOk c.end.result (λ report. report ≡ report_of i l)) (sym (append-nil rows)) (c.end.ensures.report i rows s))

pub returns-then-has_row-clause-uncounted : goal.returns-then-has_row-clause-uncounted
returns-then-has_row-clause-uncounted g c i rows s sound =
    subst (λ b. OnOk c.observe_last.result (c.observe_last.new.uncounted ≡ uncounted_of i (rows ++ last_item i b c.args.row.now))) (sym c.if-has_row.true)
    (c.observe_last.ensures.uncounted i rows s (subst (λ b. AreItems i (rows ++ last_item i b c.args.row.now)) c.if-has_row.true sound))

pub returns-clause-uncounted : goal.returns-clause-uncounted
returns-clause-uncounted g c i rows s sound =
    on_any c.end.result _ (c.uncounted.ensures.walked i rows s ∙ ap (uncounted_of i) (sym (append-nil rows)) ∙ ap (λ b. uncounted_of i (rows ++ last_item i b c.args.row.now)) (sym c.if-has_row.false))
