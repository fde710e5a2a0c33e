use Rattle.std.proofs.Common.{subst, sym, List}
use Rattle.std.proofs.lemmas.Result.{IfOk-from_err}
use Rattle.line_model.specs.declared.event.Event.{Event}
use Rattle.live_report.specs.JudgedRows.{IsJudgedRow, judged_row}
use Rattle.live_report.specs.Effects.{with_data}
use Rattle.live_report.proofs.observer.Observer.keep.Goals as goal

pub returns-then-not-self-clause-uncounted : goal.returns-then-not-self-clause-uncounted
returns-then-not-self-clause-uncounted g c i epoch earlier known same few before =
    let judged : List Event → Type 0 = λ es. IsJudgedRow i earlier c.args.item.now (judged_row c.args.item.now c.args.outcome.now) (with_data epoch c.args.outcome.now.judge c.args.item.now es) in
    c.take.ensures i epoch earlier (subst judged (sym c.as_slice.ensures.value) known) same few before

pub returns-clause-uncounted : goal.returns-clause-uncounted
returns-clause-uncounted g c i epoch earlier known same few before =
    let judged : List Event → Type 0 = λ es. IsJudgedRow i earlier c.args.item.now (judged_row c.args.item.now c.args.outcome.now) (with_data epoch c.args.outcome.now.judge c.args.item.now es) in
    c.take.ensures i epoch earlier (subst judged (sym c.as_slice.ensures.value) known) same few before

pub returns-in_err-list_accepted-clause-rest : goal.returns-in_err-list_accepted-clause-rest
returns-in_err-list_accepted-clause-rest g c = IfOk-from_err _ _ c.from_residual.ensures.0

pub returns-in_err-list_accepted-clause-uncounted : goal.returns-in_err-list_accepted-clause-uncounted
returns-in_err-list_accepted-clause-uncounted g c i epoch earlier known same few before = IfOk-from_err _ _ c.from_residual.ensures.0

pub returns-in_err-list_accepted-clause-last : goal.returns-in_err-list_accepted-clause-last
returns-in_err-list_accepted-clause-last g c keeps = IfOk-from_err _ _ c.from_residual.ensures.0

pub returns-in_err-list_accepted-clause-events : goal.returns-in_err-list_accepted-clause-events
returns-in_err-list_accepted-clause-events g c keeps = IfOk-from_err _ _ c.from_residual.ensures.0
