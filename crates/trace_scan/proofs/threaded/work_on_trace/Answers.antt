use Rattle.std.proofs.Common.{◌≡◌, ◌<◌, ap, subst, refl, inl, arith, rules}
use Rattle.std.specs.Prelude.{IfErr, IfOk}
use Rattle.trace_scan.specs.Threaded.{AreScanParts, IsStopped}
use Rattle.trace_scan.proofs.ThreadedLemmas.{parts_are, stopped, unfed_stopped}
use Rattle.trace_text.proofs.SourceLemmas.{passed_on}
use Rattle.trace_scan.proofs.threaded.work_on_trace.Goals as goal

pub returns-in-Ok-clause-stopped : goal.returns-in-Ok-clause-stopped
returns-in-Ok-clause-stopped g c =
    let w = c.in-Ok.ensures.worked in
    let same : c.in-Ok.worked.task.source.now ≡ c.source-1.given.0 = search rules in
    subst (λ s. IfErr c.first_fault.result (IsStopped (g.S.Source.left c.args.source.now) (g.S.Source.left s) (g.S.Source.before s))) same
    (stopped c.first_fault.result c.in-Ok.worked.task.outcome c.in-Ok.worked.gathered (g.S.Source.left c.args.source.now) (g.S.Source.left c.in-Ok.worked.task.source.now) (g.S.Source.before c.in-Ok.worked.task.source.now) _ w.0 _ c.first_fault.ensures.first w.1.1 w.2)

pub returns-in-Ok-clause-parts : goal.returns-in-Ok-clause-parts
returns-in-Ok-clause-parts g c =
    let w = c.in-Ok.ensures.worked in
    let same : c.in-Ok.worked.task.source.now ≡ c.source-1.given.0 = search rules in
    subst (λ s. IfOk c.first_fault.result (AreScanParts g.P.Plan.pieces (g.G.Gate.ran c.args.crew.gate.now) c.args.crew.workers (g.S.Source.left c.args.source.now) (g.S.Source.left s) (g.S.Source.before s))) same
    (parts_are c.first_fault.result c.in-Ok.worked.task.outcome c.in-Ok.worked.gathered g.P.Plan.pieces (g.G.Gate.ran c.args.crew.gate.now) c.args.crew.workers (g.S.Source.left c.args.source.now) (g.S.Source.left c.in-Ok.worked.task.source.now) (g.S.Source.before c.in-Ok.worked.task.source.now) _ w.0 c.first_fault.ensures.both w.1.1 w.2)

pub returns-in-Ok-clause-unasked : goal.returns-in-Ok-clause-unasked
returns-in-Ok-clause-unasked g c none =
    let w = c.in-Ok.ensures.worked in
    let same : c.in-Ok.worked.task.source.now ≡ c.source-1.given.0 = search rules in
    let called : g.S.Source.calls c.args.source.now < g.S.Source.calls c.source-1.given.0 = subst (λ s. g.S.Source.calls c.args.source.now < g.S.Source.calls s) same w.1.2 in
    absurd (omega (arith, called, none))

pub returns-in_err-queues-clause-stopped : goal.returns-in_err-queues-clause-stopped
returns-in_err-queues-clause-stopped g c =
    passed_on c.from_residual.result c.in_err-queues.field-0.0 _ c.from_residual.ensures.1
    (unfed_stopped (g.S.Source.left c.args.source.now) (g.S.Source.left c.args.source.now) (g.S.Source.before c.args.source.now) c.in_err-queues.field-0.0 refl (inl c.in_err-queues.ensures.refused))

pub returns-in_err-room-clause-stopped : goal.returns-in_err-room-clause-stopped
returns-in_err-room-clause-stopped g c =
    passed_on c.from_residual-in_err-room.result c.in_err-room.field-0.0 _ c.from_residual-in_err-room.ensures.1
    (unfed_stopped (g.S.Source.left c.args.source.now) (g.S.Source.left c.args.source.now) (g.S.Source.before c.args.source.now) c.in_err-room.field-0.0 refl (inl c.in_err-room.ensures.refused))

pub returns-clause-stopped : goal.returns-clause-stopped
returns-clause-stopped g c =
    let same : c.source-in-Err-1.given.0 ≡ c.args.source.now = search rules in
    unfed_stopped (g.S.Source.left c.args.source.now) (g.S.Source.left c.source-in-Err-1.given.0) (g.S.Source.before c.source-in-Err-1.given.0) c.in-Err.fault (ap (g.S.Source.left) same) c.in-Err.ensures.refused.1
