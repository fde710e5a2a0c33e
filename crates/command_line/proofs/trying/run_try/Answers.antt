use Rattle.std.proofs.Common.{ℕ, ap, arith, Err}
use Rattle.command_line.proofs.StatusLemmas.{status_range}
use Rattle.command_line.proofs.StopLemmas.{halted, scan_cause, unhalted}
use Rattle.command_line.proofs.TryLemmas.{refused_try, tried_status}
use Rattle.command_line.proofs.trying.run_try.Goals as goal

pub returns-in-Ok-clause-status : goal.returns-in-Ok-clause-status
returns-in-Ok-clause-status g c text shown =
    tried_status text (g.S.Source.left c.try_headers.new.source) (g.S.Source.before c.try_headers.new.source) (g.K.Sink.taken c.args.sink.now) (g.K.Sink.taken c.try_headers.new.sink) _ c.in-Ok.findings c.tried_status.result
    (c.in-Ok.ensures.tried text shown) c.tried_status.ensures

pub returns-in-Err-clause-status : goal.returns-in-Err-clause-status
returns-in-Err-clause-status g c text shown =
    refused_try text (g.S.Source.left c.try_headers.new.source) (g.S.Source.before c.try_headers.new.source) (g.K.Sink.taken c.args.sink.now) (g.K.Sink.taken c.try_headers.new.sink) _ c.in-Err.fault c.refuse_scan.result
    (c.in-Err.ensures.refused text shown) (λ ne. ap g.K.Sink.taken (c.in-Err.ensures.unwritten ne)) (λ e. c.in-Err.ensures.part text shown (ap Err e)) (λ e well. omega (arith, c.in-Err.ensures.write_failed (ap Err e), well)) c.refuse_scan.ensures.status

pub returns-in-Err-clause-range : goal.returns-in-Err-clause-range
returns-in-Err-clause-range g c = status_range c.in-Err.fault c.refuse_scan.result c.refuse_scan.ensures.status

pub returns-in-Ok-clause-stopped : goal.returns-in-Ok-clause-stopped
returns-in-Ok-clause-stopped g c three = unhalted c.in-Ok.findings c.tried_status.result _ c.tried_status.ensures three

pub returns-in-Err-clause-stopped : goal.returns-in-Err-clause-stopped
returns-in-Err-clause-stopped g c three =
    halted c.in-Err.fault c.refuse_scan.result c.refuse_scan.ensures.status (scan_cause {T = ℕ} _ _ _ (Err c.in-Err.fault) c.in-Err.ensures.kinds c.in-Err.ensures.read_failed c.in-Err.ensures.write_failed) c.refuse_scan.ensures.said three
