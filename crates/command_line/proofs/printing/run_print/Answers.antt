use Rattle.command_line.proofs.StopLemmas.{halted, more_cause, unhalted}
use Rattle.command_line.proofs.printing.run_print.Goals as goal

pub returns-in-Ok-clause-stopped : goal.returns-in-Ok-clause-stopped
returns-in-Ok-clause-stopped g c three = unhalted c.in-Ok.summary.findings c.summary_status.result _ c.summary_status.ensures three

pub returns-in-Err-clause-stopped : goal.returns-in-Err-clause-stopped
returns-in-Err-clause-stopped g c three =
    halted c.in-Err.fault c.refuse_scan.result c.refuse_scan.ensures.status
    (more_cause _ _ _ _ _ _ c.in-Err.fault (λ failed. failed) (λ failed. failed) (λ none. absurd none) c.in-Err.ensures.cause) c.refuse_scan.ensures.said three
