use Rattle.command_line.proofs.CopyLemmas.{copied_status, refused_copy}
use Rattle.command_line.proofs.StopLemmas.{halted, more_cause}
use Rattle.command_line.proofs.copying.run_copy.Goals as goal

pub returns-in-Ok-clause-status : goal.returns-in-Ok-clause-status
returns-in-Ok-clause-status g c text shown = copied_status text (g.K.Sink.taken c.args.sink.now) (g.K.Sink.taken c.copy.new.sink) _ _ (c.in-Ok.ensures.copied text shown) c.copied_status.ensures

pub returns-in-Err-clause-status : goal.returns-in-Err-clause-status
returns-in-Err-clause-status g c text shown =
    refused_copy text (g.K.Sink.taken c.args.sink.now) (g.K.Sink.taken c.copy.new.sink) c.in-Err.fault c.refuse_scan.result (c.in-Err.ensures.copied text shown) c.refuse_scan.ensures.status

pub returns-in-Err-clause-stopped : goal.returns-in-Err-clause-stopped
returns-in-Err-clause-stopped g c three =
    halted c.in-Err.fault c.refuse_scan.result c.refuse_scan.ensures.status
    (more_cause _ _ _ _ _ _ c.in-Err.fault (λ failed. failed) (λ failed. failed) (λ none. absurd none) c.in-Err.ensures.cause) c.refuse_scan.ensures.said three
