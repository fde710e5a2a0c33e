-- A read that fails gives nothing.
use Rattle.std.proofs.lemmas.Result.{IfOk-from_err}
use Rattle.capture_report.proofs.reader_source.ReaderSource.read_latest.Goals as goal

pub returns-in_err-count-clause-given : goal.returns-in_err-count-clause-given
returns-in_err-count-clause-given g c = IfOk-from_err _ _ c.from_residual-in_err-count.ensures.0

pub returns-in_err-resize-clause-given : goal.returns-in_err-resize-clause-given
returns-in_err-resize-clause-given g c = IfOk-from_err _ _ c.from_residual.ensures.0
