use Rattle.std.proofs.Common.{◌∙◌, ap}
use Rattle.std.specs.Result.{result_err}
use Rattle.x25scan_c.proofs.report_reading.ReportReading.packet.Goals as goal

pub returns-clause-taken : goal.returns-clause-taken
returns-clause-taken g c text w ok = (c.live_packet-taken.ensures.taken text w.0 ok, c.err-self.ensures.value ∙ ap result_err ok)

pub returns-clause-passed : goal.returns-clause-passed
returns-clause-passed g c text w ok = (c.live_packet-taken.ensures.passed text w.0 ok, c.err-self.ensures.value ∙ ap result_err ok)
