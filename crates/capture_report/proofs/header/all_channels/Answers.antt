use Rattle.trace_text.proofs.HeaderLemmas.{interface_with-some}
use Rattle.capture_report.specs.Headers.{all_channels}
use Rattle.capture_report.proofs.header.all_channels.Goals as goal

pub returns : goal.returns
returns c = interface_with-some (all_channels c.args.modulus) _
