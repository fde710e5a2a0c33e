use Rattle.line_model.proofs.TextLemmas.{early_rows-nothing}
use Rattle.trace_reading.proofs.text_cutter.TextCutter.new.Goals as goal

pub returns : goal.returns
returns g c = record { reads = c.new.ensures; cut = early_rows-nothing }
