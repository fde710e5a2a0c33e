use Rattle.line_model.proofs.TextLemmas.{early_rows-nothing}
use Rattle.header_trials.proofs.tried_text.TriedText.new.Goals as goal

pub returns : goal.returns
returns g c = record { reads = c.new.ensures; tried = early_rows-nothing }
