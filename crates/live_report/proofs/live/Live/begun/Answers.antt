use Rattle.std.proofs.Common.{refl, []}
use Rattle.line_model.proofs.TextLemmas.{early_rows-nothing}
use Rattle.live_report.proofs.ChunkLemmas.{none_last}
use Rattle.live_report.proofs.live.Live.begun.Goals as goal

pub returns-clause-represented : goal.returns-clause-represented
returns-clause-represented g c = record { reads = c.new.ensures; running = refl; observed = early_rows-nothing; keeps = tt; last = λ keeps. none_last c.new-2.result.last }

pub returns-clause-fed : goal.returns-clause-fed
returns-clause-fed g c = record { fed = λ h. ([], record { reads = c.new.ensures; running = refl; observed = early_rows-nothing; keeps = tt; last = λ keeps. none_last c.new-2.result.last }); kinds = tt }
