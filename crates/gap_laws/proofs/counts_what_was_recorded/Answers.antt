use Rattle.gap_laws.proofs.Bounds.{bound_law}
use Rattle.gap_laws.proofs.SameEvents.{same_events_law}
use Rattle.gap_laws.proofs.TransferRows.{counting_law}
use Rattle.gap_laws.proofs.counts_what_was_recorded.Goals as goal

pub returns-clause-in_data_transfer : goal.returns-clause-in_data_transfer
returns-clause-in_data_transfer c = counting_law

pub returns-clause-sent : goal.returns-clause-sent
returns-clause-sent c = bound_law

pub returns-clause-without_a_gap : goal.returns-clause-without_a_gap
returns-clause-without_a_gap c = same_events_law
