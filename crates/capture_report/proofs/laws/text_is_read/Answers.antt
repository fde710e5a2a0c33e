use Rattle.capture_report.proofs.TraceTextLemmas.{capture_law, number_law, text_law}
use Rattle.capture_report.proofs.laws.text_is_read.Goals as goal

pub returns-clause-text : goal.returns-clause-text
returns-clause-text c = text_law

pub returns-clause-numbers : goal.returns-clause-numbers
returns-clause-numbers c = number_law

pub returns-clause-capture : goal.returns-clause-capture
returns-clause-capture c = capture_law
