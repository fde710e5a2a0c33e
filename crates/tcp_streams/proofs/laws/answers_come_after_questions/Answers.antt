-- By the law.
use Rattle.tcp_streams.proofs.Events.{first_goes}
use Rattle.tcp_streams.proofs.laws.answers_come_after_questions.Goals as goal

pub returns : goal.returns
returns c = first_goes
