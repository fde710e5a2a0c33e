use Rattle.descriptions.proofs.row_members.finding_members.Goals as goal

pub returns-else-facts : goal.returns-else-facts
returns-else-facts g c = c.explanation_members.ensures
