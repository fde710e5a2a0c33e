use Rattle.tests_text.proofs.epochs.refused.check_growth.Goals as goal

pub cut-requires-clause-lawful : goal.cut-requires-clause-lawful
cut-requires-clause-lawful g c κs within = c.in_ok-rows.ensures.lawful _
