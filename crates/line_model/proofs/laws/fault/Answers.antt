use Rattle.line_model.proofs.FinalFaults.{fault_is_final}
use Rattle.line_model.proofs.TextRows.{early_head_law, early_rows_law}
use Rattle.line_model.proofs.laws.fault.Goals as goal

pub returns-clause-stays : goal.returns-clause-stays
returns-clause-stays c text more at h = (fault_is_final text more at h).0

pub returns-clause-whole : goal.returns-clause-whole
returns-clause-whole c text more at h = (fault_is_final text more at h).1

pub returns-clause-header : goal.returns-clause-header
returns-clause-header c = early_head_law

pub returns-clause-rows : goal.returns-clause-rows
returns-clause-rows c = early_rows_law
