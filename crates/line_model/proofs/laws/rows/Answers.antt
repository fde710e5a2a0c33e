use Rattle.line_model.proofs.TextRows.{first_rows_law, rows_law}
use Rattle.line_model.proofs.laws.rows.Goals as goal

pub returns-clause-all : goal.returns-clause-all
returns-clause-all c = rows_law

pub returns-clause-first : goal.returns-clause-first
returns-clause-first c = first_rows_law
