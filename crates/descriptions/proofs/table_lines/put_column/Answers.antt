use Rattle.std.proofs.Common.{◌++◌, ◌∙◌, ap, append-nil, sym}
use Rattle.std.specs.Prelude.{codes}
use Rattle.descriptions.specs.CallTable.{cell_text, column}
use Rattle.descriptions.specs.declared.call_columns.TableForm.TheVariants.{Objects}
use Rattle.descriptions.proofs.ValueLemmas.{these_same, these_then}
use Rattle.descriptions.proofs.table_lines.put_column.Goals as goal

pub returns-in-Csv : goal.returns-in-Csv
returns-in-Csv g c =
    these_same (ap (λ form. column form c.args.column.now.name.now (cell_text form c.args.column.now.cell)) (sym c.in-Csv.is)) (these_then c.raw.ensures c.csv_value.ensures)

pub returns-in-Objects : goal.returns-in-Objects
returns-in-Objects g c =
    these_same (ap (λ text. codes ",\"" ++ (c.args.column.now.name.now ++ (codes "\":" ++ text))) (sym (append-nil (cell_text Objects c.args.column.now.cell))) ∙ ap (λ form. column form c.args.column.now.name.now (cell_text form c.args.column.now.cell)) (sym c.in-Objects.is))
    (these_then c.raw-in-Objects.ensures (these_then c.raw-in-Objects-2.ensures (these_then c.raw-in-Objects-3.ensures c.value.ensures.written)))
