use Rattle.std.proofs.Common.{◌∙◌, append-nil, sym}
use Rattle.descriptions.specs.CallTable.{after_call}
use Rattle.descriptions.proofs.ValueLemmas.{these_same, these_then}
use Rattle.descriptions.proofs.table_lines.put_entry.Goals as goal

pub returns : goal.returns
returns g c =
    let form = c.args.form in
    these_then (these_same c.before_call.ensures c.raw.ensures) (these_then c.number.ensures (these_then (these_same (c.place_columns.ensures form) c.put_columns.ensures) (these_then (these_same (c.span_columns.ensures form) c.put_columns-2.ensures)
    (these_then (these_same (c.cause_columns.ensures form) c.put_columns-3.ensures) (these_then (these_same (c.data_columns.ensures form) c.put_columns-4.ensures) (these_then (these_same (c.last_columns.ensures form) c.put_columns-5.ensures)
    (these_then (these_same (c.circuit_columns.ensures form) c.put_columns-6.ensures) (these_same (c.after_call.ensures ∙ sym (append-nil (after_call form))) c.raw-2.ensures))))))))
