use Rattle.std.proofs.Common.{◌∙◌, ap, decimal}
use Rattle.descriptions.specs.Circuits.{Host}
use Rattle.descriptions.specs.RowObjects.{number_word}
use Rattle.descriptions.specs.declared.call_columns.TableForm.TheVariants.{Objects}
use Rattle.descriptions.proofs.ObjectLemmas.{number_same}
use Rattle.descriptions.proofs.ValueLemmas.{these_same, these_then}
use Rattle.descriptions.proofs.row_objects.write_circuit.Goals as goal

pub returns : goal.returns
returns g c =
    these_then c.raw.ensures (these_then (these_same (ap decimal c.number.ensures) c.number-2.ensures) (these_then c.raw-2.ensures
    (these_then (these_same (c.number-3.ensures Objects ∙ number_same c.channel.result ∙ ap number_word c.channel.ensures) c.value.ensures.written)
    (these_then c.raw-3.ensures (these_then (these_same (c.address.ensures ∙ ap (λ (h : Host). h.address) c.end.ensures) c.raw-4.ensures)
    (these_then c.raw-5.ensures (these_then (these_same (ap decimal (c.port.ensures ∙ ap (λ (h : Host). h.port) c.end-2.ensures)) c.number-4.ensures)
    (these_then c.raw-6.ensures (these_then (these_same (c.address-2.ensures ∙ ap (λ (h : Host). h.address) c.end-3.ensures) c.raw-7.ensures)
    (these_then c.raw-8.ensures (these_then (these_same (ap decimal (c.port-2.ensures ∙ ap (λ (h : Host). h.port) c.end-4.ensures)) c.number-5.ensures) c.raw-9.ensures)))))))))))
