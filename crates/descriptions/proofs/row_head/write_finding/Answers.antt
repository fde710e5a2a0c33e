use Rattle.std.proofs.Common.{◌∙◌, ap, append-nil, sym}
use Rattle.descriptions.specs.RowObjects.{finding_word, number_word}
use Rattle.descriptions.specs.declared.call_columns.TableForm.TheVariants.{Objects}
use Rattle.descriptions.proofs.ObjectLemmas.{number_same}
use Rattle.descriptions.proofs.ValueLemmas.{these_same, these_then}
use Rattle.descriptions.proofs.row_head.write_finding.Goals as goal

pub returns : goal.returns
returns g c =
    these_same (ap (λ found. finding_word found c.args.follows) (sym c.in-Some.is))
    (these_then c.raw-2.ensures (these_then (these_same c.code_digits.ensures c.raw-3.ensures) (these_then c.raw-4.ensures
    (these_same (c.packet.ensures Objects ∙ number_same c.args.follows ∙ sym (append-nil (number_word c.args.follows))) c.value.ensures.written))))
