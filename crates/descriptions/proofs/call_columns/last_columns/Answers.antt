use Rattle.std.proofs.Common.{◌∙◌, ◌++◌, [], ap}
use Rattle.std.specs.Prelude.{codes, decimal}
use Rattle.descriptions.specs.CallTable.{address_text, column, payer_word, word_text}
use Rattle.descriptions.proofs.call_columns.last_columns.Goals as goal

pub returns : goal.returns
returns g c form =
    (λ t. column form (codes "pays") (word_text form ((c.payer_word.ensures ∙ ap (λ call. payer_word call.reverse) c.call.view_is) t)) ++ (column form (codes "payer") ((c.address.ensures form ∙ ap (address_text form) (c.as_bytes.ensures.digits ∙ c.payer.ensures)) t)
    ++ (column form (codes "findings") (decimal c.args.further.now.findings) ++ (column form (codes "gaps") (c.number.ensures form t)
    ++ (column form (codes "opened_frame") (c.number-2.ensures form t) ++ (column form (codes "ended_frame") (c.number-3.ensures form t) ++ []))))))
