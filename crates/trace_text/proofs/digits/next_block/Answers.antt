use Rattle.std.proofs.Common.{◌∙◌, ap, drop, subst, sym, ℕ}
use Rattle.trace_text.specs.Digits.{HasDecoded}
use Rattle.std.proofs.lemmas.List.{drop_min}
use Rattle.trace_text.proofs.digits.next_block.Goals as goal

pub returns-clause-octets : goal.returns-clause-octets
returns-clause-octets c =
    let text = c.args.text.now in
    subst (HasDecoded text c.octets_of.result) (sym (c.split_at.ensures.back ∙ ap (λ (n : ℕ). drop n text) c.min.ensures ∙ drop_min 32 text)) (c.octets_of.ensures.octets text c.first_values.ensures)
