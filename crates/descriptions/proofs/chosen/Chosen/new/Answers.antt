use Rattle.std.proofs.Common.{◌∙◌, ap, subst, sym, length}
use Rattle.descriptions.specs.CallRows.{Follows}
use Rattle.descriptions.proofs.ChoiceLemmas.{no_rows}
use Rattle.descriptions.proofs.chosen.Chosen.new.Goals as goal
use Rattle.line_model.specs.packets.Says.{items_of}

pub returns-clause-chosen : goal.returns-clause-chosen
returns-clause-chosen c = record {
  packets = sym (ap (λ l. length l) no_rows);
  number = c.new.ensures.number ∙ c.asked_call.ensures;
  call = λ i head. subst (λ rows. Follows i (items_of i rows) c.new.result) (sym no_rows) (c.new.ensures.follows i);
}
