use Rattle.std.proofs.Common.{sym, ◌∙◌, ap}
use Rattle.line_model.specs.channels.Sequences.{is_category_a}
use Rattle.data_transfer.specs.Assembly.{unqualified}
use Rattle.data_transfer.proofs.begun.Begun.put_unqualified.Goals as goal

pub returns-then-is_category_a-clause-put : goal.returns-then-is_category_a-clause-put
returns-then-is_category_a-clause-put g c side = (
  ap (λ k. is_category_a k.size (unqualified side c.args.more c.args.delivery c.args.length)) (sym c.self.view_is) ∙ sym c.if-is_category_a.ensures,
  c.join_unqualified.ensures.qualified,
  c.join_unqualified.ensures.octets,
)

pub returns-clause-put : goal.returns-clause-put
returns-clause-put g c side = (
  ap (λ k. is_category_a k.size (unqualified side c.args.more c.args.delivery c.args.length)) (sym c.self.view_is) ∙ sym c.if-is_category_a.ensures,
  c.reset.ensures.holds,
)
