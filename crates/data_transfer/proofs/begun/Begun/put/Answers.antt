use Rattle.std.proofs.Common.{refl, sym, ◌∙◌, ap}
use Rattle.line_model.specs.channels.Sequences.{is_category_a}
use Rattle.data_transfer.specs.Assembly.{accepted}
use Rattle.data_transfer.proofs.begun.Begun.put.Goals as goal

pub returns-then-is_category_a-clause-put : goal.returns-then-is_category_a-clause-put
returns-then-is_category_a-clause-put g c = (
  sym c.if-not-is_alike.ensures,
  ap (λ k. is_category_a k.size (accepted c.args.side c.args.field.now)) (sym c.self.view_is) ∙ sym c.if-is_category_a.ensures,
  c.in_ok-join.ensures.qualified,
  c.in_ok-join.ensures.kept,
)

pub returns-clause-put : goal.returns-clause-put
returns-clause-put g c = (
  sym c.if-not-is_alike.ensures,
  ap (λ k. is_category_a k.size (accepted c.args.side c.args.field.now)) (sym c.self.view_is) ∙ sym c.if-is_category_a.ensures,
  c.in_ok-octets.ensures.holds,
  refl,
  refl,
  c.in_ok-octets.ensures.octets,
)
