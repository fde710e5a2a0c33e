use Rattle.std.proofs.Common.{◌∙◌, sym, arith}
use Rattle.shared_work.proofs.Adding.{few_from, known_once, none_more}
use Rattle.shared_work.proofs.findings.room.first_known.Goals as goal

pub returns-then-contains-clause-some : goal.returns-then-contains-clause-some
returns-then-contains-clause-some g c = known_once c.args.known.now c.args.ids.now c.loop-id.id-index c.loop-id-test.true (sym c.contains.ensures ∙ c.if-contains.true)

pub returns-then-contains-clause-few : goal.returns-then-contains-clause-few
returns-then-contains-clause-few g c = few_from c.args.ids.now (λ k. omega (arith, c.type_inv.ids k))

pub returns-clause-few : goal.returns-clause-few
returns-clause-few g c = few_from c.args.ids.now (λ k. omega (arith, c.type_inv.ids k))

pub loop-id-preserved : goal.loop-id-preserved
loop-id-preserved g c = none_more c.args.known.now c.args.ids.now c.loop-id.id-index c.loop-id-test.true c.loop-id.invariant (sym c.contains.ensures ∙ c.if-contains.false)
