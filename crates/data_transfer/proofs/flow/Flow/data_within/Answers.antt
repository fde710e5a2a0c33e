use Rattle.std.proofs.Common.{◌∙◌, refl, ap}
use Rattle.data_transfer.specs.Directions.{with_direction}
use Rattle.data_transfer.proofs.SendLemmas.{counted_by}
use Rattle.data_transfer.proofs.flow.Flow.data_within.Goals as goal

pub returns-clause-counts : goal.returns-clause-counts
returns-clause-counts c cs s =
    let read = c.direction-sender.ensures in
    let acked = c.in_ok-ack.ensures in
    counted_by c.args.side (tt {0}) c.args.self.now c.ack.new.self c.set.new.self c.direction-sender.result _ _ cs c.args.window c.args.send c.args.receive
    (ap (λ k. k.modulus) c.self.view_is) read.value refl
    (c.set.ensures ∙ ap (λ n. with_direction c.args.side (record c.direction-sender.result { sent = n }) c.ack.new.self) c.residue-sent.ensures) read.in_range c.self.invariant.eight
    c.if-not-is_next.ensures.counts acked.modulus acked.windows s (acked.counts cs s)
