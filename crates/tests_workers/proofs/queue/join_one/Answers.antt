use Rattle.std.proofs.Common.{◌≡◌, ◌∙◌, ap, ℕ, ◌+◌, ◌<◌, true, arith, cond}
use Rattle.line_model.specs.work.Book.{once_below}
use Rattle.shared_work.specs.queue.Rule.{after_join}
use Rattle.shared_work.specs.declared.queue.rule.Record.{Record}
use Rattle.tests_workers.proofs.queue.join_one.Goals as goal

-- the feeder's record after the only worker was joined
joined_one : (u w a : Record) → u.fed ≡ 2 → u.pending ≡ 1 → w ≡ after_join u a → a.finished ≡ true → (w.pending ≡ 0) × (0 < w.done) × (w.fed ≡ 2)
joined_one u w a fed pending joined ended = (
  omega (arith, ap (λ (r : Record). r.pending) joined, pending),
  omega (arith, ap (λ (r : Record). r.done) joined ∙ ap (λ t. cond {A = ℕ} t (u.done + 1) u.done) ended),
  ap (λ (r : Record). r.fed) joined ∙ fed,
)

pub returns : goal.returns
returns g c = record {
  each_once = λ x.
      let ended : c.take.new.pass.record_of.finished ≡ true = ap (λ (r : Record). r.finished) c.in-Finish.ensures.taken in
      let one = joined_one c.args.feeder.record_of c.join.new.pass.record_of c.take.new.pass.record_of c.requires.feeder.1 c.requires.feeder.2 c.join.ensures.joined ended in
      c.join.ensures.all one.0 one.1 x ∙ ap (once_below x) one.2;
}
