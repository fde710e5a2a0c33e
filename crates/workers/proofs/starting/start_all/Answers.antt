use Rattle.std.proofs.Common.{[], ◌≡◌, ◌∙◌, ap, arith, rules, subst, sym}
use Rattle.shared_work.specs.queue.Rule.{feeder}
use Rattle.std.specs.Prelude.{All}
use Rattle.workers.specs.Workers.{IsWorkerStart}
use Rattle.workers.proofs.Lists.{All-rest}
use Rattle.workers.proofs.starting.start_all.Goals as goal
use Rattle.line_model.proofs.Schedules.{All-more}

pub loop-start-preserved : goal.loop-start-preserved
loop-start-preserved g c =
    let i = c.loop-start.invariant in record {
      starts = All-rest (IsWorkerStart c.ready.inside.work.now.queue) _ _ _ c.in-Some.ensures.steps.0 i.starts;
      count = omega (arith, i.count, c.push_reserved.ensures.len, c.in-Some.ensures.steps.1);
      room = omega (arith, i.room, c.push_reserved.ensures.capacity);
      promised = All-more (λ h. h.promise.work.now.queue ≡ c.ready.inside.work.now.queue) _ _ _ c.push_reserved.ensures.items i.promised search rules;
    }

pub loop-start-init : goal.loop-start-init
loop-start-init g c =
    let given = c.into_iter-start-iterator.ensures.into_iter_gives in record {
      starts = subst (All (IsWorkerStart c.ready.inside.work.now.queue)) (sym given.0) c.ready.invariant.3;
      count = omega (arith, given.1, c.in-Ok.ensures.len, c.len-count.ensures);
      room = omega (arith, c.in-Ok.ensures.capacity);
      promised = λ k d lt. absurd (omega (arith, lt, c.in-Ok.ensures.len));
    }

pub returns-clause-pass : goal.returns-clause-pass
returns-clause-pass g c =
    (c.ready.invariant.0, c.ready.invariant.1 ∙ ap (λ ready. feeder 0 0 ready.count 0 []) c.ready.view_is, c.ready.invariant.2)

pub returns-in-None-ok-clause-pass : goal.returns-in-None-ok-clause-pass
returns-in-None-ok-clause-pass g c =
    (c.ready.invariant.0, c.ready.invariant.1 ∙ ap (λ ready. feeder 0 0 ready.count 0 []) c.ready.view_is, c.ready.invariant.2)

pub returns-clause-room : goal.returns-clause-room
returns-clause-room g c =
    (c.in-Ok-with_capacity.ensures.len, omega (arith, c.loop-start.invariant.count, c.in-Ok-with_capacity.ensures.capacity))

pub returns-in-None-ok-clause-room : goal.returns-in-None-ok-clause-room
returns-in-None-ok-clause-room g c =
    (c.in-Ok-with_capacity.ensures.len, omega (arith, c.loop-start.invariant.count, c.in-Ok-with_capacity.ensures.capacity))

pub returns-clause-promised : goal.returns-clause-promised
returns-clause-promised g c = c.loop-start.invariant.promised

pub returns-in-None-ok-clause-promised : goal.returns-in-None-ok-clause-promised
returns-in-None-ok-clause-promised g c = c.loop-start.invariant.promised

pub push_reserved-requires : goal.push_reserved-requires
push_reserved-requires g c = omega (arith, c.loop-start.invariant.count, c.loop-start.invariant.room, c.in-Some.ensures.steps.1)
