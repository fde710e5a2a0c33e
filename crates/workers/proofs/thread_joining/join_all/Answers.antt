use Rattle.std.specs.Vec.Iter.{into_iter_items}
use Rattle.std.proofs.Common.{◌≡◌, ◌+◌, ◌-◌, length, arith, ap, refl, subst, sym, ◌∙◌}
use Rattle.std.specs.Prelude.{All, sum_by, if◌then◌else◌, vec_len}
use Rattle.std.proofs.lemmas.List.Sums.{sum_by_push}
use Rattle.std.proofs.Common.{length-append}
use Rattle.workers.proofs.Lists.{All-rest, sum-of-none}
use Rattle.workers.proofs.Faults.{fault_then, fault_kept}
use Rattle.line_model.specs.declared.totals.Totals.{Totals}
use Rattle.workers.proofs.thread_joining.join_all.Goals as goal

pub loop-one-preserved-then-is_none : goal.loop-one-preserved-then-is_none
loop-one-preserved-then-is_none g c =
    let i = c.loop-one.invariant in
    let rec = c.join.ensures.joined in record {
      promised = All-rest (λ h. h.promise.work.now.queue ≡ c.args.work.now.queue) (into_iter_items c.loop-one.one-iterator) (into_iter_items c.next.new.self) c.in-Some.one c.in-Some.ensures.steps.0 i.promised;
      count = omega (arith, i.count, c.push_reserved.ensures.len, c.in-Some.ensures.steps.1);
      room = omega (arith, i.room, c.push_reserved.ensures.capacity);
      queue = c.join.ensures.queue ∙ i.queue;
      pieces = c.join.ensures.pieces ∙ i.pieces;
      pending = omega (arith, ap (λ v. v.pending) rec, i.pending, c.push_reserved.ensures.len);
      done = ap (λ v. v.done) rec ∙ (ap (λ b. if b then c.loop-one.pass.record_of.done + 1 else c.loop-one.pass.record_of.done) c.join-done.ensures.finished ∙ omega (arith, i.done, c.push_reserved.ensures.len));
      fed = ap (λ v. v.fed) rec ∙ i.fed;
      fault = fault_then c.join-done.result.fault c.loop-one.fault _ _ _ _ c.if-is_none.ensures i.fault
          (λ old new. ap (sum_by (λ (s : Totals). s.posts)) c.push_reserved.ensures.items ∙ (sum_by_push (λ (s : Totals). s.posts) c.loop-one.shares.items c.join-done.result.share ∙ omega (arith, old, new, length-append c.loop-one.pass.record_of.taken c.join-done.result.pass.record_of.taken, ap (λ v. length v.taken) rec)))
          c.join-done.ensures.fault;
      all = λ _. c.join.ensures.all;
    }

pub loop-one-preserved : goal.loop-one-preserved
loop-one-preserved g c =
    let i = c.loop-one.invariant in
    let rec = c.join.ensures.joined in record {
      promised = All-rest (λ h. h.promise.work.now.queue ≡ c.args.work.now.queue) (into_iter_items c.loop-one.one-iterator) (into_iter_items c.next.new.self) c.in-Some.one c.in-Some.ensures.steps.0 i.promised;
      count = omega (arith, i.count, c.push_reserved.ensures.len, c.in-Some.ensures.steps.1);
      room = omega (arith, i.room, c.push_reserved.ensures.capacity);
      queue = c.join.ensures.queue ∙ i.queue;
      pieces = c.join.ensures.pieces ∙ i.pieces;
      pending = omega (arith, ap (λ v. v.pending) rec, i.pending, c.push_reserved.ensures.len);
      done = ap (λ v. v.done) rec ∙ (ap (λ b. if b then c.loop-one.pass.record_of.done + 1 else c.loop-one.pass.record_of.done) c.join-done.ensures.finished ∙ omega (arith, i.done, c.push_reserved.ensures.len));
      fed = ap (λ v. v.fed) rec ∙ i.fed;
      fault = fault_kept c.loop-one.fault _ _ _ c.if-is_none.ensures i.fault;
      all = λ _. c.join.ensures.all;
    }

pub loop-one-init : goal.loop-one-init
loop-one-init g c =
    let given = c.into_iter-one-iterator.ensures.into_iter_gives in
    let none : length c.args.shares.items ≡ 0 = sym c.args.shares.ok.0 ∙ c.requires.room.0 in record {
      promised = subst (λ l. All (λ h. h.promise.work.now.queue ≡ c.args.work.now.queue) l) (sym given.0) c.requires.promised;
      count = omega (arith, given.1, c.requires.room.0);
      room = c.requires.room.1;
      queue = c.requires.queue;
      pieces = refl;
      pending = omega (arith, c.requires.room.0);
      done = c.requires.fresh.0 ∙ sym c.requires.room.0;
      fed = refl;
      fault = sum-of-none (λ (s : Totals). s.posts) c.args.shares.items none ∙ sym c.requires.fresh.1;
      all = λ some. absurd (omega (arith, some, c.requires.room.0));
    }

pub returns-clause-pieces : goal.returns-clause-pieces
returns-clause-pieces g c = c.loop-one.invariant.pieces

pub returns-clause-joined : goal.returns-clause-joined
returns-clause-joined g c =
    let i = c.loop-one.invariant in
    let all : vec_len c.loop-one.shares ≡ vec_len c.args.running = omega (arith, i.count, c.in-None.ensures.steps.0) in record {
      queue = i.queue;
      pending = i.pending ∙ ap (λ n. c.args.pass.record_of.pending - n) all;
      done = i.done ∙ all;
      fed = i.fed;
      shares = all;
      fault = i.fault;
      all = λ some. i.all (omega (arith, some, all));
    }
