use Rattle.std.proofs.Common.{◌≡◌, ◌∙◌, ap, arith, length, length-append, subst, sym}
use Rattle.std.specs.Prelude.{All}
use Rattle.line_model.specs.work.Work.{numbers_of}
use Rattle.line_model.specs.declared.fault.Fault.TheVariants.{Memory}
use Rattle.workers.specs.Vouching.{HasPiece}
use Rattle.workers.proofs.Pieces.{has-added, length-numbers}
use Rattle.workers.proofs.Faults.{fault_next, fault_represents}
use Rattle.workers.proofs.worker.work_on.Goals as goal

pub loop-init : goal.loop-init
loop-init g c = record {
  queue = c.requires.start.queue;
  unfinished = ap (λ v. v.finished) c.requires.start.fresh;
  fault = c.requires.start.share ∙ sym (ap (λ v. length v.taken) c.requires.start.fresh);
}

pub take-requires-clause-queue : goal.take-requires-clause-queue
take-requires-clause-queue g c = c.loop.invariant.queue

pub take-requires-clause-unfinished : goal.take-requires-clause-unfinished
take-requires-clause-unfinished g c = c.loop.invariant.unfinished

pub handle_unless-requires-clause-planned : goal.handle_unless-requires-clause-planned
handle_unless-requires-clause-planned g c = c.in-Got.ensures.taken.0

pub handle_unless-requires-clause-taken : goal.handle_unless-requires-clause-taken
handle_unless-requires-clause-taken g c =
    subst (λ l. All (HasPiece l) c.in-Got.bundle) (sym c.in-Got.ensures.pieces) (has-added c.loop.worker.pass.pieces c.in-Got.bundle)

pub handle_unless-requires-clause-queue : goal.handle_unless-requires-clause-queue
handle_unless-requires-clause-queue g c = subst (g.W.Handler.handles c.args.handler.now) (sym (c.take.ensures.queue ∙ c.loop.invariant.queue)) c.requires.handler

pub handle_unless-requires-clause-memory : goal.handle_unless-requires-clause-memory
handle_unless-requires-clause-memory g c = fault_represents c.loop.worker.fault _ (λ f. f ≡ Memory) c.loop.invariant.fault

pub loop-preserved-in-Got : goal.loop-preserved-in-Got
loop-preserved-in-Got g c =
    let taken = c.in-Got.ensures.taken.1 in
    let same = c.handle_unless.ensures.same in
    let more = ap (λ v. length v.record_of.taken) same ∙ ap (λ v. length v.taken) taken in record {
      queue = ap (λ v. v.queue) same ∙ (c.take.ensures.queue ∙ c.loop.invariant.queue);
      unfinished = ap (λ v. v.record_of.finished) same ∙ ap (λ v. v.finished) taken;
      fault =
          fault_next c.loop.worker.fault c.handle_unless.new.worker.fault _ _ _ (λ f. f ≡ Memory) c.handle_unless.ensures.posted c.handle_unless.ensures.memory c.loop.invariant.fault
          (λ old new. omega (arith, old, new, more, length-numbers c.in-Got.bundle, length-append c.loop.worker.pass.record_of.taken (numbers_of c.in-Got.bundle)));
    }
