use Rattle.std.proofs.Common.{◌∙◌, arith, refl, subst, sym}
use Rattle.std.proofs.lemmas.Result.{IfOk-from_err}
use Rattle.trace_text.proofs.SourceLemmas.{passed_on}
use Rattle.trace_reading.specs.Readings.{IsFaultWithin, IsFedSoFar}
use Rattle.trace_reading.proofs.Parts.{fed_both}
use Rattle.trace_reading.proofs.taken_text.TakenText.take_until.Goals as goal

pub loop-init : goal.loop-init
loop-init g c = record {
  ready = c.requires.ready;
  fed = record { kept = record { ends = c.requires.ready.no_ends; pending = refl; done = refl; taken = refl }; same = refl };
  sent = refl;
}

pub take_next-requires-clause-ready : goal.take_next-requires-clause-ready
take_next-requires-clause-ready g c =
    let inv = c.loop.invariant in
    subst (λ n. IsFedSoFar g.P.TraceText.text c.loop.self.work.now.queue c.loop.pass n c.loop.self.text) (sym inv.sent) inv.ready

pub loop-preserved : goal.loop-preserved
loop-preserved g c =
    let inv = c.loop.invariant in
    record {
      ready = subst (λ n. IsFedSoFar g.P.TraceText.text c.take_next.new.self.work.now.queue c.take_next.new.pass n c.take_next.new.self.text) inv.sent c.in_ok-take_next.ensures.taken;
      fed = fed_both c.args.pass.now c.loop.pass c.take_next.new.pass inv.fed c.take_next.ensures.fed;
      sent = c.take_next.ensures.sent ∙ inv.sent;
    }

pub returns-in_err-take_next-clause-fed : goal.returns-in_err-take_next-clause-fed
returns-in_err-take_next-clause-fed g c = fed_both c.args.pass.now c.loop.pass c.take_next.new.pass c.loop.invariant.fed c.take_next.ensures.fed

pub returns-in_err-take_next-clause-taken : goal.returns-in_err-take_next-clause-taken
returns-in_err-take_next-clause-taken g c = IfOk-from_err _ _ c.from_residual.ensures.0

pub returns-in_err-take_next-clause-refused : goal.returns-in_err-take_next-clause-refused
returns-in_err-take_next-clause-refused g c =
    let fault = c.in_err-take_next.field-0.0 in
    passed_on c.from_residual.result fault _ c.from_residual.ensures.1 (subst (λ n. IsFaultWithin g.P.TraceText.text n fault) c.loop.invariant.sent c.in_err-take_next.ensures.refused)

pub returns-in_err-take_next-clause-near : goal.returns-in_err-take_next-clause-near
returns-in_err-take_next-clause-near g c = IfOk-from_err _ _ c.from_residual.ensures.0

pub returns-in_err-take_next-clause-sent : goal.returns-in_err-take_next-clause-sent
returns-in_err-take_next-clause-sent g c = c.take_next.ensures.sent ∙ c.loop.invariant.sent

pub returns-then-out-most-clause-near : goal.returns-then-out-most-clause-near
returns-then-out-most-clause-near g c = omega (arith, c.out.ensures, c.if-out-most.true)

pub returns-then-out-most-clause-taken : goal.returns-then-out-most-clause-taken
returns-then-out-most-clause-taken g c = c.loop.invariant.ready

pub returns-then-out-most-clause-fed : goal.returns-then-out-most-clause-fed
returns-then-out-most-clause-fed g c = c.loop.invariant.fed

pub returns-then-out-most-clause-sent : goal.returns-then-out-most-clause-sent
returns-then-out-most-clause-sent g c = c.loop.invariant.sent
