use Rattle.std.proofs.Common.{◌∙◌, ◌-◌, Some, refl, subst, sym}
use Rattle.std.proofs.lemmas.Result.{IfOk-from_err}
use Rattle.trace_text.proofs.SourceLemmas.{passed_on}
use Rattle.trace_reading.specs.Readings.{IsFaultWithin, IsFedSoFar}
use Rattle.std.specs.Prelude.{IfSome}
use Rattle.trace_text.specs.Progress.{bytes_fed}
use Rattle.trace_reading.specs.TextBlocks.{IsBlockAt}
use Rattle.trace_reading.proofs.Parts.{fed_both}
use Rattle.trace_reading.proofs.taken_text.TakenText.take_ready.Goals as goal

pub loop-init : goal.loop-init
loop-init g c = record {
  ready = c.requires.ready;
  fed = record { kept = record { ends = c.requires.ready.no_ends; pending = refl; done = refl; taken = refl }; same = refl };
  sent = refl;
}

pub take_block-requires-clause-ready : goal.take_block-requires-clause-ready
take_block-requires-clause-ready g c =
    let inv = c.loop.invariant in
    subst (λ n. IsFedSoFar g.P.TraceText.text c.loop.self.work.now.queue c.loop.pass n c.loop.self.text) (sym inv.sent) inv.ready

pub loop-preserved : goal.loop-preserved
loop-preserved g c =
    let inv = c.loop.invariant in
    record {
      ready = subst (λ n. IsFedSoFar g.P.TraceText.text c.take_block.new.self.work.now.queue c.take_block.new.pass n c.take_block.new.self.text) inv.sent c.in_ok-take_block.ensures.taken;
      fed = fed_both c.args.pass.now c.loop.pass c.take_block.new.pass inv.fed c.take_block.ensures.fed;
      sent = c.take_block.ensures.sent ∙ inv.sent;
    }

pub returns-in_err-take_block-clause-fed : goal.returns-in_err-take_block-clause-fed
returns-in_err-take_block-clause-fed g c = fed_both c.args.pass.now c.loop.pass c.take_block.new.pass c.loop.invariant.fed c.take_block.ensures.fed

pub returns-in_err-take_block-clause-taken : goal.returns-in_err-take_block-clause-taken
returns-in_err-take_block-clause-taken g c = IfOk-from_err _ _ c.from_residual-in_err-take_block.ensures.0

pub returns-in_err-take_block-clause-refused : goal.returns-in_err-take_block-clause-refused
returns-in_err-take_block-clause-refused g c =
    let fault = c.in_err-take_block.field-0.0 in
    passed_on c.from_residual-in_err-take_block.result fault _ c.from_residual-in_err-take_block.ensures.1 (subst (λ n. IsFaultWithin g.P.TraceText.text n fault) c.loop.invariant.sent c.in_err-take_block.ensures.refused)

pub returns-in_err-read-clause-taken : goal.returns-in_err-read-clause-taken
returns-in_err-read-clause-taken g c = IfOk-from_err _ _ c.from_residual.ensures.0

pub returns-in_err-read-clause-fed : goal.returns-in_err-read-clause-fed
returns-in_err-read-clause-fed g c = c.loop.invariant.fed

pub returns-clause-fed : goal.returns-clause-fed
returns-clause-fed g c = c.loop.invariant.fed

pub returns-clause-taken : goal.returns-clause-taken
returns-clause-taken g c = c.loop.invariant.ready

pub returns-clause-sent : goal.returns-clause-sent
returns-clause-sent g c = c.loop.invariant.sent

pub returns-in_default-clause-fed : goal.returns-in_default-clause-fed
returns-in_default-clause-fed g c = c.loop.invariant.fed

pub returns-in_default-clause-taken : goal.returns-in_default-clause-taken
returns-in_default-clause-taken g c = c.loop.invariant.ready

pub returns-in_default-clause-sent : goal.returns-in_default-clause-sent
returns-in_default-clause-sent g c = c.loop.invariant.sent

pub take_block-requires-clause-place : goal.take_block-requires-clause-place
take_block-requires-clause-place g c =
    let place : IfSome (Some c.in-Some.read) (IsBlockAt g.P.TraceText.text c.bytes-place.result c.out-most.result) = rw c.in-Some.is at c.in_ok-read.ensures.place in
    subst (λ n. IsBlockAt g.P.TraceText.text n (c.loop.self.sent - bytes_fed c.loop.self.text.lines) c.in-Some.read) c.bytes-place.ensures (subst (λ m. IsBlockAt g.P.TraceText.text c.bytes-place.result m c.in-Some.read) c.out-most.ensures place)
