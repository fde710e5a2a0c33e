use Rattle.std.proofs.Common.{◌++◌, ◌∙◌, List, length, ap, subst}
use Rattle.line_model.specs.declared.event.Event.{Event}
use Rattle.channel_run.specs.Tally.{Counts}
use Rattle.channel_run.proofs.LiveLemmas.{counted_on, findings_on, first_found, whole_list}
use Rattle.channel_run.proofs.tally.PieceTally.record_all.Goals as goal

pub loop-event-preserved : goal.loop-event-preserved
loop-event-preserved g c =
    let events = c.args.events.now in
    let i = c.loop-event.event-index in
    let inv = c.loop-event.invariant in
    record {
      counted_now = λ epoch channel es h all few.
          counted_on (Counts c.loop-event.self epoch channel) (Counts c.record.new.self epoch channel) epoch channel es events i c.event-item.result c.loop-event-test.true c.event-item.is all few
          (inv.counted_now epoch channel es h all few) (c.in_ok-record.ensures.recorded epoch channel _);
      findings =
          findings_on c.args.self.now.findings.items c.loop-event.self.findings.items c.record.new.self.findings.items events i c.event-item.result c.loop-event-test.true c.event-item.is inv.findings c.in_ok-record.ensures.findings;
    }

pub returns-clause-recorded : goal.returns-clause-recorded
returns-clause-recorded g c = λ epoch channel es h all few.
    subst (λ (l : List Event). Counts c.loop-event.self epoch channel (es ++ l)) (whole_list c.args.events.now c.loop-event.event-index c.loop-event-test.false)
    (c.loop-event.invariant.counted_now epoch channel es h all few)

pub returns-clause-found : goal.returns-clause-found
returns-clause-found g c =
    c.copied.ensures
    ∙ first_found c.args.self.now.findings.items c.as_slice.result.now c.loop-event.event-index c.args.events.now _ c.get.result c.get.ensures.lookup (ap (λ l. length l) c.as_slice-before.ensures.value) c.loop-event-test.false
    (c.as_slice.ensures.value ∙ c.loop-event.invariant.findings)
