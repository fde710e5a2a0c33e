use Rattle.std.proofs.Common.{◌∙◌, ap, refl, sym}
use Rattle.descriptions.proofs.FactLemmas.{counted_at, none_next}
use Rattle.std.proofs.lemmas.List.Folds.{list_any_at}
use Rattle.live_report.specs.Uncounted.{is_data_event}
use Rattle.descriptions.proofs.facts.counted_in.Goals as goal

pub returns-in-Data-clause-fate : goal.returns-in-Data-clause-fate
returns-in-Data-clause-fate c =
    counted_at c.args.events.now c.loop-event.event-index c.event-item.result c.in-Data.side c.in-Data.octets c.segments_in.result c.loop-event-test.true c.event-item.is c.in-Data.is c.loop-event.invariant.none c.segments_in.ensures

pub returns-in-Data-clause-counted : goal.returns-in-Data-clause-counted
returns-in-Data-clause-counted c =
    let is_data_there = ap (λ e. is_data_event e.what) (sym c.event-item.is) ∙ ap is_data_event c.in-Data.is in
    (refl, list_any_at (λ e. is_data_event e.what) c.args.events.now c.loop-event.event-index c.event-item.result c.loop-event-test.true is_data_there)

pub loop-event-preserved : goal.loop-event-preserved
loop-event-preserved c = record {
  none = none_next c.args.events.now c.loop-event.event-index c.event-item.result c.loop-event-test.true c.event-item.is c.in_default.not-Data c.loop-event.invariant.none;
}
