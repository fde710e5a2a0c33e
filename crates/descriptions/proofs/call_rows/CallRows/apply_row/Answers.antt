use Rattle.std.proofs.Common.{◌∙◌, ◌||◌, ◌++◌, List, append-nil, refl, subst, sym}
use Rattle.line_model.specs.declared.event.Event.{Event}
use Rattle.channel_run.proofs.LiveLemmas.{whole_list}
use Rattle.descriptions.specs.CallRows.{IsAfter}
use Rattle.descriptions.proofs.CallLemmas.{applied_next, took}
use Rattle.descriptions.proofs.call_rows.CallRows.apply_row.Goals as goal

pub loop-event-init : goal.loop-event-init
loop-event-init c = record { applied = λ es all h. subst (λ (l : List Event). IsAfter c.args.epoch l c.args.self.now) (sym (append-nil es)) h; number = refl }

pub loop-event-preserved : goal.loop-event-preserved
loop-event-preserved c =
    let inv = c.loop-event.invariant in
    record {
      applied = λ es all h. applied_next c.args.epoch es c.args.events.now c.loop-event.event-index c.event-item.result c.loop-event.self c.apply.new.self c.loop-event-test.true c.event-item.is all (inv.applied es all h) (c.apply.ensures.applied _);
      number = c.apply.ensures.number ∙ inv.number;
    }

pub returns-then-was_open-clause-applied : goal.returns-then-was_open-clause-applied
returns-then-was_open-clause-applied c es all h =
    subst (λ (l : List Event). IsAfter c.args.epoch (es ++ l) c.loop-event.self) (whole_list c.args.events.now c.loop-event.event-index c.loop-event-test.false) (c.loop-event.invariant.applied es all h)

pub returns-then-was_open-clause-of_call : goal.returns-then-was_open-clause-of_call
returns-then-was_open-clause-of_call c es all h =
    let applied = subst (λ (l : List Event). IsAfter c.args.epoch (es ++ l) c.loop-event.self) (whole_list c.args.events.now c.loop-event.event-index c.loop-event-test.false) (c.loop-event.invariant.applied es all h) in
    c.if-was_open.true ∙ (λ t. sym c.if-was_open.true t || c.is_open-is_open.result)
    ∙ took c.args.epoch c.args.channel es c.args.events.now c.args.self.now c.loop-event.self h applied c.loop-event.invariant.number c.is_open-was_open.result c.is_open-is_open.result c.is_open-was_open.ensures c.is_open-is_open.ensures

pub returns-else-was_open-clause-applied : goal.returns-else-was_open-clause-applied
returns-else-was_open-clause-applied c es all h =
    subst (λ (l : List Event). IsAfter c.args.epoch (es ++ l) c.loop-event.self) (whole_list c.args.events.now c.loop-event.event-index c.loop-event-test.false) (c.loop-event.invariant.applied es all h)

pub returns-else-was_open-clause-of_call : goal.returns-else-was_open-clause-of_call
returns-else-was_open-clause-of_call c es all h =
    let applied = subst (λ (l : List Event). IsAfter c.args.epoch (es ++ l) c.loop-event.self) (whole_list c.args.events.now c.loop-event.event-index c.loop-event-test.false) (c.loop-event.invariant.applied es all h) in
    (λ t. sym c.if-was_open.false t || c.is_open-is_open.result)
    ∙ took c.args.epoch c.args.channel es c.args.events.now c.args.self.now c.loop-event.self h applied c.loop-event.invariant.number c.is_open-was_open.result c.is_open-is_open.result c.is_open-was_open.ensures c.is_open-is_open.ensures
