use Rattle.std.proofs.Common.{◌∙◌, ◌++◌, ◌∷◌, [], List, append-nil, refl, subst, sym, take}
use Rattle.line_model.specs.declared.event.Event.{Event}
use Rattle.channel_run.proofs.LiveLemmas.{whole_list}
use Rattle.descriptions.specs.RowCalls.{Counted, IsOn}
use Rattle.descriptions.proofs.RowCallLemmas.{counted_next}
use Rattle.descriptions.proofs.open_calls.OpenCalls.apply_row.Goals as goal

pub loop-event-init : goal.loop-event-init
loop-event-init g c = record {
  counted = λ k es all h. subst (λ (l : List Event). Counted c.args.calls.now.epoch k l c.args.self.now.opened c.args.calls.now.call) (sym (append-nil es)) h;
  epoch = refl;
  table = refl;
}

pub loop-event-preserved : goal.loop-event-preserved
loop-event-preserved g c =
    let inv = c.loop-event.invariant in
    let i = c.loop-event.event-index in
    let events = c.args.events.now in
    let event = c.event-item.result in
    record {
      counted = λ k es all h.
          counted_next c.args.calls.now.epoch k es events i event c.apply.new.self.opened c.apply.new.calls.call c.loop-event-test.true c.event-item.is all
          (λ on. subst (λ e. IsOn e k event → Counted e k (es ++ take i events) c.loop-event.self.opened c.loop-event.calls.call → Counted e k ((es ++ take i events) ++ event ∷ []) c.apply.new.self.opened c.apply.new.calls.call) inv.epoch
          (c.in_ok-apply.ensures.counted k (es ++ take i events)) on (inv.counted k es all h));
      epoch = c.in_ok-apply.ensures.epoch ∙ inv.epoch;
      table = c.in_ok-apply.ensures.table ∙ inv.table;
    }

pub returns-clause-counted : goal.returns-clause-counted
returns-clause-counted g c k es all h =
    subst (λ (l : List Event). Counted c.args.calls.now.epoch k (es ++ l) c.loop-event.self.opened c.loop-event.calls.call) (whole_list c.args.events.now c.loop-event.event-index c.loop-event-test.false) (c.loop-event.invariant.counted k es all h)
