use Rattle.line_model.specs.declared.fault.Fault.TheVariants.{Memory}
use Rattle.std.specs.Prelude.{IfErr}
use Rattle.std.proofs.lemmas.Result.{IfOk-from_err, err_from_is_err_and}
use Rattle.std.proofs.Common.{◌≡◌, ◌∙◌, ◌+◌, ◌++◌, ◌∷◌, [], List, ap, append-nil, arith, drop, map, subst, sym, take}
use Rattle.std.proofs.lemmas.List.{take-append-drop, take_all, take_more}
use Rattle.line_model.specs.declared.event.Event.{Event}
use Rattle.line_model.specs.observer.Calls.{calls_of}
use Rattle.call_accounts.specs.Counted.{IsCountable}
use Rattle.call_accounts.specs.Places.{AreAdded, place_of}
use Rattle.call_accounts.proofs.PlaceLemmas.{all_countable, countable_before, added_left, opens_here, opens_none, places_more}
use Rattle.call_accounts.proofs.call.calls_of.Goals as goal
use Rattle.call_accounts.proofs.call.calls_of.Goals.{in-Open+in_ok-push, in_default}

pub loop-event-preserved : goal.loop-event-preserved
loop-event-preserved g c =
    let events : List Event = c.args.events.now in
    let i = c.loop-event.event-index in
    let v : Event = c.event-item.result in
    let done : List Event = take i events in
    let more : take (i + 1) events ≡ done ++ v ∷ [] = take_more events i v c.loop-event-test.true ∙ ap (λ x. done ++ x ∷ []) (sym c.event-item.is) in
    let few : IsCountable (done ++ v ∷ []) =
    subst IsCountable more (countable_before (take (i + 1) events) (drop (i + 1) events) (subst IsCountable (sym (take-append-drop (i + 1) events)) (all_countable events (omega arith) c.requires.few_octets))) in
    let behind = sym (places_more done v) ∙ ap (λ (es : List Event). map place_of (calls_of es)) (sym more) in
    record {
      added = subst (AreAdded c.add_event.new.self) (sym more) (c.in_ok-add_event.ensures done c.loop-event.invariant.added few);
      openings = elim c.match-event.branch [
        | in-Open+in_ok-push w ↦ ap (λ vs. vs.items) w.openings-is ∙ w.in_ok-push.ensures.items ∙ ap (λ l. l ++ (v.epoch, v.channel) ∷ []) c.loop-event.invariant.openings
            ∙ ap (λ l. map place_of (calls_of done) ++ l) (sym (opens_here v _ _ _ _ w.in-Open.is)) ∙ behind
        | in_default w ↦ ap (λ vs. vs.items) w.openings-is ∙ c.loop-event.invariant.openings ∙ sym (append-nil (map place_of (calls_of done)))
            ∙ ap (λ l. map place_of (calls_of done) ++ l) (sym (opens_none v w.in_default.not-Open)) ∙ behind
      ];
    }

pub returns-clause-calls : goal.returns-clause-calls
returns-clause-calls g c =
    let events : List Event = c.args.events.now in
    let whole : take c.loop-event.event-index events ≡ events = take_all c.loop-event.event-index events (omega (arith, c.loop-event-test.false)) in
    c.in_ok-in_order.ensures (calls_of events) (added_left c.loop-event.places events (subst (AreAdded c.loop-event.places) whole c.loop-event.invariant.added))
    (c.loop-event.invariant.openings ∙ ap (λ (es : List Event). map place_of (calls_of es)) whole)

pub returns-in_err-places-clause-calls : goal.returns-in_err-places-clause-calls
returns-in_err-places-clause-calls g c = IfOk-from_err _ _ c.from_residual.ensures.0

pub returns-in_err-clone-clause-calls : goal.returns-in_err-clone-clause-calls
returns-in_err-clone-clause-calls g c = IfOk-from_err _ _ c.from_residual-in_err-clone.ensures.0

pub returns-in_err-add_event-clause-calls : goal.returns-in_err-add_event-clause-calls
returns-in_err-add_event-clause-calls g c = IfOk-from_err _ _ c.from_residual-in_err-add_event.ensures.0

pub returns-in_err-in_order-clause-calls : goal.returns-in_err-in_order-clause-calls
returns-in_err-in_order-clause-calls g c = IfOk-from_err _ _ c.from_residual-in_err-in_order.ensures.0

pub returns-in_err-places-clause-memory : goal.returns-in_err-places-clause-memory
returns-in_err-places-clause-memory g c =
    let p = err_from_is_err_and c.from_residual.result c.from_residual.ensures.1 in
    subst (λ r. IfErr r (λ f. f ≡ Memory)) (sym p.1) p.2

pub returns-in_err-clone-clause-memory : goal.returns-in_err-clone-clause-memory
returns-in_err-clone-clause-memory g c =
    let p = err_from_is_err_and c.from_residual-in_err-clone.result c.from_residual-in_err-clone.ensures.1 in
    subst (λ r. IfErr r (λ f. f ≡ Memory)) (sym p.1) p.2

pub returns-in_err-add_event-clause-memory : goal.returns-in_err-add_event-clause-memory
returns-in_err-add_event-clause-memory g c =
    let p = err_from_is_err_and c.from_residual-in_err-add_event.result c.from_residual-in_err-add_event.ensures.1 in
    subst (λ r. IfErr r (λ f. f ≡ Memory)) (sym p.1) p.2

pub returns-in_err-in_order-clause-memory : goal.returns-in_err-in_order-clause-memory
returns-in_err-in_order-clause-memory g c =
    let p = err_from_is_err_and c.from_residual-in_err-in_order.result c.from_residual-in_err-in_order.ensures.1 in
    subst (λ r. IfErr r (λ f. f ≡ Memory)) (sym p.1) p.2
