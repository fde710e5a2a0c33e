use Rattle.std.proofs.Common.{◌≡◌, ◌∙◌, ◌++◌, ◌∷◌, ◌&&◌, [], refl, Some, subst, sym, ap}
use Rattle.line_model.specs.observer.Machine.{routed}
use Rattle.line_model.specs.observer.Observer.{events, x25}
use Rattle.restart_epochs.specs.Cutting.{observer}
use Rattle.live_report.proofs.LastLemmas.{taker_is}
use Rattle.descriptions.specs.CallRows.{IsAfter, is_in}
use Rattle.descriptions.proofs.FollowLemmas.{all_of_epoch, channel_follows, events_on_channel, applied_so_far, judged_off, judged_on, level_follows, same_epoch}
use Rattle.descriptions.proofs.chosen.judge_call.Goals as goal

pub returns-in-Some-clause-of_call : goal.returns-in-Some-clause-of_call
returns-in-Some-clause-of_call g c i before r f walked last =
    let k = c.in-Some.channel in
    let to : routed (x25 i) (observer i before).level r ≡ Some k = sym (taker_is i (routed (x25 i) (observer i before).level r) (observer i before) (observer i (before ++ r ∷ [])) c.args.last.now.judge last.judge) ∙ sym c.channel.ensures ∙ c.in-Some.is in
    let epoch : c.epoch.result ≡ (observer i before).epoch = c.epoch.ensures.walked i (before ++ r ∷ []) walked ∙ same_epoch i before r k to in
    let came = c.events.ensures ∙ last.came k to in
    judged_on i before r k c.args.call.now.number c.epoch.result c.events.result.now c.apply_row.result to epoch came
    (c.apply_row.ensures.of_call (events i before) (all_of_epoch i before r k c.epoch.result c.events.result.now epoch came) (subst (λ e. IsAfter e (events i before) c.args.call.now) (sym epoch) (applied_so_far i before r k c.args.call.now to f)))

pub returns-in-Some-clause-follows : goal.returns-in-Some-clause-follows
returns-in-Some-clause-follows g c i before r f walked last =
    let k = c.in-Some.channel in
    let to : routed (x25 i) (observer i before).level r ≡ Some k = sym (taker_is i (routed (x25 i) (observer i before).level r) (observer i before) (observer i (before ++ r ∷ [])) c.args.last.now.judge last.judge) ∙ sym c.channel.ensures ∙ c.in-Some.is in
    let epoch : c.epoch.result ≡ (observer i before).epoch = c.epoch.ensures.walked i (before ++ r ∷ []) walked ∙ same_epoch i before r k to in
    let came = c.events.ensures ∙ last.came k to in
    let applied = c.apply_row.ensures.applied (events i before) (all_of_epoch i before r k c.epoch.result c.events.result.now epoch came) (subst (λ e. IsAfter e (events i before) c.args.call.now) (sym epoch) (applied_so_far i before r k c.args.call.now to f)) in
    channel_follows i before r k c.apply_row.new.self to
    (subst (λ l. IsAfter (observer i before).epoch l c.apply_row.new.self) (ap (λ fs. events i before ++ fs) came ∙ sym (events_on_channel i before r k to)) (subst (λ e. IsAfter e (events i before ++ c.events.result.now) c.apply_row.new.self) epoch applied))

pub returns-then-reaches_each-clause-of_call : goal.returns-then-reaches_each-clause-of_call
returns-then-reaches_each-clause-of_call g c i before r f walked last =
    let none = sym c.channel.ensures ∙ c.in-None.is in
    let e = c.epoch-then-reaches_each.result in
    judged_off i before r c.args.call.now e c.reaches_each.result c.is_open_in.result (sym (taker_is i (routed (x25 i) (observer i before).level r) (observer i before) (observer i (before ++ r ∷ [])) c.args.last.now.judge last.judge) ∙ none) f
    (c.reaches_each.ensures i before r _ none last) (c.epoch-then-reaches_each.ensures.walked i (before ++ r ∷ []) walked)
    (c.is_open_in.ensures ∙ (λ t. sym c.if-reaches_each.true t && is_in e c.args.call.now.place))

pub returns-else-reaches_each-clause-of_call : goal.returns-else-reaches_each-clause-of_call
returns-else-reaches_each-clause-of_call g c i before r f walked last =
    let none = sym c.channel.ensures ∙ c.in-None.is in
    let e = (observer i (before ++ r ∷ [])).epoch in
    judged_off i before r c.args.call.now e c.reaches_each.result c.reaches_each.result (sym (taker_is i (routed (x25 i) (observer i before).level r) (observer i before) (observer i (before ++ r ∷ [])) c.args.last.now.judge last.judge) ∙ none) f
    (c.reaches_each.ensures i before r _ none last) refl (c.if-reaches_each.false ∙ (λ t. sym c.if-reaches_each.false t && is_in e c.args.call.now.place))

pub returns-then-reaches_each-clause-follows : goal.returns-then-reaches_each-clause-follows
returns-then-reaches_each-clause-follows g c i before r f walked last = level_follows i before r c.args.call.now (sym (taker_is i (routed (x25 i) (observer i before).level r) (observer i before) (observer i (before ++ r ∷ [])) c.args.last.now.judge last.judge) ∙ sym c.channel.ensures ∙ c.in-None.is) f

pub returns-else-reaches_each-clause-follows : goal.returns-else-reaches_each-clause-follows
returns-else-reaches_each-clause-follows g c i before r f walked last = level_follows i before r c.args.call.now (sym (taker_is i (routed (x25 i) (observer i before).level r) (observer i before) (observer i (before ++ r ∷ [])) c.args.last.now.judge last.judge) ∙ sym c.channel.ensures ∙ c.in-None.is) f
