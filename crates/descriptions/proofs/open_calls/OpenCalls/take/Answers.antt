use Rattle.std.proofs.Common.{◌∙◌, ◌++◌, ◌∷◌, [], sym}
use Rattle.restart_epochs.specs.Cutting.{observer}
use Rattle.live_report.proofs.LastLemmas.{taker_is}
use Rattle.descriptions.proofs.OriginLemmas.{routed_off}
use Rattle.descriptions.proofs.RowCallLemmas.{call_taken, kept_calls_off, kept_taken, not_left, row_call_off}
use Rattle.descriptions.proofs.open_calls.OpenCalls.take.Goals as goal

pub returns-in-Some-clause-kept : goal.returns-in-Some-clause-kept
returns-in-Some-clause-kept g c i earlier r h l epoch next =
    let to = sym (taker_is i _ (observer i earlier) (observer i (earlier ++ r ∷ [])) c.args.last.now.judge l.judge) ∙ sym c.channel.ensures ∙ c.in-Some.is in
    kept_taken c.take_on.result i earlier r c.args.last.now c.args.events.now c.in-Some.channel c.args.epoch c.args.self.now c.take_on.new.self l to h epoch c.take_on.ensures.counted c.take_on.ensures.epoch c.take_on.ensures.others

pub returns-in-Some-clause-call : goal.returns-in-Some-clause-call
returns-in-Some-clause-call g c i earlier r h l epoch few =
    let to = sym (taker_is i _ (observer i earlier) (observer i (earlier ++ r ∷ [])) c.args.last.now.judge l.judge) ∙ sym c.channel.ensures ∙ c.in-Some.is in
    call_taken c.take_on.result i earlier r c.args.last.now c.args.events.now c.in-Some.channel c.args.epoch c.args.self.now c.take_on.new.self l to h epoch few c.take_on.ensures.counted c.take_on.ensures.before c.take_on.ensures.after

pub returns-in_ok-take_on_interface-in-None-clause-kept : goal.returns-in_ok-take_on_interface-in-None-clause-kept
returns-in_ok-take_on_interface-in-None-clause-kept g c i earlier r h l epoch next =
    let to = routed_off i earlier r c.args.last.now c.args.events.now l (sym c.channel.ensures ∙ c.in-None.is) in
    kept_calls_off i earlier r c.args.self.now c.take_on_interface.new.self to h c.take_on_interface.ensures.opened c.take_on_interface.ensures.left
    (λ same ready. c.take_on_interface.ensures.stays (next ∙ same ∙ sym epoch) (not_left i earlier r c.args.last.now c.args.events.now l to ready))

pub returns-in_ok-take_on_interface-in-None-clause-call : goal.returns-in_ok-take_on_interface-in-None-clause-call
returns-in_ok-take_on_interface-in-None-clause-call g c i earlier r h l epoch few =
    row_call_off i earlier r c.none.result (routed_off i earlier r c.args.last.now c.args.events.now l (sym c.channel.ensures ∙ c.in-None.is)) c.none.ensures
