use Rattle.std.proofs.Common.{ap, refl}
use Rattle.line_model.specs.observer.Calls.{is_end, is_opening}
use Rattle.call_accounts.proofs.SoFarLemmas.{other_within}
use Rattle.descriptions.proofs.CallLemmas.{as_what, both_false}
use Rattle.descriptions.proofs.RowCallLemmas.{counted_end, counted_other}
use Rattle.descriptions.proofs.open_calls.OpenCalls.apply.Goals as goal

pub returns-in-Open-clause-counted : goal.returns-in-Open-clause-counted
returns-in-Open-clause-counted g c k es on h =
    let what = as_what c.args.event.now _ c.in-Open.is in
    c.open.ensures.counted k es c.args.event.now (record { epoch = on.0; channel = on.1; opening = ap is_opening what; no_end = ap is_end what }) h

pub returns-in-End-clause-counted : goal.returns-in-End-clause-counted
returns-in-End-clause-counted g c k es on h =
    let what = as_what c.args.event.now _ c.in-End.is in
    counted_end c.end.result c.args.calls.now.epoch k es c.args.event.now c.args.self.now.opened c.args.calls.now.call c.end.new.self.opened c.end.new.calls.call
    (record { epoch = on.0; channel = on.1; no_opening = ap is_opening what; end = ap is_end what }) h c.end.ensures.opened c.end.ensures.call

pub returns-in_default : goal.returns-in_default
returns-in_default g c =
    let e = c.args.event.now in
    let within = both_false (is_end e) (is_opening e) (other_within e c.in_default.not-Open c.in_default.not-End) in
    record { counted = λ k es on h. counted_other c.args.calls.now.epoch k es e c.args.self.now.opened c.args.calls.now.call within.1 within.0 h; epoch = refl; table = refl }
