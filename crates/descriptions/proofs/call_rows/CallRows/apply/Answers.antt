use Rattle.std.proofs.Common.{ap, refl}
use Rattle.line_model.specs.observer.Calls.{is_end, is_opening}
use Rattle.call_accounts.proofs.SoFarLemmas.{other_within}
use Rattle.descriptions.proofs.CallLemmas.{as_what, both_false, passed}
use Rattle.descriptions.proofs.call_rows.CallRows.apply.Goals as goal

pub returns-in_default : goal.returns-in_default
returns-in_default c =
    let e = c.args.event.now in
    let within = both_false (is_end e) (is_opening e) (other_within e c.in_default.not-Open c.in_default.not-End) in
    record { applied = λ es h. passed e.epoch es e c.args.self.now within.1 within.0 h; number = refl }

pub returns-in-Open : goal.returns-in-Open
returns-in-Open c = record {
  applied = λ es h. c.open.ensures.applied es c.args.event.now (record { epoch = refl; channel = refl; opening = ap is_opening (as_what c.args.event.now _ c.in-Open.is); no_end = ap is_end (as_what c.args.event.now _ c.in-Open.is) }) h;
  number = c.open.ensures.number;
}

pub returns-in-End : goal.returns-in-End
returns-in-End c = record {
  applied = λ es h. c.end.ensures.applied es c.args.event.now (record { epoch = refl; channel = refl; no_opening = ap is_opening (as_what c.args.event.now _ c.in-End.is); end = ap is_end (as_what c.args.event.now _ c.in-End.is) }) h;
  number = c.end.ensures.number;
}
