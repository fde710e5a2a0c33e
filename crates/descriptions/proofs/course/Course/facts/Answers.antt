use Rattle.std.proofs.Common.{◌∙◌, ◌++◌, ◌∷◌, [], subst}
use Rattle.line_model.specs.observer.Calls.{all_lengths}
use Rattle.line_model.specs.observer.Machine.{routed}
use Rattle.line_model.specs.observer.Observer.{x25}
use Rattle.restart_epochs.specs.Cutting.{observer}
use Rattle.live_report.specs.JudgedRows.{taker}
use Rattle.live_report.proofs.LastLemmas.{taker_is}
use Rattle.descriptions.specs.Facts.{IsFateOf}
use Rattle.descriptions.proofs.FactLemmas.{events_are}
use Rattle.descriptions.proofs.course.Course.facts.Goals as goal

pub returns-clause-facts : goal.returns-clause-facts
returns-clause-facts g c i earlier r l epoch follows call =
    let o = observer i earlier in
    let to = routed (x25 i) o.level r in
    let by = taker_is i to o (observer i (earlier ++ r ∷ [])) c.args.last.now.judge l.judge in
    let events = c.events_of-events.ensures in
    record {
      number = l.number;
      side = l.side;
      packet = l.packet;
      judge = l.judge;
      finding = l.finding;
      fate = subst (λ es. IsFateOf (all_lengths es) c.fate.result)
          (events_are i o r (taker c.args.last.now.judge) to c.args.observer.now.events.items c.events_of-events.result.now by events.taken events.untaken l.came)
          c.fate.ensures.counted;
      reason = c.fate.ensures.reason i earlier r
          (record { number = l.number; side = l.side; packet = l.packet; judge = l.judge; finding = l.finding; came = λ k is. events.taken k (by ∙ is) ∙ l.came k is })
          events.untaken;
      epoch = epoch;
      follows = follows;
      call = call;
    }
