use Rattle.std.proofs.Common.{◌∙◌, ◌++◌, Err, ap, arith, length, refl, subst, sym}
use Rattle.std.specs.Prelude.{IfSome}
use Rattle.trace_text.specs.Represents.{IsTextFault}
use Rattle.live_report.specs.Found.{IsFoundBy, found}
use Rattle.live_report.proofs.LiveLemmas.{fault_of, ok_by, on_sound}
use Rattle.live_report.proofs.ReportLemmas.{apart, same}
use Rattle.live_report.proofs.live.Live.feed.Goals as goal

pub feed_rows-answer-requires : goal.feed_rows-answer-requires
feed_rows-answer-requires g c =
    let room = c.requires.fed.fed c.in_default.is in
    (room.0, record { reads = room.1.reads; running = room.1.running; observed = room.1.observed; keeps = room.1.keeps; last = room.1.last })

pub returns-clause-fed : goal.returns-clause-fed
returns-clause-fed g c = record {
  fed = λ none.
      let room = c.requires.fed.fed c.in_default.is in
      let w = ok_by c.feed_rows-answer.result _ (c.feed_rows-answer.ensures.represented room.0 (record { reads = room.1.reads; running = room.1.running; observed = room.1.observed; keeps = room.1.keeps; last = room.1.last })) (sym c.err-self.ensures.value ∙ none) in
      (room.0 ++ c.args.chunk.now, record { reads = w.reads; running = none; observed = w.observed; keeps = w.keeps; last = w.last });
  kinds = subst (λ o. IfSome o IsTextFault) (sym c.err-self.ensures.value) (fault_of c.feed_rows-answer.result IsTextFault c.feed_rows-answer.ensures.kinds);
}

pub returns-clause-represented : goal.returns-clause-represented
returns-clause-represented g c text s =
    on_sound c.feed_rows-answer.result c.err-self.result _ _ c.err-self.ensures.value (c.feed_rows-answer.ensures.represented text (record { reads = s.reads; running = s.running; observed = s.observed; keeps = s.keeps; last = s.last }))
    (λ w none. record { reads = w.reads; running = none; observed = w.observed; keeps = w.keeps; last = w.last })

pub returns-clause-refused : goal.returns-clause-refused
returns-clause-refused g c text s = c.feed_rows-answer.ensures.refused text (record { reads = s.reads; running = s.running; observed = s.observed; keeps = s.keeps; last = s.last })

pub returns-clause-found : goal.returns-clause-found
returns-clause-found g c text s =
    subst (λ l. IsFoundBy c.feed_rows-answer.result l c.feed_rows-answer.new.self.found.items (found text) (found (text ++ c.args.chunk.now))) c.clear.ensures.items
    (c.feed_rows-answer.ensures.found text (record { reads = s.reads; running = s.running; observed = s.observed; keeps = s.keeps; last = s.last }))

pub returns-clause-few : goal.returns-clause-few
returns-clause-few g c none = omega (arith, c.feed_rows-answer.ensures.few, ap (λ l. length l) c.clear.ensures.items)

pub returns-clause-again : goal.returns-clause-again
returns-clause-again g c fault r = absurd (apart c.args.self.now.refused fault c.in_default.is r)

pub returns-in-Some-clause-refused : goal.returns-in-Some-clause-refused
returns-in-Some-clause-refused g c text s = absurd (apart c.args.self.now.refused c.in-Some.fault s.running c.in-Some.is)

pub returns-in-Some-clause-found : goal.returns-in-Some-clause-found
returns-in-Some-clause-found g c text s = absurd (apart c.args.self.now.refused c.in-Some.fault s.running c.in-Some.is)

pub returns-in-Some-clause-few : goal.returns-in-Some-clause-few
returns-in-Some-clause-few g c none = absurd (apart c.args.self.now.refused c.in-Some.fault none c.in-Some.is)

pub returns-in-Some-clause-kinds : goal.returns-in-Some-clause-kinds
returns-in-Some-clause-kinds g c = subst (λ f. IfSome f IsTextFault) c.in-Some.is c.requires.fed.kinds

pub returns-in-Some-clause-again : goal.returns-in-Some-clause-again
returns-in-Some-clause-again g c fault r = (ap (λ f. Err f) (same c.args.self.now.refused c.in-Some.fault fault c.in-Some.is r), refl)
