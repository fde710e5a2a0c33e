use Rattle.std.proofs.Common.{Bool, Err, None, false, true, ◌∙◌, ◌++◌, ap, refl, subst, sym}
use Rattle.std.specs.Prelude.{IfSome}
use Rattle.std.specs.Result.{result_err}
use Rattle.trace_text.specs.RowTexts.{row_text}
use Rattle.trace_text.specs.Represents.{IsTextFault}
use Rattle.live_report.specs.Found.{HasFound, found}
use Rattle.live_report.specs.Lives.{WasFed}
use Rattle.live_report.proofs.LiveLemmas.{fault_of, fed_on}
use Rattle.live_report.proofs.ReportLemmas.{apart, no_fault, same}
use Rattle.live_report.proofs.live.Live.packet.Goals as goal

pub take_packet-taken-requires : goal.take_packet-taken-requires
take_packet-taken-requires g c =
    let room = c.requires.fed.fed c.in_default.is in
    (room.0, record { reads = room.1.reads; running = room.1.running; observed = room.1.observed; keeps = room.1.keeps; last = room.1.last })

pub returns-clause-fed : goal.returns-clause-fed
returns-clause-fed g c = record {
  fed = λ none.
      let room = c.requires.fed.fed c.in_default.is in
      let w = fed_on c.take_packet-taken.result _ (λ text. WasFed g.C.Channel text c.take_packet-taken.new.self) room.0 (row_text (record { number = c.args.number; side = c.args.side; octets = c.args.octets.now; gap = None })) c.err-self.ensures.value
      (c.take_packet-taken.ensures.taken room.0 (record { reads = room.1.reads; running = room.1.running; observed = room.1.observed; keeps = room.1.keeps; last = room.1.last })) (c.take_packet-taken.ensures.passed room.0 (record { reads = room.1.reads; running = room.1.running; observed = room.1.observed; keeps = room.1.keeps; last = room.1.last })) none in
      (w.0, record { reads = w.1.reads; running = none; observed = w.1.observed; keeps = w.1.keeps; last = w.1.last });
  kinds = subst (λ o. IfSome o IsTextFault) (sym c.err-self.ensures.value) (fault_of c.take_packet-taken.result IsTextFault c.take_packet-taken.ensures.kinds);
}

pub returns-clause-taken : goal.returns-clause-taken
returns-clause-taken g c text s report_is =
    let w = c.take_packet-taken.ensures.taken text (record { reads = s.reads; running = s.running; observed = s.observed; keeps = s.keeps; last = s.last }) report_is in
    record { reads = w.reads; running = c.err-self.ensures.value ∙ ap result_err report_is; observed = w.observed; keeps = w.keeps; last = w.last }

pub returns-clause-passed : goal.returns-clause-passed
returns-clause-passed g c text s report_is =
    let w = c.take_packet-taken.ensures.passed text (record { reads = s.reads; running = s.running; observed = s.observed; keeps = s.keeps; last = s.last }) report_is in
    record { reads = w.reads; running = c.err-self.ensures.value ∙ ap result_err report_is; observed = w.observed; keeps = w.keeps; last = w.last }

pub returns-clause-found : goal.returns-clause-found
returns-clause-found g c text s report_is =
    subst (λ l. HasFound l c.take_packet-taken.new.self.found.items (found text) (found (text ++ (row_text (record { number = c.args.number; side = c.args.side; octets = c.args.octets.now; gap = None }))))) c.clear.ensures.items
    (c.take_packet-taken.ensures.found text (record { reads = s.reads; running = s.running; observed = s.observed; keeps = s.keeps; last = s.last }) report_is)

pub returns-in-Some-clause-taken : goal.returns-in-Some-clause-taken
returns-in-Some-clause-taken g c text s is = absurd (no_fault Bool true c.in-Some.fault (sym is))

pub returns-in-Some-clause-passed : goal.returns-in-Some-clause-passed
returns-in-Some-clause-passed g c text s is = absurd (no_fault Bool false c.in-Some.fault (sym is))

pub returns-in-Some-clause-found : goal.returns-in-Some-clause-found
returns-in-Some-clause-found g c text s is = absurd (no_fault Bool true c.in-Some.fault (sym is))

pub returns-in-Some-clause-kinds : goal.returns-in-Some-clause-kinds
returns-in-Some-clause-kinds g c = subst (λ f. IfSome f IsTextFault) c.in-Some.is c.requires.fed.kinds

pub returns-in-Some-clause-again : goal.returns-in-Some-clause-again
returns-in-Some-clause-again g c fault r = (ap (λ f. Err f) (same c.args.self.now.refused c.in-Some.fault fault c.in-Some.is r), refl)

pub returns-clause-again : goal.returns-clause-again
returns-clause-again g c fault r = absurd (apart c.args.self.now.refused fault c.in_default.is r)
