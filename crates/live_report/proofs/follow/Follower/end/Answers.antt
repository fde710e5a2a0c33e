use Rattle.std.proofs.Common.{◌∙◌, refl, sym, ap, subst, Err}
use Rattle.std.proofs.lemmas.Result.{IfOk-from_err}
use Rattle.std.specs.Prelude.{IfSome}
use Rattle.trace_text.proofs.SourceLemmas.{passed_on, same_fault}
use Rattle.line_model.specs.declared.fault.Fault.TheVariants.{Write}
use Rattle.line_model.specs.declared.totals.Summary.{Summary}
use Rattle.line_model.specs.traces.Traces.{trace_report}
use Rattle.live_report.specs.Follows.{text_after}
use Rattle.live_report.specs.Found.{found_text}
use Rattle.live_report.specs.Reports.{IsRefusal, IsReportFault}
use Rattle.live_report.proofs.FollowLemmas.{taken_first, taken_whole, text_report, written_split, written_within}
use Rattle.live_report.proofs.ReportLemmas.{apart, no_fault, refuses, report_sums, same, unwritten}
use Rattle.live_report.proofs.follow.Follower.end.Goals as goal

pub write_after-answer-requires : goal.write_after-answer-requires
write_after-answer-requires g c =
    let fed = c.requires.fed.fed (c.in_default.is) in
    let s = fed.1 in
    (written_within fed.0 c.in_ok-report.report c.args.self.findings_written s.live.reads.sound (c.in_ok-report.ensures.report_is fed.0 s.live) s.findings_written)

pub returns-clause-reported : goal.returns-clause-reported
returns-clause-reported g c text before s has =
    let whole = c.in_ok-report.ensures.report_is text s.live in
    let split = written_split text c.in_ok-report.report c.args.self.findings_written s.live.reads.sound whole s.findings_written in
    record {
      sound = whole.sound;
      taken = taken_whole before (g.K.Sink.taken c.args.sink.now) (g.K.Sink.taken c.write_after-answer.new.sink) (found_text text) (text_after c.args.self.findings_written c.in_ok-report.report) (trace_report text)
          split has c.in_ok-answer.ensures.ok;
      counted = ap (λ r. r.summary) c.report.view_is ∙ report_sums text c.in_ok-report.report whole;
    }

pub returns-in_err-answer-clause-taken : goal.returns-in_err-answer-clause-taken
returns-in_err-answer-clause-taken g c text before s has w =
    let whole = c.in_ok-report.ensures.report_is text s.live in
    let split = written_split text c.in_ok-report.report c.args.self.findings_written s.live.reads.sound whole s.findings_written in
    let part = c.in_err-answer.ensures.part in
    taken_first before (g.K.Sink.taken c.args.sink.now) (g.K.Sink.taken c.write_after-answer.new.sink) (found_text text) (text_after c.args.self.findings_written c.in_ok-report.report) (trace_report text) part.0 part.1
    has split part.2 part.3

pub returns-in-Some-clause-refused : goal.returns-in-Some-clause-refused
returns-in-Some-clause-refused g c text s = absurd (apart c.args.self.refused c.in-Some.fault s.running c.in-Some.is)

pub returns-in-Some-clause-kinds : goal.returns-in-Some-clause-kinds
returns-in-Some-clause-kinds g c = subst (λ f. IfSome f IsReportFault) c.in-Some.is c.requires.fed.kinds

pub returns-in-Some-clause-write_failed : goal.returns-in-Some-clause-write_failed
returns-in-Some-clause-write_failed g c text s e = absurd (apart c.args.self.refused c.in-Some.fault s.running c.in-Some.is)

pub returns-in-Some-clause-taken : goal.returns-in-Some-clause-taken
returns-in-Some-clause-taken g c text before s has e = absurd (apart c.args.self.refused c.in-Some.fault s.running c.in-Some.is)

pub returns-in-Some-clause-again : goal.returns-in-Some-clause-again
returns-in-Some-clause-again g c fault r = (ap (λ f. Err f) (same c.args.self.refused c.in-Some.fault fault c.in-Some.is r), refl)

pub returns-in_err-report-clause-refused : goal.returns-in_err-report-clause-refused
returns-in_err-report-clause-refused g c text s = passed_on c.from_residual.result c.in_err-report.field-0.0 _ c.from_residual.ensures.1 (refuses text c.in_err-report.field-0.0 (c.in_err-report.ensures.refused text s.live))

pub returns-in_err-report-clause-kinds : goal.returns-in_err-report-clause-kinds
returns-in_err-report-clause-kinds g c = passed_on c.from_residual.result c.in_err-report.field-0.0 _ c.from_residual.ensures.1 (text_report c.in_err-report.field-0.0 c.in_err-report.ensures.kinds)

pub returns-in_err-report-clause-write_failed : goal.returns-in_err-report-clause-write_failed
returns-in_err-report-clause-write_failed g c text s e = absurd (unwritten c.in_err-report.field-0.0 c.in_err-report.ensures.kinds (same_fault c.from_residual.result c.in_err-report.field-0.0 Write c.from_residual.ensures.1 e))

pub returns-in_err-report-clause-unwritten : goal.returns-in_err-report-clause-unwritten
returns-in_err-report-clause-unwritten g c = passed_on c.from_residual.result c.in_err-report.field-0.0 _ c.from_residual.ensures.1 (λ n. refl)

pub returns-in_err-report-clause-taken : goal.returns-in_err-report-clause-taken
returns-in_err-report-clause-taken g c text before s has e = absurd (unwritten c.in_err-report.field-0.0 c.in_err-report.ensures.kinds (same_fault c.from_residual.result c.in_err-report.field-0.0 Write c.from_residual.ensures.1 e))

pub returns-in_err-report-clause-again : goal.returns-in_err-report-clause-again
returns-in_err-report-clause-again g c fault r = absurd (apart c.args.self.refused fault c.in_default.is r)

pub returns-in_err-answer-clause-refused : goal.returns-in_err-answer-clause-refused
returns-in_err-answer-clause-refused g c text s = passed_on c.from_residual-in_err-answer.result c.in_err-answer.field-0.0 _ c.from_residual-in_err-answer.ensures.1 (subst (IsRefusal text) (sym c.in_err-answer.ensures.write) (c.in_ok-report.ensures.report_is text s.live).sound)

pub returns-in_err-answer-clause-kinds : goal.returns-in_err-answer-clause-kinds
returns-in_err-answer-clause-kinds g c = passed_on c.from_residual-in_err-answer.result c.in_err-answer.field-0.0 _ c.from_residual-in_err-answer.ensures.1 (subst IsReportFault (sym c.in_err-answer.ensures.write) tt)

pub returns-in_err-answer-clause-unwritten : goal.returns-in_err-answer-clause-unwritten
returns-in_err-answer-clause-unwritten g c = passed_on c.from_residual-in_err-answer.result c.in_err-answer.field-0.0 _ c.from_residual-in_err-answer.ensures.1 (λ n. absurd (n c.in_err-answer.ensures.write))

pub returns-in_err-answer-clause-again : goal.returns-in_err-answer-clause-again
returns-in_err-answer-clause-again g c fault r = absurd (apart c.args.self.refused fault c.in_default.is r)

pub returns-clause-write_failed : goal.returns-clause-write_failed
returns-clause-write_failed g c text s e = absurd (no_fault Summary _ Write e)

pub returns-clause-taken : goal.returns-clause-taken
returns-clause-taken g c text before s has e = absurd (no_fault Summary _ Write e)

pub returns-clause-again : goal.returns-clause-again
returns-clause-again g c fault r = absurd (apart c.args.self.refused fault c.in_default.is r)

pub returns-clause-uncounted : goal.returns-clause-uncounted
returns-clause-uncounted g c text s = c.in_ok-report.ensures.uncounted text s.live

pub returns-in-Some-clause-reported : goal.returns-in-Some-clause-reported
returns-in-Some-clause-reported g c text before s has = tt

pub returns-in-Some-clause-uncounted : goal.returns-in-Some-clause-uncounted
returns-in-Some-clause-uncounted g c text s = tt

pub returns-in-Some-clause-unwritten : goal.returns-in-Some-clause-unwritten
returns-in-Some-clause-unwritten g c = λ n. refl

pub returns-in_err-report-clause-reported : goal.returns-in_err-report-clause-reported
returns-in_err-report-clause-reported g c text before s has = IfOk-from_err _ _ c.from_residual.ensures.0

pub returns-in_err-report-clause-uncounted : goal.returns-in_err-report-clause-uncounted
returns-in_err-report-clause-uncounted g c text s = IfOk-from_err _ _ c.from_residual.ensures.0

pub returns-in_err-answer-clause-reported : goal.returns-in_err-answer-clause-reported
returns-in_err-answer-clause-reported g c text before s has = IfOk-from_err _ _ c.from_residual-in_err-answer.ensures.0

pub returns-in_err-answer-clause-uncounted : goal.returns-in_err-answer-clause-uncounted
returns-in_err-answer-clause-uncounted g c text s = IfOk-from_err _ _ c.from_residual-in_err-answer.ensures.0

pub returns-in_err-answer-clause-write_failed : goal.returns-in_err-answer-clause-write_failed
returns-in_err-answer-clause-write_failed g c text s e = c.in_err-answer.ensures.cause

pub returns-clause-refused : goal.returns-clause-refused
returns-clause-refused g c text s = tt

pub returns-clause-kinds : goal.returns-clause-kinds
returns-clause-kinds g c = tt

pub returns-clause-unwritten : goal.returns-clause-unwritten
returns-clause-unwritten g c = tt
