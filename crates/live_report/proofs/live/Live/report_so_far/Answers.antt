use Rattle.std.proofs.Common.{◌∙◌, Err, ap, subst, sym}
use Rattle.std.specs.Prelude.{IfSome}
use Rattle.std.proofs.lemmas.Result.{IfOk-from_err}
use Rattle.line_model.specs.packets.Says.{items_of}
use Rattle.line_model.specs.text.Text.{early_rows, fault}
use Rattle.trace_text.specs.EndedPart.{ended_part}
use Rattle.trace_text.specs.Represents.{IsFaultOf, IsTextFault, Represents as IsReaderOf}
use Rattle.trace_text.proofs.EndedLemmas.{part-header, part-rows}
use Rattle.live_report.specs.Reports.{IsMissing}
use Rattle.live_report.proofs.LiveLemmas.{nothing_seen, observing_of}
use Rattle.live_report.proofs.ReportLemmas.{apart, memory_only, reported_at, same}
use Rattle.live_report.proofs.live.Live.report_so_far.Goals as goal

pub report-requires : goal.report-requires
report-requires g c =
    let room = c.requires.fed.fed c.in_default.is in
    let seen = observing_of g.C.Channel.interface_of g.C.Channel.number_of g.C.Channel.represents c.args.self.now room.0 c.in-Some-observer.observer room.1 (sym (ap (λ v. v.observer) c.self.view_is) ∙ c.in-Some-observer.is) in
    record { room = (seen.0, items_of seen.0 (early_rows room.0), seen.1.observes) }

pub returns-in-Some-observer-clause-report_is : goal.returns-in-Some-observer-clause-report_is
returns-in-Some-observer-clause-report_is g c text s =
    let seen = observing_of g.C.Channel.interface_of g.C.Channel.number_of g.C.Channel.represents c.args.self.now text c.in-Some-observer.observer s (sym (ap (λ v. v.observer) c.self.view_is) ∙ c.in-Some-observer.is) in
    let part = part-header c.args.self.now.lines text seen.0 s.reads seen.1.header in
    reported_at (ended_part text) seen.0 (items_of seen.0 (early_rows text)) c.report.result (c.report.ensures.report seen.0 (items_of seen.0 (early_rows text)) seen.1.observes) part.0 part.1
    (ap (items_of seen.0) (part-rows c.args.self.now.lines text s.reads))

pub returns-in-None-clause-report_is : goal.returns-in-None-clause-report_is
returns-in-None-clause-report_is g c text s =
    let none = nothing_seen g.C.Channel.interface_of g.C.Channel.number_of g.C.Channel.represents c.args.self.now text s (sym (ap (λ v. v.observer) c.self.view_is) ∙ c.in-None.is) in
    let part = c.in_ok-interface.ensures.ok text (subst (λ reader. IsReaderOf reader text) (sym (ap (λ v. v.lines) c.self.view_is)) s.reads) in
    reported_at (ended_part text) c.in_ok-interface.interface _ c.end.result (c.end.ensures.report c.in_ok-interface.interface _ c.new.ensures.walked) part.0 part.1
    (ap (items_of c.in_ok-interface.interface) (part-rows c.args.self.now.lines text s.reads ∙ none))

pub returns-in-None-clause-refused : goal.returns-in-None-clause-refused
returns-in-None-clause-refused g c text s = memory_only (IsFaultOf (fault (ended_part text))) c.end.result c.end.ensures.memory tt

pub returns-in-None-clause-missing : goal.returns-in-None-clause-missing
returns-in-None-clause-missing g c text s = memory_only (IsMissing _) c.end.result c.end.ensures.memory tt

pub returns-in-Some-clause-refused : goal.returns-in-Some-clause-refused
returns-in-Some-clause-refused g c text s = absurd (apart c.args.self.now.refused c.in-Some.fault s.running c.in-Some.is)

pub returns-in-Some-clause-missing : goal.returns-in-Some-clause-missing
returns-in-Some-clause-missing g c text s = absurd (apart c.args.self.now.refused c.in-Some.fault s.running c.in-Some.is)

pub returns-in-Some-clause-kinds : goal.returns-in-Some-clause-kinds
returns-in-Some-clause-kinds g c = subst (λ f. IfSome f IsTextFault) c.in-Some.is c.requires.fed.kinds

pub returns-in-Some-clause-again : goal.returns-in-Some-clause-again
returns-in-Some-clause-again g c fault r = ap (λ f. Err f) (same c.args.self.now.refused c.in-Some.fault fault c.in-Some.is r)

pub returns-in_err-interface-clause-report_is : goal.returns-in_err-interface-clause-report_is
returns-in_err-interface-clause-report_is g c text s = IfOk-from_err _ _ c.from_residual.ensures.0

pub returns-in_err-interface-clause-again : goal.returns-in_err-interface-clause-again
returns-in_err-interface-clause-again g c fault r = absurd (apart c.args.self.now.refused fault c.in_default.is r)
