use Rattle.std.proofs.Common.{◌++◌, List, ap, length, arith, subst, sym}
use Rattle.std.proofs.lemmas.Grind.{common_steps}
use Rattle.std.specs.Prelude.{IfSome}
use Rattle.std.proofs.lemmas.Result.{IfErr-weaker, IfOk-from_err}
use Rattle.line_model.specs.declared.fault.Fault.TheVariants.{Write}
use Rattle.live_report.proofs.ReportLemmas.{unwritten}
use Rattle.trace_text.proofs.SourceLemmas.{passed_on, same_fault}
use Rattle.trace_text.specs.Represents.{IsTextFault}
use Rattle.live_report.specs.Reports.{IsReportFault}
use Rattle.line_model.specs.declared.finding.Finding.{Finding}
use Rattle.live_report.specs.Found.{found}
use Rattle.live_report.proofs.FollowLemmas.{always, fed_few, found_length, text_report, written_all, written_first}
use Rattle.live_report.proofs.follow.Follower.write_found.Goals as goal

pub overflow_add-self : goal.overflow_add-self
overflow_add-self g c =
    let s = c.requires.1 in
    let findings_written = s.few in
    let fed = fed_few c.args.self.now.live.lines c.requires.0 s.live.reads in
    let few = c.feed-read.ensures.few s.live.running in
    omega (arith, findings_written, fed, few, ap (λ (xs : List Finding). length xs) c.found-found.ensures, c.type_inv.chunk)

pub returns-clause-represented : goal.returns-clause-represented
returns-clause-represented g c text s =
    let findings_written = s.few in
    let few = c.feed-read.ensures.few s.live.running in
    let count = ap (λ (xs : List Finding). length xs) c.found-found.ensures in
    let more = found_length c.feed-read.new.self.found.items (found text) (found (text ++ c.args.chunk.now)) (c.in_ok-read.ensures.found text s.live) in
    always c.write_findings-written.result _ (record {
      live = c.in_ok-read.ensures.represented text s.live;
      running = s.running;
      findings_written = omega (arith, s.findings_written, count, more);
      few = omega (arith, findings_written, few, count, c.in_ok-read.ensures.size);
    })

pub returns-clause-findings_written : goal.returns-clause-findings_written
returns-clause-findings_written g c text before s has =
    written_all c.write_findings-written.result before (g.K.Sink.taken c.args.sink.now) (g.K.Sink.taken c.write_findings-written.new.sink) text (text ++ c.args.chunk.now) c.found-found.result.now c.feed-read.new.self.found.items c.found-found.ensures has
    (c.in_ok-read.ensures.found text s.live) c.write_findings-written.ensures.ok

pub returns-clause-taken : goal.returns-clause-taken
returns-clause-taken g c text before s has =
    written_first c.feed-read.result c.write_findings-written.result before (g.K.Sink.taken c.args.sink.now) (g.K.Sink.taken c.write_findings-written.new.sink) text (text ++ c.args.chunk.now) c.found-found.result.now c.feed-read.new.self.found.items c.found-found.ensures has
    (c.feed-read.ensures.found text s.live) c.write_findings-written.ensures.ok c.write_findings-written.ensures.part

pub returns-in_err-read-clause-taken : goal.returns-in_err-read-clause-taken
returns-in_err-read-clause-taken g c text before s has =
    written_first c.feed-read.result c.write_findings-written.result before (g.K.Sink.taken c.args.sink.now) (g.K.Sink.taken c.write_findings-written.new.sink) text (text ++ c.args.chunk.now) c.found-found.result.now c.feed-read.new.self.found.items c.found-found.ensures has
    (c.feed-read.ensures.found text s.live) c.write_findings-written.ensures.ok c.write_findings-written.ensures.part

pub feed-read-requires : goal.feed-read-requires
feed-read-requires g c =
    let s = c.requires.1 in
    record { fed = record { fed = λ r. (c.requires.0, s.live); kinds = subst (λ o. IfSome o IsTextFault) (sym s.live.running) tt } }

pub returns-clause-size : goal.returns-clause-size
returns-clause-size g c = always c.write_findings-written.result _ c.in_ok-read.ensures.size

pub returns-clause-limit : goal.returns-clause-limit
returns-clause-limit g c = always c.write_findings-written.result _ c.in_ok-read.ensures.limit

pub returns-clause-kinds : goal.returns-clause-kinds
returns-clause-kinds g c = IfErr-weaker c.write_findings-written.result _ IsReportFault (λ f w. subst IsReportFault (sym w) tt) c.write_findings-written.ensures.write

pub returns-in_err-read-clause-kinds : goal.returns-in_err-read-clause-kinds
returns-in_err-read-clause-kinds g c = passed_on c.from_residual.result c.in_err-read.field-0.0 _ c.from_residual.ensures.1 (text_report c.in_err-read.field-0.0 c.in_err-read.ensures.kinds)

pub returns-in_err-read-clause-at_line : goal.returns-in_err-read-clause-at_line
returns-in_err-read-clause-at_line g c = grind (arith, common_steps)

pub returns-in_err-read-clause-represented : goal.returns-in_err-read-clause-represented
returns-in_err-read-clause-represented g c text s = IfOk-from_err _ _ c.from_residual.ensures.0

pub returns-in_err-read-clause-findings_written : goal.returns-in_err-read-clause-findings_written
returns-in_err-read-clause-findings_written g c text before s has = IfOk-from_err _ _ c.from_residual.ensures.0

pub returns-in_err-read-clause-size : goal.returns-in_err-read-clause-size
returns-in_err-read-clause-size g c = IfOk-from_err _ _ c.from_residual.ensures.0

pub returns-in_err-read-clause-limit : goal.returns-in_err-read-clause-limit
returns-in_err-read-clause-limit g c = IfOk-from_err _ _ c.from_residual.ensures.0

pub returns-in_err-read-clause-rising : goal.returns-in_err-read-clause-rising
returns-in_err-read-clause-rising g c = c.write_findings-written.ensures.rising

pub returns-in_err-read-clause-write_failed : goal.returns-in_err-read-clause-write_failed
returns-in_err-read-clause-write_failed g c e = absurd (unwritten c.in_err-read.field-0.0 c.in_err-read.ensures.kinds (same_fault c.from_residual.result c.in_err-read.field-0.0 Write c.from_residual.ensures.1 e))

pub returns-clause-rising : goal.returns-clause-rising
returns-clause-rising g c = c.write_findings-written.ensures.rising
