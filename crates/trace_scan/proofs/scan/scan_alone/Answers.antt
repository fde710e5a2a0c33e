use Rattle.std.proofs.Common.{◌≡◌, ◌<◌, OnOk, refl, subst, sym, ap}
use Rattle.std.specs.Prelude.{IfSome}
use Rattle.std.proofs.lemmas.Result.{IfOk-from_err}
use Rattle.trace_text.specs.Represents.{IsTextFault}
use Rattle.trace_text.proofs.SourceLemmas.{passed_on, same_fault}
use Rattle.trace_text.proofs.Refused.{refused_by}
use Rattle.line_model.specs.traces.Traces.{trace_report}
use Rattle.live_report.specs.Reports.{IsTaken, IsScanFault}
use Rattle.live_report.specs.Uncounted.{trace_uncounted}
use Rattle.line_model.specs.declared.fault.Fault.TheVariants.{Write}
use Rattle.live_report.proofs.ScanLemmas.{end_kinds, end_of_text, end_part, end_refused, nothing_taken, walk_kept, walk_kept_end, walk_kinds, walk_reported, walk_taken, walk_unwritten}
use Rattle.trace_scan.proofs.scan.scan_alone.Goals as goal

pub read_to_end-requires-clause-nothing : goal.read_to_end-requires-clause-nothing
read_to_end-requires-clause-nothing g c = (c.new.ensures.represented, refl)

pub read_to_end-requires-clause-expected : goal.read_to_end-requires-clause-expected
read_to_end-requires-clause-expected g c text begins = tt

-- ---- where the whole text was read

pub end-requires : goal.end-requires
end-requires g c =
    let fed = c.in_ok-read_to_end.ensures.whole.fed.0 in
    let text = c.in_ok-read_to_end.ensures.whole.text in
    record { fed = record { fed = λ running. (text, fed); kinds = subst (λ o. IfSome o IsTextFault) (sym fed.running) tt } }

pub returns-clause-reported : goal.returns-clause-reported
returns-clause-reported g c text shown =
    let w = c.in_ok-read_to_end.ensures.whole in
    walk_reported g.K.Sink.taken c.args.sink.now c.read_to_end.new.out (g.K.Sink.taken c.end.new.sink) text w.text c.end.result w.fed.1 (w.source text shown).0 (c.end.ensures.reported w.text w.fed.0)

pub returns-clause-of_text : goal.returns-clause-of_text
returns-clause-of_text g c =
    let w = c.in_ok-read_to_end.ensures.whole in
    end_of_text c.end.result w.text (g.K.Sink.taken c.args.sink.now) (g.K.Sink.taken c.end.new.sink)
    (walk_reported g.K.Sink.taken c.args.sink.now c.read_to_end.new.out (g.K.Sink.taken c.end.new.sink) w.text w.text c.end.result w.fed.1 refl (c.end.ensures.reported w.text w.fed.0))

pub returns-clause-refused : goal.returns-clause-refused
returns-clause-refused g c text shown =
    let w = c.in_ok-read_to_end.ensures.whole in
    end_refused c.end.result (g.S.Source.left c.args.source.now) (g.S.Source.left c.read_to_end.new.source) (g.S.Source.before c.read_to_end.new.source) _ text w shown (c.end.ensures.refused w.text w.fed.0)

pub returns-clause-kinds : goal.returns-clause-kinds
returns-clause-kinds g c = end_kinds c.end.result c.end.ensures.kinds

pub returns-clause-write_failed : goal.returns-clause-write_failed
returns-clause-write_failed g c e =
    subst (λ sink. g.K.Sink.failures sink < g.K.Sink.failures c.end.new.sink) c.in_ok-read_to_end.ensures.whole.fed.1 (c.end.ensures.write_failed e)

pub returns-clause-unwritten : goal.returns-clause-unwritten
returns-clause-unwritten g c = walk_kept_end c.args.sink.now c.read_to_end.new.out c.end.new.sink c.end.result c.in_ok-read_to_end.ensures.whole.fed.1 c.end.ensures.unwritten

pub returns-clause-taken : goal.returns-clause-taken
returns-clause-taken g c text shown =
    let w = c.in_ok-read_to_end.ensures.whole in
    walk_taken g.K.Sink.taken c.args.sink.now c.read_to_end.new.out (g.K.Sink.taken c.end.new.sink) text w.text c.end.result w.fed.1 (w.source text shown).0 (c.end.ensures.taken w.text w.fed.0)

pub returns-clause-part : goal.returns-clause-part
returns-clause-part g c e =
    let w = c.in_ok-read_to_end.ensures.whole in
    end_part c.end.result w.text (g.K.Sink.taken c.args.sink.now) (g.K.Sink.taken c.end.new.sink) (c.end.ensures.refused w.text w.fed.0)
    (walk_taken g.K.Sink.taken c.args.sink.now c.read_to_end.new.out (g.K.Sink.taken c.end.new.sink) w.text w.text c.end.result w.fed.1 refl (c.end.ensures.taken w.text w.fed.0)) e

pub returns-clause-called : goal.returns-clause-called
returns-clause-called g c = c.read_to_end.ensures.called

-- ---- where reading was refused

pub returns-in_err-read_to_end-clause-reported : goal.returns-in_err-read_to_end-clause-reported
returns-in_err-read_to_end-clause-reported g c text shown = IfOk-from_err _ _ c.from_residual.ensures.0

pub returns-in_err-read_to_end-clause-of_text : goal.returns-in_err-read_to_end-clause-of_text
returns-in_err-read_to_end-clause-of_text g c = IfOk-from_err _ _ c.from_residual.ensures.0

pub returns-in_err-read_to_end-clause-refused : goal.returns-in_err-read_to_end-clause-refused
returns-in_err-read_to_end-clause-refused g c text shown =
    let fault = c.in_err-read_to_end.field-0.0 in
    passed_on c.from_residual.result fault _ c.from_residual.ensures.1
    (refused_by (g.S.Source.left c.args.source.now) (g.S.Source.left c.read_to_end.new.source) (g.S.Source.before c.read_to_end.new.source) _ _ fault text c.in_err-read_to_end.ensures.stopped (λ why. why.0) shown)

pub returns-in_err-read_to_end-clause-kinds : goal.returns-in_err-read_to_end-clause-kinds
returns-in_err-read_to_end-clause-kinds g c =
    let fault = c.in_err-read_to_end.field-0.0 in
    let u = c.in_err-read_to_end.ensures.stopped in
    passed_on c.from_residual.result fault IsScanFault c.from_residual.ensures.1 (walk_kinds _ _ u.fed u.last fault u.why)

pub returns-in_err-read_to_end-clause-write_failed : goal.returns-in_err-read_to_end-clause-write_failed
returns-in_err-read_to_end-clause-write_failed g c e =
    let fault = c.in_err-read_to_end.field-0.0 in
    let u = c.in_err-read_to_end.ensures.stopped in
    absurd (walk_unwritten _ _ u.fed u.last fault u.why (same_fault c.from_residual.result fault Write c.from_residual.ensures.1 e))

pub returns-in_err-read_to_end-clause-part : goal.returns-in_err-read_to_end-clause-part
returns-in_err-read_to_end-clause-part g c e =
    let fault = c.in_err-read_to_end.field-0.0 in
    let u = c.in_err-read_to_end.ensures.stopped in
    absurd (walk_unwritten _ _ u.fed u.last fault u.why (same_fault c.from_residual.result fault Write c.from_residual.ensures.1 e))

pub returns-in_err-read_to_end-clause-unwritten : goal.returns-in_err-read_to_end-clause-unwritten
returns-in_err-read_to_end-clause-unwritten g c =
    let fault = c.in_err-read_to_end.field-0.0 in
    let u = c.in_err-read_to_end.ensures.stopped in
    passed_on c.from_residual.result fault _ c.from_residual.ensures.1 (λ n. walk_kept _ _ u.fed u.last fault (λ fed. fed.1) u.why)

pub returns-in_err-read_to_end-clause-taken : goal.returns-in_err-read_to_end-clause-taken
returns-in_err-read_to_end-clause-taken g c text shown =
    let fault = c.in_err-read_to_end.field-0.0 in
    let u = c.in_err-read_to_end.ensures.stopped in
    passed_on c.from_residual.result fault (IsTaken (g.K.Sink.taken c.args.sink.now) (g.K.Sink.taken c.read_to_end.new.out) (trace_report text)) c.from_residual.ensures.1
    (nothing_taken _ _ (trace_report text) fault (walk_unwritten _ _ u.fed u.last fault u.why) (ap g.K.Sink.taken (walk_kept _ _ u.fed u.last fault (λ fed. fed.1) u.why)))

pub returns-in_err-read_to_end-clause-called : goal.returns-in_err-read_to_end-clause-called
returns-in_err-read_to_end-clause-called g c = c.read_to_end.ensures.called

pub returns-clause-uncounted : goal.returns-clause-uncounted
returns-clause-uncounted g c text shown =
    let w = c.in_ok-read_to_end.ensures.whole in
    subst (λ x. OnOk c.end.result (c.end.new.uncounted ≡ trace_uncounted x)) (sym (w.source text shown).0) (c.end.ensures.uncounted w.text w.fed.0)

pub returns-in_err-read_to_end-clause-uncounted : goal.returns-in_err-read_to_end-clause-uncounted
returns-in_err-read_to_end-clause-uncounted g c text shown = IfOk-from_err _ _ c.from_residual.ensures.0
