use Rattle.std.proofs.Common.{◌<◌, refl, subst, sym}
use Rattle.std.proofs.lemmas.Result.{IfOk-from_err}
use Rattle.line_model.specs.declared.fault.Fault.TheVariants.{Write}
use Rattle.trace_text.proofs.SourceLemmas.{passed_on, same_fault}
use Rattle.live_report.specs.Reports.{IsScanFault}
use Rattle.header_trials.specs.TriedLines.{HasTriedPart}
use Rattle.trace_text.proofs.Refused.{refused_by}
use Rattle.live_report.proofs.ScanLemmas.{walk_kept, walk_kinds, walk_unwritten}
use Rattle.header_trials.proofs.TriedLemmas.{whole_kept, whole_kinds, whole_refused, whole_text, whole_tried}
use Rattle.header_trials.proofs.trying.try_headers.Goals as goal

pub read_to_end-requires-clause-nothing : goal.read_to_end-requires-clause-nothing
read_to_end-requires-clause-nothing g c = (c.new-text.ensures, refl)

pub read_to_end-requires-clause-expected : goal.read_to_end-requires-clause-expected
read_to_end-requires-clause-expected g c text begins = tt

-- ---- where the whole text was read

pub write_tried-requires : goal.write_tried-requires
write_tried-requires g c = let w = c.in_ok-read_to_end.ensures.whole in (w.text, w.fed.0)

pub returns-clause-tried : goal.returns-clause-tried
returns-clause-tried g c text shown =
    let w = c.in_ok-read_to_end.ensures.whole in
    whole_tried g.K.Sink.taken c.args.sink.now c.read_to_end.new.out (g.K.Sink.taken c.write_tried.new.sink) text w.text c.write_tried.result w.fed.1 (w.source text shown).0 (c.write_tried.ensures.tried w.text w.fed.0)

pub returns-clause-of_text : goal.returns-clause-of_text
returns-clause-of_text g c =
    let w = c.in_ok-read_to_end.ensures.whole in
    whole_text c.write_tried.result w.text (g.K.Sink.taken c.args.sink.now) (g.K.Sink.taken c.write_tried.new.sink)
    (whole_tried g.K.Sink.taken c.args.sink.now c.read_to_end.new.out (g.K.Sink.taken c.write_tried.new.sink) w.text w.text c.write_tried.result w.fed.1 refl (c.write_tried.ensures.tried w.text w.fed.0))

pub returns-clause-refused : goal.returns-clause-refused
returns-clause-refused g c text shown =
    let w = c.in_ok-read_to_end.ensures.whole in
    whole_refused c.write_tried.result (g.S.Source.left c.args.source.now) (g.S.Source.left c.read_to_end.new.source) (g.S.Source.before c.read_to_end.new.source) _ text w shown (c.write_tried.ensures.refused w.text w.fed.0)

pub returns-clause-kinds : goal.returns-clause-kinds
returns-clause-kinds g c = whole_kinds c.write_tried.result c.write_tried.ensures.kinds

pub returns-clause-write_failed : goal.returns-clause-write_failed
returns-clause-write_failed g c e =
    subst (λ sink. g.K.Sink.failures sink < g.K.Sink.failures c.write_tried.new.sink) c.in_ok-read_to_end.ensures.whole.fed.1 (c.write_tried.ensures.write_failed e)

pub returns-clause-unwritten : goal.returns-clause-unwritten
returns-clause-unwritten g c = whole_kept c.args.sink.now c.read_to_end.new.out c.write_tried.new.sink c.write_tried.result c.in_ok-read_to_end.ensures.whole.fed.1 c.write_tried.ensures.unwritten

pub returns-clause-part : goal.returns-clause-part
returns-clause-part g c text shown e =
    let w = c.in_ok-read_to_end.ensures.whole in
    subst (λ t. HasTriedPart t (g.K.Sink.taken c.args.sink.now) (g.K.Sink.taken c.write_tried.new.sink)) (sym (w.source text shown).0)
    (subst (λ sink. HasTriedPart w.text (g.K.Sink.taken sink) (g.K.Sink.taken c.write_tried.new.sink)) w.fed.1 (c.write_tried.ensures.part w.text w.fed.0 e))

pub returns-clause-part_of_text : goal.returns-clause-part_of_text
returns-clause-part_of_text g c e =
    let w = c.in_ok-read_to_end.ensures.whole in
    (w.text, subst (λ sink. HasTriedPart w.text (g.K.Sink.taken sink) (g.K.Sink.taken c.write_tried.new.sink)) w.fed.1 (c.write_tried.ensures.part w.text w.fed.0 e))

pub returns-clause-called : goal.returns-clause-called
returns-clause-called g c = c.read_to_end.ensures.called

-- ---- where reading was refused

pub returns-in_err-read_to_end-clause-tried : goal.returns-in_err-read_to_end-clause-tried
returns-in_err-read_to_end-clause-tried g c text shown = IfOk-from_err _ _ c.from_residual.ensures.0

pub returns-in_err-read_to_end-clause-of_text : goal.returns-in_err-read_to_end-clause-of_text
returns-in_err-read_to_end-clause-of_text g c = IfOk-from_err _ _ c.from_residual.ensures.0

pub returns-in_err-read_to_end-clause-refused : goal.returns-in_err-read_to_end-clause-refused
returns-in_err-read_to_end-clause-refused g c text shown =
    let fault = c.in_err-read_to_end.field-0.0 in
    passed_on c.from_residual.result fault _ c.from_residual.ensures.1
    (refused_by (g.S.Source.left c.args.source.now) (g.S.Source.left c.read_to_end.new.source) (g.S.Source.before c.read_to_end.new.source) _ _ fault text c.in_err-read_to_end.ensures.stopped (λ why. why.0) shown)

pub returns-in_err-read_to_end-clause-kinds : goal.returns-in_err-read_to_end-clause-kinds
returns-in_err-read_to_end-clause-kinds g c =
    let fault = c.in_err-read_to_end.field-0.0 in
    let u = c.in_err-read_to_end.ensures.stopped in
    passed_on c.from_residual.result fault IsScanFault c.from_residual.ensures.1 (walk_kinds _ _ u.fed u.last fault u.why)

pub returns-in_err-read_to_end-clause-write_failed : goal.returns-in_err-read_to_end-clause-write_failed
returns-in_err-read_to_end-clause-write_failed g c e =
    let fault = c.in_err-read_to_end.field-0.0 in
    let u = c.in_err-read_to_end.ensures.stopped in
    absurd (walk_unwritten _ _ u.fed u.last fault u.why (same_fault c.from_residual.result fault Write c.from_residual.ensures.1 e))

pub returns-in_err-read_to_end-clause-part : goal.returns-in_err-read_to_end-clause-part
returns-in_err-read_to_end-clause-part g c text shown e =
    let fault = c.in_err-read_to_end.field-0.0 in
    let u = c.in_err-read_to_end.ensures.stopped in
    absurd (walk_unwritten _ _ u.fed u.last fault u.why (same_fault c.from_residual.result fault Write c.from_residual.ensures.1 e))

pub returns-in_err-read_to_end-clause-part_of_text : goal.returns-in_err-read_to_end-clause-part_of_text
returns-in_err-read_to_end-clause-part_of_text g c e =
    let fault = c.in_err-read_to_end.field-0.0 in
    let u = c.in_err-read_to_end.ensures.stopped in
    absurd (walk_unwritten _ _ u.fed u.last fault u.why (same_fault c.from_residual.result fault Write c.from_residual.ensures.1 e))

pub returns-in_err-read_to_end-clause-unwritten : goal.returns-in_err-read_to_end-clause-unwritten
returns-in_err-read_to_end-clause-unwritten g c =
    let fault = c.in_err-read_to_end.field-0.0 in
    let u = c.in_err-read_to_end.ensures.stopped in
    passed_on c.from_residual.result fault _ c.from_residual.ensures.1 (λ n. walk_kept _ _ u.fed u.last fault (λ fed. fed.1) u.why)

pub returns-in_err-read_to_end-clause-called : goal.returns-in_err-read_to_end-clause-called
returns-in_err-read_to_end-clause-called g c = c.read_to_end.ensures.called
