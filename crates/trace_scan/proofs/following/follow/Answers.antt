use Rattle.std.proofs.Common.{◌≡◌, OnOk, arith, subst, sym}
use Rattle.std.proofs.lemmas.Result.{IfOk-from_err}
use Rattle.line_model.specs.declared.fault.Fault.TheVariants.{Write}
use Rattle.trace_text.proofs.DecidedLemmas.{none_sound}
use Rattle.trace_text.proofs.SourceLemmas.{passed_on, same_fault}
use Rattle.live_report.specs.Uncounted.{trace_uncounted}
use Rattle.live_report.specs.Reports.{IsScanFault}
use Rattle.trace_scan.proofs.FollowLemmas.{end_given, end_refused, end_reported, end_some, end_taken, fed_of, nothing_followed, same_taken, stop_kinds, stop_write, stopped_given, stopped_refused, stopped_taken}
use Rattle.live_report.proofs.ScanLemmas.{end_kinds}
use Rattle.trace_scan.proofs.following.follow.Goals as goal

pub read_to_end-requires-clause-nothing : goal.read_to_end-requires-clause-nothing
read_to_end-requires-clause-nothing g c = nothing_followed _ (g.K.Sink.taken c.args.sink.now) (g.K.Sink.failures c.args.sink.now) c.new.result c.new.ensures.represented

pub read_to_end-requires-clause-expected : goal.read_to_end-requires-clause-expected
read_to_end-requires-clause-expected g c text begins = tt

-- ---- where the whole text was read

pub end-requires : goal.end-requires
end-requires g c = let w = c.in_ok-read_to_end.ensures.whole in record { fed = fed_of _ w.text c.read_to_end.new.consumer.follower w.fed.represented }

pub returns-clause-reported : goal.returns-clause-reported
returns-clause-reported g c text shown =
    let w = c.in_ok-read_to_end.ensures.whole in
    end_reported text w.text (g.K.Sink.taken c.args.sink.now) (g.K.Sink.taken c.end.new.sink) c.end.result (w.source text shown).0 (c.end.ensures.reported w.text (g.K.Sink.taken c.args.sink.now) w.fed.represented w.fed.shown)

pub returns-clause-refused : goal.returns-clause-refused
returns-clause-refused g c text shown =
    let w = c.in_ok-read_to_end.ensures.whole in
    end_refused (g.S.Source.left c.args.source.now) (g.S.Source.left c.read_to_end.new.source) (g.S.Source.before c.read_to_end.new.source) _ text c.end.result w shown (c.end.ensures.refused w.text w.fed.represented)

pub returns-clause-taken : goal.returns-clause-taken
returns-clause-taken g c text shown =
    let w = c.in_ok-read_to_end.ensures.whole in
    end_taken (g.S.Source.left c.args.source.now) (g.S.Source.left c.read_to_end.new.source) (g.S.Source.before c.read_to_end.new.source) _ text (g.K.Sink.taken c.args.sink.now) (g.K.Sink.taken c.read_to_end.new.out) (g.K.Sink.taken c.end.new.sink) _ c.end.result w shown w.fed.shown
    (c.end.ensures.refused w.text w.fed.represented) (same_taken c.end.result (g.K.Sink.taken) c.read_to_end.new.out c.end.new.sink c.end.ensures.unwritten) (c.end.ensures.taken w.text (g.K.Sink.taken c.args.sink.now) w.fed.represented w.fed.shown)

pub returns-clause-kinds : goal.returns-clause-kinds
returns-clause-kinds g c = end_kinds c.end.result c.end.ensures.kinds

pub returns-clause-write_failed : goal.returns-clause-write_failed
returns-clause-write_failed g c e =
    let w = c.in_ok-read_to_end.ensures.whole in
    omega (arith, w.fed.rising, c.end.ensures.write_failed w.text w.fed.represented e)

pub returns-clause-of_text : goal.returns-clause-of_text
returns-clause-of_text g c =
    let w = c.in_ok-read_to_end.ensures.whole in
    end_some w.text (g.K.Sink.taken c.args.sink.now) (g.K.Sink.taken c.end.new.sink) c.end.result (c.end.ensures.reported w.text (g.K.Sink.taken c.args.sink.now) w.fed.represented w.fed.shown)

pub returns-clause-of_given : goal.returns-clause-of_given
returns-clause-of_given g c =
    let w = c.in_ok-read_to_end.ensures.whole in
    end_given w.text (g.K.Sink.taken c.args.sink.now) (g.K.Sink.taken c.read_to_end.new.out) (g.K.Sink.taken c.end.new.sink) _ c.end.result (none_sound w.text w.sound) w.fed.shown
    (c.end.ensures.refused w.text w.fed.represented) (same_taken c.end.result (g.K.Sink.taken) c.read_to_end.new.out c.end.new.sink c.end.ensures.unwritten) (c.end.ensures.taken w.text (g.K.Sink.taken c.args.sink.now) w.fed.represented w.fed.shown)

pub returns-clause-called : goal.returns-clause-called
returns-clause-called g c = c.read_to_end.ensures.called

-- ---- where reading was refused

pub returns-in_err-read_to_end-clause-reported : goal.returns-in_err-read_to_end-clause-reported
returns-in_err-read_to_end-clause-reported g c text shown = IfOk-from_err _ _ c.from_residual.ensures.0

pub returns-in_err-read_to_end-clause-of_text : goal.returns-in_err-read_to_end-clause-of_text
returns-in_err-read_to_end-clause-of_text g c = IfOk-from_err _ _ c.from_residual.ensures.0

pub returns-in_err-read_to_end-clause-refused : goal.returns-in_err-read_to_end-clause-refused
returns-in_err-read_to_end-clause-refused g c text shown =
    let fault = c.in_err-read_to_end.field-0.0 in
    passed_on c.from_residual.result fault _ c.from_residual.ensures.1
    (stopped_refused _ (g.S.Source.left c.args.source.now) (g.S.Source.left c.read_to_end.new.source) (g.S.Source.before c.read_to_end.new.source) (g.K.Sink.taken c.args.sink.now) (g.K.Sink.taken c.read_to_end.new.out)
    (g.K.Sink.failures c.args.sink.now) (g.K.Sink.failures c.read_to_end.new.out) c.read_to_end.new.consumer.follower fault text shown c.in_err-read_to_end.ensures.stopped)

pub returns-in_err-read_to_end-clause-taken : goal.returns-in_err-read_to_end-clause-taken
returns-in_err-read_to_end-clause-taken g c text shown =
    let fault = c.in_err-read_to_end.field-0.0 in
    passed_on c.from_residual.result fault _ c.from_residual.ensures.1
    (stopped_taken _ (g.S.Source.left c.args.source.now) (g.S.Source.left c.read_to_end.new.source) (g.S.Source.before c.read_to_end.new.source) (g.K.Sink.taken c.args.sink.now) (g.K.Sink.taken c.read_to_end.new.out)
    (g.K.Sink.failures c.args.sink.now) (g.K.Sink.failures c.read_to_end.new.out) c.read_to_end.new.consumer.follower fault text shown c.in_err-read_to_end.ensures.stopped)

pub returns-in_err-read_to_end-clause-of_given : goal.returns-in_err-read_to_end-clause-of_given
returns-in_err-read_to_end-clause-of_given g c =
    let fault = c.in_err-read_to_end.field-0.0 in
    passed_on c.from_residual.result fault _ c.from_residual.ensures.1
    (stopped_given _ (g.S.Source.left c.args.source.now) (g.S.Source.left c.read_to_end.new.source) (g.S.Source.before c.read_to_end.new.source) (g.K.Sink.taken c.args.sink.now) (g.K.Sink.taken c.read_to_end.new.out)
    (g.K.Sink.failures c.args.sink.now) (g.K.Sink.failures c.read_to_end.new.out) c.read_to_end.new.consumer.follower fault c.in_err-read_to_end.ensures.stopped)

pub returns-in_err-read_to_end-clause-kinds : goal.returns-in_err-read_to_end-clause-kinds
returns-in_err-read_to_end-clause-kinds g c =
    let fault = c.in_err-read_to_end.field-0.0 in
    let u = c.in_err-read_to_end.ensures.stopped in
    passed_on c.from_residual.result fault IsScanFault c.from_residual.ensures.1 (stop_kinds _ _ _ _ _ c.read_to_end.new.consumer.follower u.fed u.last fault u.why)

pub returns-in_err-read_to_end-clause-write_failed : goal.returns-in_err-read_to_end-clause-write_failed
returns-in_err-read_to_end-clause-write_failed g c e =
    let fault = c.in_err-read_to_end.field-0.0 in
    let u = c.in_err-read_to_end.ensures.stopped in
    stop_write _ _ _ _ _ c.read_to_end.new.consumer.follower u.fed u.last fault u.why (same_fault c.from_residual.result fault Write c.from_residual.ensures.1 e)

pub returns-in_err-read_to_end-clause-called : goal.returns-in_err-read_to_end-clause-called
returns-in_err-read_to_end-clause-called g c = c.read_to_end.ensures.called

pub returns-clause-uncounted : goal.returns-clause-uncounted
returns-clause-uncounted g c text shown =
    let w = c.in_ok-read_to_end.ensures.whole in
    subst (λ x. OnOk c.end.result (c.end.new.uncounted ≡ trace_uncounted x)) (sym (w.source text shown).0) (c.end.ensures.uncounted w.text w.fed.represented)

pub returns-in_err-read_to_end-clause-uncounted : goal.returns-in_err-read_to_end-clause-uncounted
returns-in_err-read_to_end-clause-uncounted g c text shown = IfOk-from_err _ _ c.from_residual.ensures.0
