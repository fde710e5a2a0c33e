use Rattle.line_model.specs.declared.fault.Fault.TheVariants.{Write}
use Rattle.std.proofs.Common.{◌≡◌, ◌<◌, ◌∙◌, ap, append-nil, arith, inl, inr, length, refl, subst, sym, Some, false, true}
use Rattle.std.specs.Prelude.{OnOk, IfErr}
use Rattle.line_model.specs.basics.Device.{with_more}
use Rattle.json_lines.specs.Json.{json_text}
use Rattle.command_line.specs.Program.{IsReportStatus, fault_status, is_followed, lag_of, status_of}
use Rattle.command_line.specs.Stopped.{has_workers}
use Rattle.command_line.proofs.JsonLemmas.{json_cause, none_failed, reported_json, scanned_afresh, given_back}
use Rattle.command_line.proofs.StatusLemmas.{any_status, other_with, refused_lines, scan_status}
use Rattle.command_line.proofs.StopLemmas.{write_cause}
use Rattle.command_line.proofs.json.scan_to.Given.{Over}
use Rattle.command_line.proofs.json.scan_to.Goals as goal

pub returns-in-Ok-clause-shown : goal.returns-in-Ok-clause-shown
returns-in-Ok-clause-shown g c text shown =
    let taken = c.run_scan-scanned.new.sink.lines.given.bytes in
    let failures = length c.run_scan-scanned.new.sink.lines.refused.bytes in
    let back = c.give_back in
    let status = status_of c.run_scan-scanned.result in
    given_back (lag_of c.args.mode) (is_followed c.args.mode) text _ _ _ (g.K.Sink.taken c.finish-lent.result.0.sink.now) _ (g.K.Sink.failures c.finish-lent.result.0.sink.now) _ _ _ back.ensures.taken back.ensures.failures
    (record {
      given = taken;
      failures = failures;
      plain = status;
      scanned = scanned_afresh (lag_of c.args.mode) (is_followed c.args.mode) text _ _ _ _ _ failures status c.new-json.ensures.taken c.new-json.ensures.failures
          (scan_status (lag_of c.args.mode) (is_followed c.args.mode) text _ _ _ _ _ c.run_scan-scanned.result (c.run_scan-scanned.ensures.reported text shown) (c.run_scan-scanned.ensures.refused text shown) (λ e well. omega (arith, c.run_scan-scanned.ensures.write_failed e, well)));
      objects = inl (
        none_failed failures c.finish-lent.result.1 _ c.in-Ok.is c.finish-lent.ensures.refused,
        refl,
        subst (λ r. OnOk r (g.K.Sink.taken c.finish-lent.result.0.sink.now ≡ with_more g.B.Origin.before.0 (json_text taken))) c.in-Ok.is (c.finish-lent.ensures.ok taken refl) ∙ ap (λ t. with_more g.B.Origin.before.0 t) (sym (append-nil (json_text taken))),
      );
      none = λ high. refl;
    })

-- the sink failed
failed : (g : Over) → (c : goal.After-give_back-in-Err g) → (c.in-Err.fault ≡ Write) × (g.B.Origin.before.1 < g.K.Sink.failures c.finish-lent.result.0.sink.now)
failed g c = subst (λ r. IfErr r (λ fault. (fault ≡ Write) × (g.B.Origin.before.1 < g.K.Sink.failures c.finish-lent.result.0.sink.now))) c.in-Err.is c.finish-lent.ensures.failed

pub returns-in-Err-clause-shown : goal.returns-in-Err-clause-shown
returns-in-Err-clause-shown g c text shown =
    let taken = c.run_scan-scanned.new.sink.lines.given.bytes in
    let failures = length c.run_scan-scanned.new.sink.lines.refused.bytes in
    let part = c.finish-lent.ensures.part taken refl in
    let back = c.give_back-in-Err in
    let status = status_of c.run_scan-scanned.result in
    given_back (lag_of c.args.mode) (is_followed c.args.mode) text _ _ _ (g.K.Sink.taken c.finish-lent.result.0.sink.now) _ (g.K.Sink.failures c.finish-lent.result.0.sink.now) _ _ _ back.ensures.taken back.ensures.failures
    (record {
      given = taken;
      failures = failures;
      plain = status;
      scanned = scanned_afresh (lag_of c.args.mode) (is_followed c.args.mode) text _ _ _ _ _ failures status c.new-json.ensures.taken c.new-json.ensures.failures
          (scan_status (lag_of c.args.mode) (is_followed c.args.mode) text _ _ _ _ _ c.run_scan-scanned.result (c.run_scan-scanned.ensures.reported text shown) (c.run_scan-scanned.ensures.refused text shown) (λ e well. omega (arith, c.run_scan-scanned.ensures.write_failed e, well)));
      objects = inr (ap fault_status (failed g c).0, (λ well. omega (arith, (failed g c).1, well)), record { front = part.0; rest = part.1; whole = append-nil (json_text taken) ∙ part.2; taken = part.3 });
      none = λ high. refl;
    })

pub returns-in-Ok-clause-reported : goal.returns-in-Ok-clause-reported
returns-in-Ok-clause-reported g c =
    let taken = c.run_scan-scanned.new.sink.lines.given.bytes in
    let status = status_of c.run_scan-scanned.result in
    reported_json taken g.B.Origin.before.0 (g.K.Sink.taken c.give_back.result.now) status
    (subst (λ b. IsReportStatus false b (Some taken) status) c.new-json.ensures.taken (any_status _ _ c.run_scan-scanned.result c.run_scan-scanned.ensures.of_text))
    (c.give_back.ensures.taken ∙ subst (λ r. OnOk r (g.K.Sink.taken c.finish-lent.result.0.sink.now ≡ with_more g.B.Origin.before.0 (json_text taken))) c.in-Ok.is (c.finish-lent.ensures.ok taken refl))

pub returns-in-Err-clause-reported : goal.returns-in-Err-clause-reported
returns-in-Err-clause-reported g c = other_with true g.B.Origin.before.0 (g.K.Sink.taken c.give_back-in-Err.result.now) (fault_status c.in-Err.fault) (ap fault_status (failed g c).0)

pub returns-in-Ok-clause-refused : goal.returns-in-Ok-clause-refused
returns-in-Ok-clause-refused g c text shown = refused_lines (lag_of c.args.mode) (is_followed c.args.mode) text _ _ _ _ _ c.run_scan-scanned.result (c.run_scan-scanned.ensures.refused text shown)

pub returns-in-Err-clause-refused : goal.returns-in-Err-clause-refused
returns-in-Err-clause-refused g c text shown two = absurd (omega (arith, two, ap fault_status (failed g c).0))

pub returns-in-Ok-clause-cause : goal.returns-in-Ok-clause-cause
returns-in-Ok-clause-cause g c =
    let failures = length c.run_scan-scanned.new.sink.lines.refused.bytes in
    json_cause _ _ _ _ c.run_scan-scanned.result c.run_scan-scanned.ensures.cause
    (λ more. omega (arith, more, c.new-json.ensures.failures, none_failed failures c.finish-lent.result.1 _ c.in-Ok.is c.finish-lent.ensures.refused))

pub returns-in-Err-clause-cause : goal.returns-in-Err-clause-cause
returns-in-Err-clause-cause g c =
    let more : g.B.Origin.before.1 < g.K.Sink.failures c.give_back-in-Err.result.now = subst (λ n. g.B.Origin.before.1 < n) (sym c.give_back-in-Err.ensures.failures) (failed g c).1 in
    write_cause (g.S.Source.failures c.args.source.now < g.S.Source.failures c.run_scan-scanned.new.source) (g.B.Origin.before.1 < g.K.Sink.failures c.give_back-in-Err.result.now)
    ((has_workers c.args.mode ≡ true) × (g.S.Source.calls c.run_scan-scanned.new.source ≡ g.S.Source.calls c.args.source.now)) c.in-Err.fault (failed g c).0 more
