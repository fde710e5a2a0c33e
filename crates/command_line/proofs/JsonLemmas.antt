-- What the status says of a report that is printed as JSON lines.
use Rattle.std.proofs.Common.{◌≡◌, ◌∙◌, ap, ◌<◌, ℕ, zero, suc, Bool, false, true, List, [], ◌++◌, Option, Some, Result, Ok, Err, inl, inr, refl, subst, sym, arith, append-nil, append_assoc, flat_map}
use Rattle.std.specs.Prelude.{IfErr, IfOk, OnErr}
use Rattle.line_model.specs.declared.fault.Fault.{Fault}
use Rattle.line_model.specs.declared.fault.Fault.TheVariants.{Write}
use Rattle.line_model.specs.declared.totals.Summary.{Summary}
use Rattle.line_model.specs.basics.Device.{with_more}
use Rattle.line_model.specs.basics.Written.{HasFront}
use Rattle.line_model.proofs.DeviceLemmas.{with_more-append}
use Rattle.line_model.specs.traces.Traces.{trace_report}
use Rattle.descriptions.specs.Circuits.{Circuit}
use Rattle.descriptions.specs.RowObjects.{circuit_object}
use Rattle.json_lines.specs.Json.{json_text}
use Rattle.command_line.specs.Program.{AreObjects, IsReportStatus, IsReportStatusWith, IsScanned, IsScannedAsJson, RefusesLine, fault_status, objects_text, status_of, summary_status}
use Rattle.command_line.specs.Stopped.{IsCause}
use Rattle.command_line.proofs.StatusLemmas.{other_any, small}
use Rattle.command_line.proofs.StopLemmas.{more_cause, write_cause}

-- what a scan says of a sink that had accepted nothing and not failed
pub scanned_afresh : (lag : ℕ) (followed : Bool) (text : List ℕ) (left asked before after : Option (List ℕ)) (failed failures status : ℕ) →
    before ≡ Some [] → failed ≡ 0 →
    IsScanned lag followed text left asked before after (failures ≡ failed) status →
    IsScanned lag followed text left asked (Some []) after (failures ≡ 0) status
scanned_afresh lag followed text left asked before after failed failures status fresh well scanned =
    subst (λ f. IsScanned lag followed text left asked (Some []) after (failures ≡ f) status) well
    (subst (λ b. IsScanned lag followed text left asked b after (failures ≡ failed) status) fresh scanned)

-- no refusal
abbrev IsFine : {U : Type 0} → Result U Fault → Type 0
IsFine (Ok u) = Unit {0}
IsFine (Err fault) = ⊥

-- a sink that returns `Ok` has not failed
pub none_failed : {U : Type 0} (failures : ℕ) (answer : Result U Fault) (u : U) → answer ≡ Ok u → (0 < failures → answer ≡ Err Write) → failures ≡ 0
none_failed zero answer u fine failed = refl
none_failed (suc n) answer u fine failed = absurd (subst (λ r. IsFine r) (failed (omega (arith))) (subst (λ r. IsFine r) (sym fine) tt))

-- what shows a fault of the scan, where its sink has not failed
pub json_cause : {T : Type 0} (a b b′ d : Type 0) (r : Result T Fault) → IfErr r (IsCause a b d) → (¬ b) → IfErr r (IsCause a b′ d)
json_cause a b b′ d (Ok t) cause none = tt
json_cause a b b′ d (Err f) cause none = more_cause a b d a b′ d f (λ x. x) (λ x. absurd (none x)) (λ x. x) cause

-- the same of a lent sink that came back
pub given_back : (lag : ℕ) (followed : Bool) (text : List ℕ) (left asked before taken after : Option (List ℕ)) (failed failures was status : ℕ) → after ≡ taken → failures ≡ failed →
    IsScannedAsJson [] lag followed text left asked before taken (failed ≡ was) status → IsScannedAsJson [] lag followed text left asked before after (failures ≡ was) status
given_back lag followed text left asked before taken after failed failures was status same well shown =
    subst (λ f. IsScannedAsJson [] lag followed text left asked before after (f ≡ was) status) (sym well)
    (subst (λ t. IsScannedAsJson [] lag followed text left asked before t (failed ≡ was) status) (sym same) shown)

-- the objects of a report that was accepted
pub reported_json : (lines : List ℕ) (before after : Option (List ℕ)) (status : ℕ) → IsReportStatus false (Some []) (Some lines) status → after ≡ with_more before (json_text lines) → IsReportStatusWith true [] before after status
reported_json lines before after status (circuits, r) taken = record {
  reported = λ few.
      let report = r.reported few in
      let same : lines ≡ trace_report report.text = let e = report.taken in cc in
      record {
        text = report.text;
        sound = report.sound;
        taken = taken ∙ ap (λ t. with_more before t) (sym (append-nil (json_text lines)) ∙ ap (λ t. objects_text t []) same);
        counted = report.counted;
      };
  range = r.range;
}

-- ---- the objects of circuits behind those of a report

more_objects : (before taken after : Option (List ℕ)) (given more : List ℕ) → taken ≡ with_more before (json_text given ++ []) → after ≡ with_more taken more → after ≡ with_more before (json_text given ++ more)
more_objects before taken after given more is grown =
    grown ∙ ap (λ t. with_more t more) (is ∙ ap (λ t. with_more before t) (append-nil (json_text given))) ∙ with_more-append before (json_text given) more

-- a sink accepted them all
pub with_circuits : (circuits : List Circuit) (lag : ℕ) (followed : Bool) (text : List ℕ) (left asked before taken after : Option (List ℕ)) (was now : Type 0) (status : ℕ) → status < 2 → after ≡ with_more taken (flat_map circuit_object circuits)
    → IsScannedAsJson [] lag followed text left asked before taken was status → IsScannedAsJson circuits lag followed text left asked before after now status
with_circuits circuits lag followed text left asked before taken after was now status few grown s = at s.objects
  where
    at : AreObjects s.given [] s.failures s.plain before taken was status → IsScannedAsJson circuits lag followed text left asked before after now status
    at (inl o) = record {
      given = s.given;
      failures = s.failures;
      plain = s.plain;
      scanned = s.scanned;
      objects = inl (o.0, o.1, more_objects before taken after s.given (flat_map circuit_object circuits) o.2 grown);
      none = λ high. absurd (omega (arith, high, few, o.1));
    }
    at (inr o) = absurd (omega (arith, few, o.0))

-- it failed, and accepted a first part of them
pub cut_circuits : (circuits : List Circuit) (lag : ℕ) (followed : Bool) (text : List ℕ) (left asked before taken after : Option (List ℕ)) (was now : Type 0) (status : ℕ) → status < 2 → (¬ now) → HasFront taken after (flat_map circuit_object circuits)
    → IsScannedAsJson [] lag followed text left asked before taken was status → (cs : List Circuit) × IsScannedAsJson cs lag followed text left asked before after now 3
cut_circuits circuits lag followed text left asked before taken after was now status few failed front s = at s.objects
  where
    at : AreObjects s.given [] s.failures s.plain before taken was status → (cs : List Circuit) × IsScannedAsJson cs lag followed text left asked before after now 3
    at (inl o) = (
      circuits,
      record {
        given = s.given;
        failures = s.failures;
        plain = s.plain;
        scanned = s.scanned;
        objects = inr (
          refl,
          failed,
          record {
            front = json_text s.given ++ front.0;
            rest = front.1;
            whole = ap (λ t. json_text s.given ++ t) front.2 ∙ sym (append_assoc (json_text s.given) front.0 front.1);
            taken = more_objects before taken after s.given front.0 o.2 front.3;
          },
        );
        none = λ high. absurd (omega (arith, high, few, o.1));
      },
    )
    at (inr o) = absurd (omega (arith, few, o.0))

-- the same of a report of some text
pub reported_circuits : (circuits : List Circuit) (before taken after : Option (List ℕ)) (status : ℕ) → after ≡ with_more taken (flat_map circuit_object circuits) → IsReportStatusWith true [] before taken status → IsReportStatus true before after status
reported_circuits circuits before taken after status grown r = (
  circuits,
  record {
    reported = λ few.
        let report = r.reported few in
        record {
          text = report.text;
          sound = report.sound;
          taken = more_objects before taken after (trace_report report.text) (flat_map circuit_object circuits) report.taken grown;
          counted = report.counted;
        };
    range = r.range;
  },
)

-- what was added behind the objects of a report: those of circuits, or a first part of them where the sink failed
pub record IsAdded (before after : Option (List ℕ)) (more : Type 0) (sums : Summary) (r : Result Summary Fault) : Type 0 where
  pub added : IfOk r (λ same. (same ≡ sums) × ((circuits : List Circuit) × (after ≡ with_more before (flat_map circuit_object circuits))))
  pub part : OnErr r ((circuits : List Circuit) × HasFront before after (flat_map circuit_object circuits))
  pub cause : OnErr r more
  pub write : IfErr r (λ fault. fault ≡ Write)

few : (sums : Summary) → summary_status sums < 2
few sums = small sums.findings (summary_status sums) refl

pub added_shown : (lag : ℕ) (followed : Bool) (text : List ℕ) (left asked before taken after : Option (List ℕ)) (was now more : Type 0) (sums : Summary) (r : Result Summary Fault) → IsAdded taken after more sums r → (more → ¬ now)
    → IsScannedAsJson [] lag followed text left asked before taken was (summary_status sums) → (circuits : List Circuit) × IsScannedAsJson circuits lag followed text left asked before after now (status_of r)
added_shown lag followed text left asked before taken after was now more sums (Ok same) a failed s =
    let own = a.added in (
      own.1.0,
      subst (λ (t : Summary). IsScannedAsJson own.1.0 lag followed text left asked before after now (summary_status t)) (sym own.0)
          (with_circuits own.1.0 lag followed text left asked before taken after was now (summary_status sums) (few sums) own.1.1 s),
    )
added_shown lag followed text left asked before taken after was now more sums (Err f) a failed s =
    let own = a.part in
    subst (λ status. (circuits : List Circuit) × IsScannedAsJson circuits lag followed text left asked before after now status) (sym (ap fault_status a.write))
    (cut_circuits own.0 lag followed text left asked before taken after was now (summary_status sums) (few sums) (failed a.cause) own.1 s)

pub added_reported : (before taken after : Option (List ℕ)) (more : Type 0) (sums : Summary) (r : Result Summary Fault) → IsAdded taken after more sums r → IsReportStatusWith true [] before taken (summary_status sums) → IsReportStatus true before after (status_of r)
added_reported before taken after more sums (Ok same) a s =
    let own = a.added in
    subst (λ (t : Summary). IsReportStatus true before after (summary_status t)) (sym own.0) (reported_circuits own.1.0 before taken after (summary_status sums) own.1.1 s)
added_reported before taken after more sums (Err f) a s = other_any true before after (fault_status f) (ap fault_status a.write)

pub added_refused : (lag : ℕ) (text : List ℕ) (left asked taken after : Option (List ℕ)) (more : Type 0) (sums : Summary) (r : Result Summary Fault) → IsAdded taken after more sums r → IfErr r (RefusesLine lag text left asked)
added_refused lag text left asked taken after more sums (Ok same) a = tt
added_refused lag text left asked taken after more sums (Err f) a = λ two. absurd (omega (arith, two, ap fault_status a.write))

pub added_cause : (taken after : Option (List ℕ)) (more a b d : Type 0) (sums : Summary) (r : Result Summary Fault) → IsAdded taken after more sums r → (more → b) → IfErr r (IsCause a b d)
added_cause taken after more a b d sums (Ok same) added failed = tt
added_cause taken after more a b d sums (Err f) added failed = write_cause a b d f added.write (failed added.cause)
