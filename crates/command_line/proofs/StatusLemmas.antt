-- The exit status of a scan.
use Rattle.std.proofs.Common.{◌≡◌, ◌∙◌, sym, ap, refl, subst, inl, inr, ◌⊎◌, ℕ, zero, suc, ◌+◌, ◌<◌, ◌≤◌, ◌^◌, Bool, true, false, List, [], ◌++◌, Option, None, Some, Result, Ok, Err, arith, append-nil, cond, ◌==◌}
use Rattle.std.specs.Prelude.{IfErr, IfOk}
use Rattle.std.proofs.lemmas.Bool.Decides.{nat_tests}
use Rattle.line_model.specs.text.Text.{fault}
use Rattle.line_model.specs.declared.totals.Summary.{Summary}
use Rattle.line_model.specs.declared.fault.Fault.{Fault}
use Rattle.line_model.specs.declared.fault.Fault.TheVariants.{Memory, Trace, Read, Write, Start}
use Rattle.command_line.specs.Program.{IsCutShort, IsFollowStatus, IsReportStatus, IsReportStatusWith, IsScanRefusal, IsScanned, IsStatus, IsStatusOf, RefusesLine, fault_status, status_of, summary_status}
use Rattle.trace_text.specs.Decided.{NoneDecidedButLast}
use Rattle.trace_text.specs.Sources.{IsRefusedBy, NoneDecided}
use Rattle.trace_text.specs.Refusals.{IsRefusal}
use Rattle.live_report.specs.Reports.{IsReported, IsTaken}
use Rattle.trace_scan.specs.Follow.{IsFollowRefusal, IsWrittenOf}
use Rattle.line_model.specs.traces.Traces.{trace_report, trace_summary}

pub some_status : (m : ℕ) → cond {A = ℕ} (suc m == 0) 0 1 ≡ 1
some_status m = grind (arith, nat_tests)

counted : (lag : ℕ) (text : List ℕ) (left asked before after : Option (List ℕ)) (well : Type 0) (n status : ℕ) → IsReported text before after (trace_summary text) → n ≡ (trace_summary text).findings → status ≡ summary_status (trace_summary text) → IsStatus lag text left asked before after well status
counted lag text left asked before after well zero status r n s = record {
  clean = λ e. (r, sym n);
  found = λ e. absurd (let is : status ≡ 0 = rw (← n) at s in omega (arith, is, e));
  faulty = λ e. absurd (let is : status ≡ 0 = rw (← n) at s in omega (arith, is, e));
  other = λ e. absurd (let is : status ≡ 0 = rw (← n) at s in omega (arith, is, e));
  range = let is : status ≡ 0 = rw (← n) at s in omega (arith, is);
}
counted lag text left asked before after well (suc m) status r n s = record {
  clean = λ e. absurd (let is : status ≡ 1 = (rw (← n) at s) ∙ some_status m in omega (arith, is, e));
  found = λ e. (r, omega (arith, n));
  faulty = λ e. absurd (let is : status ≡ 1 = (rw (← n) at s) ∙ some_status m in omega (arith, is, e));
  other = λ e. absurd (let is : status ≡ 1 = (rw (← n) at s) ∙ some_status m in omega (arith, is, e));
  range = let is : status ≡ 1 = (rw (← n) at s) ∙ some_status m in omega (arith, is);
}

pub reported_status : (lag : ℕ) (text : List ℕ) (left asked before after : Option (List ℕ)) (well : Type 0) (sums : Summary) (status : ℕ) → IsReported text before after sums → status ≡ summary_status sums → IsStatus lag text left asked before after well status
reported_status lag text left asked before after well sums status r s =
    let whole : IsReported text before after (trace_summary text) = record { sound = r.sound; taken = r.taken; counted = refl } in
    counted lag text left asked before after well (trace_summary text).findings status whole refl (s ∙ ap summary_status r.counted)

other_status : (lag : ℕ) (text : List ℕ) (left asked before after : Option (List ℕ)) (well : Type 0) (f : Fault) (status : ℕ) → status ≡ 3 → status ≡ fault_status f → IsRefusedBy lag (IsRefusal lag) text left asked f → ((after ≡ before) ⊎ IsCutShort text before after well)
    → IsStatus lag text left asked before after well status
other_status lag text left asked before after well f status is s r part = record {
  clean = λ e. absurd (omega (arith, e, is));
  found = λ e. absurd (omega (arith, e, is));
  faulty = λ e. absurd (omega (arith, e, is));
  other = λ e. record { cause = f; other = sym s ∙ is; refusal = r; taken = part };
  range = omega (arith, is);
}

-- a sink failed on the report of a text that was read whole, which has no fault
cut_short : (lag : ℕ) (text : List ℕ) (left asked before after : Option (List ℕ)) (well : Type 0) → IsRefusedBy lag (IsRefusal lag) text left asked Write → IsTaken before after (trace_report text) Write → (¬ well) → IsCutShort text before after well
cut_short lag text left asked before after well r taken failed =
    let whole : text ≡ r.given = r.whole ∙ ap (λ xs. r.given ++ xs) r.refusal.0 ∙ append-nil r.given in
    record { failed = failed; sound = subst (λ t. fault t ≡ None) (sym whole) r.refusal.1; count = taken.0; part = taken.1 }

pub refused_status : (lag : ℕ) (text : List ℕ) (left asked before after : Option (List ℕ)) (well : Type 0) (f : Fault) (status : ℕ) → IsRefusedBy lag (IsRefusal lag) text left asked f → IsTaken before after (trace_report text) f → (f ≡ Write → ¬ well) → status ≡ fault_status f
    → IsStatus lag text left asked before after well status
refused_status lag text left asked before after well (Trace line kind) status r taken failed s = record {
  clean = λ e. absurd (omega (arith, e, s));
  found = λ e. absurd (omega (arith, e, s));
  faulty = λ e. (record { line = line; kind = kind; refusal = r }, taken);
  other = λ e. absurd (omega (arith, e, s));
  range = omega (arith, s);
}
refused_status lag text left asked before after well Write status r taken failed s =
    other_status lag text left asked before after well Write status s s r (inr (cut_short lag text left asked before after well r taken (failed refl)))
refused_status lag text left asked before after well _ status r taken failed s = other_status lag text left asked before after well _ status s s r (inl taken)

pub status_range : (f : Fault) (status : ℕ) → status ≡ fault_status f → status < 4
status_range (Trace line kind) status s = omega (arith, s)
status_range _ status s = omega (arith, s)

-- ---- a trace that was followed

pub small : (n status : ℕ) → status ≡ cond {A = ℕ} (n == 0) 0 1 → status < 2
small zero status s = omega (arith, s)
small (suc m) status s = omega (arith, s, some_status m)

pub reported_follow : (text : List ℕ) (left asked before after : Option (List ℕ)) (well : Type 0) (sums : Summary) (status : ℕ) → IsReported text before after sums → status ≡ summary_status sums → IsFollowStatus text left asked before after well status
reported_follow text left asked before after well sums status r s =
    let is = reported_status 0 text left asked before after well sums status r s in
    let few = small sums.findings status s in
    record {
      clean = is.clean;
      found = is.found;
      faulty = λ e. absurd (omega (arith, e, few));
      other = λ e. absurd (omega (arith, e, few));
      range = is.range;
    }

other_follow : (text : List ℕ) (left asked before after : Option (List ℕ)) (well : Type 0) (f : Fault) (status : ℕ) → status ≡ 3 → status ≡ fault_status f → IsRefusedBy 0 IsFollowRefusal text left asked f → IsRefusedBy 0 (IsWrittenOf before after well) text left asked f
    → (f ≡ Write → ¬ well) → IsFollowStatus text left asked before after well status
other_follow text left asked before after well f status is s r written_of failed = record {
  clean = λ e. absurd (omega (arith, e, is));
  found = λ e. absurd (omega (arith, e, is));
  faulty = λ e. absurd (omega (arith, e, is));
  other = λ e. record { cause = f; other = sym s ∙ is; refusal = r; written_of = written_of; failed = failed };
  range = omega (arith, is);
}

pub refused_follow : (text : List ℕ) (left asked before after : Option (List ℕ)) (well : Type 0) (f : Fault) (status : ℕ) → IsRefusedBy 0 IsFollowRefusal text left asked f → IsRefusedBy 0 (IsWrittenOf before after well) text left asked f → (f ≡ Write → ¬ well)
    → status ≡ fault_status f → IsFollowStatus text left asked before after well status
refused_follow text left asked before after well (Trace line kind) status r written_of failed s = record {
  clean = λ e. absurd (omega (arith, e, s));
  found = λ e. absurd (omega (arith, e, s));
  faulty = λ e. record { line = line; kind = kind; refusal = r; written_of = written_of };
  other = λ e. absurd (omega (arith, e, s));
  range = omega (arith, s);
}
refused_follow text left asked before after well _ status r written_of failed s = other_follow text left asked before after well _ status s s r written_of failed

-- ---- by whether it was followed

pub reported_scan : (lag : ℕ) (followed : Bool) (text : List ℕ) (left asked before after : Option (List ℕ)) (well : Type 0) (sums : Summary) (status : ℕ) → IsReported text before after sums → status ≡ summary_status sums → IsScanned lag followed text left asked before after well status
reported_scan lag false text left asked before after well sums status r s = reported_status lag text left asked before after well sums status r s
reported_scan lag true text left asked before after well sums status r s = reported_follow text left asked before after well sums status r s

pub refused_scan : (lag : ℕ) (followed : Bool) (text : List ℕ) (left asked before after : Option (List ℕ)) (well : Type 0) (f : Fault) (status : ℕ) → IsScanRefusal lag followed text left asked before after well f → (f ≡ Write → ¬ well) → status ≡ fault_status f
    → IsScanned lag followed text left asked before after well status
refused_scan lag false text left asked before after well f status r failed s = refused_status lag text left asked before after well f status r.0 r.1 failed s
refused_scan lag true text left asked before after well f status r failed s = refused_follow text left asked before after well f status r.0 r.1 failed s

-- by its result
pub scan_status : (lag : ℕ) (followed : Bool) (text : List ℕ) (left asked before after : Option (List ℕ)) (well : Type 0) (r : Result Summary Fault) → IfOk r (IsReported text before after) → IfErr r (IsScanRefusal lag followed text left asked before after well) → (r ≡ Err Write → ¬ well)
    → IsScanned lag followed text left asked before after well (status_of r)
scan_status lag followed text left asked before after well (Ok sums) reported refused failed = reported_scan lag followed text left asked before after well sums (summary_status sums) reported refl
scan_status lag followed text left asked before after well (Err f) reported refused failed = refused_scan lag followed text left asked before after well f (fault_status f) refused (λ e. failed (ap Err e)) refl

-- ---- whatever the source shows

-- a report was accepted
pub reported_any : (before after : Option (List ℕ)) (sums : Summary) (status : ℕ) → ((text : List ℕ) × IsReported text before after sums) → status ≡ summary_status sums → IsReportStatus false before after status
reported_any before after sums status of s =
    let few = small sums.findings status s in
    ([], record { reported = λ e. record { text = of.0; sound = of.1.sound; taken = of.1.taken; counted = s ∙ ap summary_status of.1.counted }; range = omega (arith, few) })

-- another fault than the text's
pub other_with : (json : Bool) (before after : Option (List ℕ)) (status : ℕ) → status ≡ 3 → IsReportStatusWith json [] before after status
other_with json before after status s = record { reported = λ e. absurd (omega (arith, e, s)); range = omega (arith, s) }

pub other_any : (json : Bool) (before after : Option (List ℕ)) (status : ℕ) → status ≡ 3 → IsReportStatus json before after status
other_any json before after status s = ([], other_with json before after status s)

-- a refusal
pub refused_any : (json : Bool) (before after : Option (List ℕ)) (f : Fault) (status : ℕ) → status ≡ fault_status f → IsReportStatus json before after status
refused_any json before after (Trace line kind) status s = ([], record { reported = λ e. absurd (omega (arith, e, s)); range = omega (arith, s) })
refused_any json before after _ status s = other_any json before after status s

-- by its result
pub any_status : (before after : Option (List ℕ)) (r : Result Summary Fault) → IfOk r (λ sums. (text : List ℕ) × IsReported text before after sums) → IsReportStatus false before after (status_of r)
any_status before after (Ok sums) of = reported_any before after sums (summary_status sums) of refl
any_status before after (Err f) of = refused_any false before after f (fault_status f) refl

-- ---- a refusal with no lag is one with any

wider_sound : (few most : ℕ) (given : List ℕ) → few ≤ most → NoneDecidedButLast few given → NoneDecidedButLast most given
wider_sound few most given le s = record { before = s.before; last = s.last; whole = s.whole; few = omega (arith, le, s.few); sound = s.sound }

wider_fault : (few most : ℕ) (given rest : List ℕ) (f : Fault) → few ≤ most → IsRefusal few given rest f → IsRefusal most given rest f
wider_fault few most given rest Memory le r = wider_sound (few + 2 ^ 16) (most + 2 ^ 16) given (omega (arith, le)) r
wider_fault few most given rest (Trace line kind) le r = (wider_sound (few + 2 ^ 16) (most + 2 ^ 16) given (omega (arith, le)) r.0, r.1)
wider_fault few most given rest Read le r = r
wider_fault few most given rest Write le r = r
wider_fault few most given rest Start le r = r
wider_fault few most given rest _ le r = absurd r

wider_order : (few most : ℕ) (given text : List ℕ) (asked : Option (List ℕ)) → few ≤ most → (given ≡ []) ⊎ NoneDecided few text asked → (given ≡ []) ⊎ NoneDecided most text asked
wider_order few most given text asked le (inl none) = inl none
wider_order few most given text asked le (inr n) = inr (record { before = n.before; last = n.last; whole = n.whole; left = n.left; sound = wider_sound few most n.before le n.sound })

wider_refusal : (few most : ℕ) (text : List ℕ) (left asked : Option (List ℕ)) (f : Fault) → few ≤ most → IsRefusedBy few (IsRefusal few) text left asked f → IsRefusedBy most (IsRefusal most) text left asked f
wider_refusal few most text left asked f le r =
    record { given = r.given; rest = r.rest; whole = r.whole; left = r.left; order = wider_order few most r.given text asked le r.order; refusal = wider_fault few most r.given r.rest f le r.refusal }

-- so one thread refuses a text as workers may
pub wider_line : (few most : ℕ) (text : List ℕ) (left asked : Option (List ℕ)) (f : Fault) → few ≤ most → RefusesLine few text left asked f → RefusesLine most text left asked f
wider_line few most text left asked f le r two = wider_refusal few most text left asked f le (r two)

wider_status : (few most : ℕ) (text : List ℕ) (left asked before after : Option (List ℕ)) (well : Type 0) (status : ℕ) → few ≤ most → IsStatus few text left asked before after well status → IsStatus most text left asked before after well status
wider_status few most text left asked before after well status le s = record {
  clean = s.clean;
  found = s.found;
  faulty = λ two.
      let f = s.faulty two in
      (record { line = f.0.line; kind = f.0.kind; refusal = wider_refusal few most text left asked (Trace f.0.line f.0.kind) le f.0.refusal }, f.1);
  other = λ three.
      let o = s.other three in
      record { cause = o.cause; other = o.other; refusal = wider_refusal few most text left asked o.cause le o.refusal; taken = o.taken };
  range = s.range;
}

wider_scanned : (few most : ℕ) (followed : Bool) (text : List ℕ) (left asked before after : Option (List ℕ)) (well : Type 0) (status : ℕ) → few ≤ most → IsScanned few followed text left asked before after well status → IsScanned most followed text left asked before after well status
wider_scanned few most true text left asked before after well status le s = s
wider_scanned few most false text left asked before after well status le s = wider_status few most text left asked before after well status le s

wider_any : (few most : ℕ) (json followed : Bool) (text : List ℕ) (left asked before after : Option (List ℕ)) (well : Type 0) (status : ℕ) → few ≤ most → IsStatusOf few json followed text left asked before after well status → IsStatusOf most json followed text left asked before after well status
wider_any few most false followed text left asked before after well status le s = wider_scanned few most followed text left asked before after well status le s
wider_any few most true followed text left asked before after well status le (circuits, s) =
    (circuits, record { given = s.given; failures = s.failures; plain = s.plain; scanned = wider_scanned few most followed text left asked (Some []) (Some s.given) (s.failures ≡ 0) s.plain le s.scanned; objects = s.objects; none = s.none })

-- and of another that follows as it does, and has the same status
pub wider_scan : (few most : ℕ) (json followed follows : Bool) (text : List ℕ) (left asked before after : Option (List ℕ)) (well : Type 0) (status same : ℕ) → few ≤ most → followed ≡ follows → status ≡ same → IsStatusOf few json followed text left asked before after well status
    → IsStatusOf most json follows text left asked before after well same
wider_scan few most json followed follows text left asked before after well status same le f is s =
    subst (λ (o : Bool × ℕ). IsStatusOf most json o.0 text left asked before after well o.1) (λ i. (f i, is i)) (wider_any few most json followed text left asked before after well status le s)

-- the faulty line of a scan that was refused
refused_line : (lag : ℕ) (followed : Bool) (text : List ℕ) (left asked before after : Option (List ℕ)) (well : Type 0) (f : Fault) → IsScanRefusal lag followed text left asked before after well f → RefusesLine lag text left asked f
refused_line lag false text left asked before after well f r two = r.0
refused_line lag true text left asked before after well (Trace line kind) r two =
    wider_refusal 0 lag text left asked (Trace line kind) (omega arith) (record { given = r.0.given; rest = r.0.rest; whole = r.0.whole; left = r.0.left; order = r.0.order; refusal = r.0.refusal })
refused_line lag true text left asked before after well _ r two = absurd (omega (arith, two))

pub refused_lines : (lag : ℕ) (followed : Bool) (text : List ℕ) (left asked before after : Option (List ℕ)) (well : Type 0) (r : Result Summary Fault) → IfErr r (IsScanRefusal lag followed text left asked before after well) → IfErr r (RefusesLine lag text left asked)
refused_lines lag followed text left asked before after well (Ok sums) refused = tt
refused_lines lag followed text left asked before after well (Err f) refused = refused_line lag followed text left asked before after well f refused

-- the refusal of a scan by one thread, and of one that followed the text
pub plain_refusal : (text : List ℕ) (left asked before after : Option (List ℕ)) (well : Type 0) (r : Result Summary Fault) → IfErr r (IsRefusedBy 0 (IsRefusal 0) text left asked) → IfErr r (IsTaken before after (trace_report text)) → IfErr r (IsScanRefusal 0 false text left asked before after well)
plain_refusal text left asked before after well (Ok sums) refused taken = tt
plain_refusal text left asked before after well (Err f) refused taken = (refused, taken)

pub follow_refusal : (text : List ℕ) (left asked before after : Option (List ℕ)) (well : Type 0) (r : Result Summary Fault) → IfErr r (IsRefusedBy 0 IsFollowRefusal text left asked) → IfErr r (IsRefusedBy 0 (IsWrittenOf before after well) text left asked) → IfErr r (IsScanRefusal 0 true text left asked before after well)
follow_refusal text left asked before after well (Ok sums) refused taken = tt
follow_refusal text left asked before after well (Err f) refused taken = (refused, taken)
