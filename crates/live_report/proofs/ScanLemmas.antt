-- What a refusal says of the bytes that were read, and the report of a text that was read.
use Rattle.std.proofs.Common.{◌≡◌, ◌≢◌, ◌∙◌, sym, refl, subst, ℕ, ◌+◌, ◌^◌, List, [], ◌++◌, Some, None, Option, Result, Ok, Err, IfOk, IfErr, OnOk, take, append-nil, inl, inr, ◌⊎◌}
use Rattle.line_model.specs.basics.Device.{with_more}
use Rattle.line_model.specs.text.Text.{early, fault, head, rows}
use Rattle.line_model.specs.traces.Traces.{trace_report}
use Rattle.line_model.specs.basics.Records.{Report}
use Rattle.line_model.specs.observer.Report.{report_of}
use Rattle.line_model.specs.packets.Says.{items_of}
use Rattle.line_model.specs.declared.interface.Interface.{Interface}
use Rattle.line_model.specs.declared.totals.Summary.{Summary}
use Rattle.line_model.specs.declared.fault.Fault.{Fault}
use Rattle.line_model.specs.declared.fault.Fault.TheVariants.{Memory, Trace, Read, Write}
use Rattle.live_report.specs.Reports.{IsRefusal as IsReportRefusal, IsReportFault, IsReported, IsTaken, IsPartTaken, IsScanFault}
use Rattle.trace_text.specs.ObserverAnswers.{IsReportOf}
use Rattle.trace_text.specs.Sources.{HasFailed, IsFedAll, IsRefusedBy}
use Rattle.trace_text.specs.Represents.{IsFaultOf, IsTextFault}
use Rattle.trace_text.proofs.DecidedLemmas.{all_sound, none_sound}
use Rattle.live_report.proofs.LawLemmas.{no_fault_so_far}
use Rattle.trace_text.specs.Refusals.{IsRefusal}

pub report_is : (text : List ℕ) (i : Interface) (made : Report) → fault text ≡ None → head text ≡ Some i → made ≡ report_of i (items_of i (rows text)) → IsReportOf text made
report_is text i made sound h is = record { sound = sound; interface = i; header = h; report = is }

-- ---- where the whole text was read

at_end : (lag : ℕ) (text : List ℕ) (f : Fault) → early text ≡ None → IsReportRefusal text f → IsRefusal lag text [] f
at_end lag text Memory sound h = all_sound (lag + 2 ^ 16) text sound
at_end lag text (Trace line kind) sound h = (all_sound (lag + 2 ^ 16) text sound, inr (refl, h))
at_end lag text Write sound h = (refl, h)
at_end lag text _ sound h = absurd h

-- the last call of the source gave nothing
refused_at_end : (lag : ℕ) (text : List ℕ) (left asked : Option (List ℕ)) (f : Fault) → early text ≡ None → IsReportRefusal text f → left ≡ Some [] → asked ≡ Some [] → IsRefusedBy lag (IsRefusal lag) text left asked f
refused_at_end lag text left asked f sound h e none =
    let whole = sym (append-nil text) in
    record { given = text; rest = []; whole = whole; left = e; order = inr (record { before = text; last = []; whole = whole; left = none; sound = all_sound lag text sound }); refusal = at_end lag text f sound h }

pub end_refused : (r : Result Summary Fault) (before left asked : Option (List ℕ)) (was_fed : List ℕ → Type 0) (text : List ℕ) → (w : IsFedAll 0 before left asked was_fed) → before ≡ Some text → IfErr r (IsReportRefusal w.text) → IfErr r (IsRefusedBy 0 (IsRefusal 0) text left asked)
end_refused (Ok sums) before left asked was_fed text w shown h = tt
end_refused (Err f) before left asked was_fed text w shown h =
    let all = w.source text shown in
    refused_at_end 0 text left asked f (subst (λ t. early t ≡ None) (sym all.0) (none_sound w.text w.sound)) (subst (λ t. IsReportRefusal t f) (sym all.0) h) all.1 all.2

-- the sink's failure comes where the whole text was accepted
pub write_refused : (lag : ℕ) (text : List ℕ) (left asked : Option (List ℕ)) (f : Fault) → f ≡ Write → left ≡ Some [] → asked ≡ Some [] → fault text ≡ None → IsRefusedBy lag (IsRefusal lag) text left asked f
write_refused lag text left asked f w e none h = refused_at_end lag text left asked f (no_fault_so_far text h) (subst (IsReportRefusal text) (sym w) h) e none

-- memory ran out after the whole text was accepted
pub memory_refused : (lag : ℕ) (text : List ℕ) (left asked : Option (List ℕ)) (f : Fault) → f ≡ Memory → left ≡ Some [] → asked ≡ Some [] → fault text ≡ None → IsRefusedBy lag (IsRefusal lag) text left asked f
memory_refused lag text left asked f m e none h = refused_at_end lag text left asked f (no_fault_so_far text h) (subst (IsReportRefusal text) (sym m) tt) e none

pub end_of_text : (r : Result Summary Fault) (text : List ℕ) (before after : Option (List ℕ)) → IfOk r (IsReported text before after) → IfOk r (λ sums. (x : List ℕ) × IsReported x before after sums)
end_of_text (Ok sums) text before after h = (text, h)
end_of_text (Err f) text before after h = tt

pub end_part : (r : Result Summary Fault) (text : List ℕ) (before after : Option (List ℕ)) → IfErr r (IsReportRefusal text) → IfErr r (IsTaken before after (trace_report text)) → r ≡ Err Write → IsPartTaken before after
end_part r text before after h t w =
    let sound : fault text ≡ None = subst (λ x. IfErr x (IsReportRefusal text)) w h in
    let some : (n : ℕ) × (after ≡ with_more before (take n (trace_report text))) = subst (λ x. IfErr x (IsTaken before after (trace_report text))) w t in
    record { text = text; sound = sound; bytes = some.0; taken = some.1 }

pub report_scan : (f : Fault) → IsReportFault f → IsScanFault f
report_scan Memory h = tt
report_scan (Trace line kind) h = tt
report_scan Write h = tt
report_scan _ h = absurd h

pub end_kinds : (r : Result Summary Fault) → IfErr r IsReportFault → IfErr r IsScanFault
end_kinds (Ok sums) h = tt
end_kinds (Err f) h = report_scan f h

-- ---- where reading was refused

-- nothing but the text's faults and a failing source stops a walk, and it leaves its sink as it is
text_scan : (f : Fault) → IsTextFault f → IsScanFault f
text_scan Memory h = tt
text_scan (Trace line kind) h = tt
text_scan _ h = absurd h

-- what a walk says of bytes that it refused
abbrev pub IsWalkStop : (kept : Type 0) (fed last : List ℕ) → Fault → Type 0
IsWalkStop kept fed last shown = IsFaultOf (early (fed ++ last)) shown × IsTextFault shown × kept

pub walk_kinds : (was_fed : List ℕ → Type 0) (kept : Type 0) (fed last : List ℕ) (f : Fault) → HasFailed was_fed fed last f ⊎ IsWalkStop kept fed last f → IsScanFault f
walk_kinds was_fed kept fed last f (inl why) = subst IsScanFault (sym why.failure) tt
walk_kinds was_fed kept fed last f (inr why) = text_scan f why.1

pub walk_kept : (was_fed : List ℕ → Type 0) (kept : Type 0) (fed last : List ℕ) (f : Fault) → (was_fed fed → kept) → HasFailed was_fed fed last f ⊎ IsWalkStop kept fed last f → kept
walk_kept was_fed kept fed last f is (inl why) = is why.represented
walk_kept was_fed kept fed last f is (inr why) = why.2

no_text_write : (f : Fault) → IsTextFault f → f ≡ Write → ⊥
no_text_write f h w = subst IsTextFault w h

pub walk_unwritten : (was_fed : List ℕ → Type 0) (kept : Type 0) (fed last : List ℕ) (f : Fault) → HasFailed was_fed fed last f ⊎ IsWalkStop kept fed last f → f ≡ Write → ⊥
walk_unwritten was_fed kept fed last f (inl why) w = absurd (let same : Read ≡ Write = sym why.failure ∙ w in cc)
walk_unwritten was_fed kept fed last f (inr why) w = no_text_write f why.1 w

pub nothing_taken : (before after : Option (List ℕ)) (report : List ℕ) (f : Fault) → (f ≡ Write → ⊥) → after ≡ before → IsTaken before after report f
nothing_taken before after report Write unwritten same = absurd (unwritten refl)
nothing_taken before after report _ unwritten same = same

-- ---- one more chunk of a walk

pub walked_more : {T : Type 0} (r : Result T Fault) (fed kept : Type 0) → kept → OnOk r fed → OnOk r (fed × kept)
walked_more (Ok u) fed kept k h = (h, k)
walked_more (Err f) fed kept k h = tt

pub walk_refused : {T : Type 0} (r : Result T Fault) (refusal : Fault → Type 0) (kept : Type 0) → kept → IfErr r refusal → IfErr r IsTextFault → IfErr r (λ f. refusal f × IsTextFault f × kept)
walk_refused (Ok u) refusal kept k h t = tt
walk_refused (Err f) refusal kept k h t = (h, t, k)

no_text_read : (f : Fault) → IsTextFault f → f ≡ Read → ⊥
no_text_read f h e = subst IsTextFault e h

pub walk_reads : {T : Type 0} (r : Result T Fault) → IfErr r IsTextFault → IfErr r (λ f. f ≢ Read)
walk_reads (Ok u) t = tt
walk_reads (Err f) t = no_text_read f t

-- ---- at the end of a walk, whose sink is as it was

pub walk_reported : {K : Type 0} (took : K → Option (List ℕ)) (start sink : K) (after : Option (List ℕ)) (text given : List ℕ) (r : Result Summary Fault) → sink ≡ start → text ≡ given → IfOk r (IsReported given (took sink) after) → IfOk r (IsReported text (took start) after)
walk_reported took start sink after text given r same e h = subst (λ s. IfOk r (IsReported text (took s) after)) same (subst (λ t. IfOk r (IsReported t (took sink) after)) (sym e) h)

pub walk_taken : {K : Type 0} (took : K → Option (List ℕ)) (start sink : K) (after : Option (List ℕ)) (text given : List ℕ) (r : Result Summary Fault) → sink ≡ start → text ≡ given → IfErr r (IsTaken (took sink) after (trace_report given)) → IfErr r (IsTaken (took start) after (trace_report text))
walk_taken took start sink after text given r same e h = subst (λ s. IfErr r (IsTaken (took s) after (trace_report text))) same (subst (λ t. IfErr r (IsTaken (took sink) after (trace_report t))) (sym e) h)

pub walk_kept_end : {K : Type 0} (start sink after : K) (r : Result Summary Fault) → sink ≡ start → IfErr r (λ f. f ≢ Write → after ≡ sink) → IfErr r (λ f. f ≢ Write → after ≡ start)
walk_kept_end start sink after (Ok sums) same h = tt
walk_kept_end start sink after (Err f) same h = λ n. h n ∙ same
