-- What a sink accepted of a trace that is followed, and what a refusal says of it.
use Rattle.std.proofs.Common.{◌≡◌, ◌≢◌, ◌∙◌, sym, ap, subst, refl, ℕ, ◌<◌, ◌≤◌, ◌^◌, List, [], ◌++◌, length, Option, Some, None, Result, Ok, Err, IfOk, IfErr, OnOk, append-nil, arith, inl, inr, ◌⊎◌}
use Rattle.std.specs.Prelude.{IfSome}
use Rattle.std.proofs.Math.Seq.{take-length}
use Rattle.line_model.specs.basics.Device.{with_more}
use Rattle.line_model.specs.text.Text.{early}
use Rattle.line_model.specs.traces.Traces.{trace_report}
use Rattle.line_model.specs.declared.totals.Summary.{Summary}
use Rattle.line_model.specs.declared.fault.Fault.{Fault}
use Rattle.line_model.specs.declared.fault.Fault.TheVariants.{Memory, Trace, Read, Write}
use Rattle.channel_run.specs.declared.run.Channel.{Ghosts as Machine}
use Rattle.live_report.specs.declared.follow.Follower.{Follower}
use Rattle.live_report.specs.Follows.{HasFindings, HasFindingsAtLine, HasFirst, HasFollowed, IsFed, IsRefusalOf}
use Rattle.live_report.specs.Found.{found_text}
use Rattle.live_report.specs.Reports.{IsRefusal, IsReportFault, IsReported, IsScanFault}
use Rattle.live_report.proofs.FollowLemmas.{nothing_written}
use Rattle.trace_text.specs.Sources.{HasFailed, IsFedAll, IsFedUpTo, IsRefusedBy}
use Rattle.trace_text.proofs.DecidedLemmas.{all_sound, decided_before, none_sound}
use Rattle.trace_text.proofs.SourceLemmas.{sound_before, all_sound as sound_at_end}
use Rattle.trace_scan.specs.Follow.{IsFollowRefusal, IsFollowed, IsRefusedAfter, IsWrittenOf}
use Rattle.live_report.proofs.ScanLemmas.{report_scan}

pub nothing_followed : {A C : Type 0} (m : Machine C A) (taken : Option (List ℕ)) (n : ℕ) (f : Follower A C) → HasFollowed m [] f → IsFollowed m taken taken n n [] f
nothing_followed m taken n f s = record { represented = s; shown = nothing_written taken; rising = omega arith }

-- what has followed a text may be fed and ended
pub fed_of : {A C : Type 0} (m : Machine C A) (text : List ℕ) (f : Follower A C) → HasFollowed m text f → IsFed m.interface_of m.number_of m.represents f
fed_of m text f s = record { fed = λ running. (text, s); kinds = subst (λ o. IfSome o IsReportFault) (sym s.running) tt }

-- ---- one more chunk

pub follow_fed : {A C T : Type 0} (m : Machine C A) (r : Result T Fault) (before taken next : Option (List ℕ)) (x y z : ℕ) (text bytes : List ℕ) (f g : Follower A C) → IsFollowed m before taken x y text f → OnOk r (HasFollowed m (text ++ bytes) g) → OnOk r (HasFindings before next (text ++ bytes)) → y ≤ z
    → OnOk r (IsFollowed m before next x z (text ++ bytes) g)
follow_fed m (Ok u) before taken next x y z text bytes f g was s shown rises = record { represented = s; shown = shown; rising = omega (arith, was.rising, rises) }
follow_fed m (Err e) before taken next x y z text bytes f g was s shown rises = tt

pub follow_refused : {T : Type 0} (r : Result T Fault) (before taken : Option (List ℕ)) (x y z : ℕ) (text last : List ℕ) → x ≤ y → y ≤ z → IfErr r (IsRefusalOf (early (text ++ last))) → HasFirst before taken (found_text (text ++ last)) → (z ≡ y → IfErr r (HasFindingsAtLine before taken (text ++ last)))
    → IfErr r IsReportFault → (r ≡ Err Write → y < z) → IfErr r (IsRefusedAfter before taken x z text last)
follow_refused (Ok u) before taken x y z text last le le' refusal first all kinds failed = tt
follow_refused (Err f) before taken x y z text last le le' refusal first all kinds failed = record {
  refusal = refusal;
  first = first;
  at_line = λ same. all (omega (arith, le, le', same));
  kinds = kinds;
  failed = λ w. let more = failed (ap Err w) in omega (arith, le, more);
}

no_report_read : (f : Fault) → IsReportFault f → f ≡ Read → ⊥
no_report_read f h e = subst IsReportFault e h

pub follow_reads : {T : Type 0} (r : Result T Fault) → IfErr r IsReportFault → IfErr r (λ f. f ≢ Read)
follow_reads (Ok u) t = tt
follow_reads (Err f) t = no_report_read f t

-- ---- where reading stopped

follow_refusal : (given bytes rest : List ℕ) (f : Fault) → early given ≡ None → length bytes ≤ 2 ^ 16 → IsRefusalOf (early (given ++ bytes)) f → IsFollowRefusal (given ++ bytes) rest f
follow_refusal given bytes rest Memory sound few h = decided_before 0 given bytes (all_sound 0 given sound) few
follow_refusal given bytes rest (Trace line kind) sound few h = (decided_before 0 given bytes (all_sound 0 given sound) few, inl h)
follow_refusal given bytes rest Write sound few h = h
follow_refusal given bytes rest _ sound few h = absurd h

written_of : (before taken : Option (List ℕ)) (well : Type 0) (given rest : List ℕ) (f : Fault) → IsReportFault f → HasFirst before taken (found_text given) → (well → HasFindingsAtLine before taken given f) → IsWrittenOf before taken well given rest f
written_of before taken well given rest (Trace line kind) kinds first all = (first, all)
written_of before taken well given rest Read kinds first all = absurd kinds
written_of before taken well given rest Write kinds first all = inl first
written_of before taken well given rest _ kinds first all = first

-- all of some bytes are a first part of them
all_first : (before taken : Option (List ℕ)) (bytes : List ℕ) → taken ≡ with_more before bytes → HasFirst before taken bytes
all_first before taken bytes h = (length bytes, h ∙ ap (with_more before) (sym (take-length bytes)))

-- what stops a follower: the source failed, or it refused what the source gave last
abbrev pub IsFollowStop : {A C : Type 0} → Machine C A → (before taken : Option (List ℕ)) → (x z : ℕ) → Follower A C → (fed last : List ℕ) → Fault → Type 0
IsFollowStop m before taken x z g fed last f = HasFailed (λ text. IsFollowed m before taken x z text g) fed last f ⊎ IsRefusedAfter before taken x z fed last f

-- what a refusal says of the bytes that were read, and of the sink
record Stop (before taken : Option (List ℕ)) (well : Type 0) (given : List ℕ) (f : Fault) : Type 0 where
  pub refusal : (rest : List ℕ) → IsFollowRefusal given rest f
  pub shown : (rest : List ℕ) → IsWrittenOf before taken well given rest f

stop_failed : (before taken : Option (List ℕ)) (well : Type 0) (given : List ℕ) → early given ≡ None → HasFindings before taken given → Stop before taken well given Read
stop_failed before taken well given sound shown = record { refusal = λ rest. sound; shown = λ rest. shown }

stop_is : {A C : Type 0} (m : Machine C A) (before taken : Option (List ℕ)) (x z : ℕ) (g : Follower A C) (fed last : List ℕ) (f : Fault) → early fed ≡ None → length last ≤ 2 ^ 16 → IsFollowStop m before taken x z g fed last f → Stop before taken (z ≡ x) (fed ++ last) f
stop_is m before taken x z g fed last f sound few (inl why) =
    subst (Stop before taken (z ≡ x) (fed ++ last)) (sym why.failure)
    (subst (λ xs. Stop before taken (z ≡ x) (fed ++ xs) Read) (sym why.none) (subst (λ xs. Stop before taken (z ≡ x) xs Read) (sym (append-nil fed)) (stop_failed before taken (z ≡ x) fed sound why.represented.shown)))
stop_is m before taken x z g fed last f sound few (inr why) = record {
  refusal = λ rest. follow_refusal fed last rest f sound few why.refusal;
  shown = λ rest. written_of before taken (z ≡ x) (fed ++ last) rest f why.kinds why.first why.at_line;
}

pub stop_kinds : {A C : Type 0} (m : Machine C A) (before taken : Option (List ℕ)) (x z : ℕ) (g : Follower A C) (fed last : List ℕ) (f : Fault) → IsFollowStop m before taken x z g fed last f → IsScanFault f
stop_kinds m before taken x z g fed last f (inl why) = subst IsScanFault (sym why.failure) tt
stop_kinds m before taken x z g fed last f (inr why) = report_scan f why.kinds

pub stop_write : {A C : Type 0} (m : Machine C A) (before taken : Option (List ℕ)) (x z : ℕ) (g : Follower A C) (fed last : List ℕ) (f : Fault) → IsFollowStop m before taken x z g fed last f → f ≡ Write → x < z
stop_write m before taken x z g fed last f (inl why) w = absurd (let same : Read ≡ Write = sym why.failure ∙ w in cc)
stop_write m before taken x z g fed last f (inr why) w = why.failed w

-- by what a reader of the source says
abbrev pub IsFollowedUpTo : {A C : Type 0} → Machine C A → (left after asked before taken : Option (List ℕ)) → (x z : ℕ) → Follower A C → Fault → Type 0
IsFollowedUpTo m left after asked before taken x z g f = IsFedUpTo 0 left after asked (λ text. IsFollowed m before taken x z text g) (IsRefusedAfter before taken x z) f

pub stopped_refused : {A C : Type 0} (m : Machine C A) (left after asked before taken : Option (List ℕ)) (x z : ℕ) (g : Follower A C) (f : Fault) (text : List ℕ) → left ≡ Some text → IsFollowedUpTo m left after asked before taken x z g f → IsRefusedBy 0 IsFollowRefusal text after asked f
stopped_refused m left after asked before taken x z g f text shown u =
    let at = u.given text shown in
    record {
      given = u.fed ++ u.last;
      rest = at.0;
      whole = at.1;
      left = at.2;
      order = inr (sound_before 0 left after asked (λ t. IsFollowed m before taken x z t g) (IsRefusedAfter before taken x z) f text u shown);
      refusal = (stop_is m before taken x z g u.fed u.last f (none_sound u.fed u.sound) u.few u.why).refusal at.0;
    }

pub stopped_taken : {A C : Type 0} (m : Machine C A) (left after asked before taken : Option (List ℕ)) (x z : ℕ) (g : Follower A C) (f : Fault) (text : List ℕ) → left ≡ Some text → IsFollowedUpTo m left after asked before taken x z g f
    → IsRefusedBy 0 (IsWrittenOf before taken (z ≡ x)) text after asked f
stopped_taken m left after asked before taken x z g f text shown u =
    let at = u.given text shown in
    record {
      given = u.fed ++ u.last;
      rest = at.0;
      whole = at.1;
      left = at.2;
      order = inr (sound_before 0 left after asked (λ t. IsFollowed m before taken x z t g) (IsRefusedAfter before taken x z) f text u shown);
      refusal = (stop_is m before taken x z g u.fed u.last f (none_sound u.fed u.sound) u.few u.why).shown at.0;
    }

pub stopped_given : {A C : Type 0} (m : Machine C A) (left after asked before taken : Option (List ℕ)) (x z : ℕ) (g : Follower A C) (f : Fault) → IsFollowedUpTo m left after asked before taken x z g f
    → (given : List ℕ) × (rest : List ℕ) × IsFollowRefusal given rest f × IsWrittenOf before taken (z ≡ x) given rest f
stopped_given m left after asked before taken x z g f u =
    let stop = stop_is m before taken x z g u.fed u.last f (none_sound u.fed u.sound) u.few u.why in
    (u.fed ++ u.last, [], stop.refusal [], stop.shown [])

-- ---- where all was read

pub end_reported : (text given : List ℕ) (before taken : Option (List ℕ)) (r : Result Summary Fault) → text ≡ given → IfOk r (IsReported given before taken) → IfOk r (IsReported text before taken)
end_reported text given before taken r same h = subst (λ x. IfOk r (IsReported x before taken)) (sym same) h

pub end_some : (given : List ℕ) (before taken : Option (List ℕ)) (r : Result Summary Fault) → IfOk r (IsReported given before taken) → IfOk r (λ sums. (text : List ℕ) × IsReported text before taken sums)
end_some given before taken (Ok sums) h = (given, h)
end_some given before taken (Err f) h = tt

at_end : (given : List ℕ) (f : Fault) → early given ≡ None → IsRefusal given f → IsFollowRefusal given [] f
at_end given Memory sound h = all_sound (2 ^ 16) given sound
at_end given (Trace line kind) sound h = (all_sound (2 ^ 16) given sound, inr (refl, h))
at_end given Write sound h = sound
at_end given _ sound h = absurd h

written_at_end : (given : List ℕ) (before taken after : Option (List ℕ)) (well : Type 0) (f : Fault) → HasFindings before taken given → IsRefusal given f → (f ≢ Write → after ≡ taken) → (f ≡ Write → HasFirst before after (trace_report given)) → IsWrittenOf before after well given [] f
written_at_end given before taken after well Memory h r kept part = all_first before after (found_text given) (kept (λ e. cc) ∙ h)
written_at_end given before taken after well (Trace line kind) h r kept part = (all_first before after (found_text given) (kept (λ e. cc) ∙ h), λ w. kept (λ e. cc) ∙ h)
written_at_end given before taken after well Write h r kept part = inr (refl, r, part refl)
written_at_end given before taken after well _ h r kept part = absurd r

pub same_taken : {K : Type 0} → (r : Result Summary Fault) (took : K → Option (List ℕ)) (old new : K) → IfErr r (λ fault. fault ≢ Write → new ≡ old) → IfErr r (λ fault. fault ≢ Write → took new ≡ took old)
same_taken (Ok sums) took old new h = tt
same_taken (Err f) took old new h = λ e. ap took (h e)

pub end_given : (given : List ℕ) (before taken after : Option (List ℕ)) (well : Type 0) (r : Result Summary Fault) → early given ≡ None → HasFindings before taken given → IfErr r (IsRefusal given) → IfErr r (λ fault. fault ≢ Write → after ≡ taken)
    → (r ≡ Err Write → HasFirst before after (trace_report given)) → IfErr r (λ fault. (given : List ℕ) × (rest : List ℕ) × IsFollowRefusal given rest fault × IsWrittenOf before after well given rest fault)
end_given given before taken after well (Ok sums) sound h r kept part = tt
end_given given before taken after well (Err f) sound h r kept part = (given, [], at_end given f sound r, written_at_end given before taken after well f h r kept (λ e. part (ap Err e)))

pub end_refused : (source after asked : Option (List ℕ)) (was_fed : List ℕ → Type 0) (text : List ℕ) (r : Result Summary Fault) → (w : IsFedAll 0 source after asked was_fed) → source ≡ Some text → IfErr r (IsRefusal w.text) → IfErr r (IsRefusedBy 0 IsFollowRefusal text after asked)
end_refused source after asked was_fed text (Ok sums) w shown h = tt
end_refused source after asked was_fed text (Err f) w shown h =
    let all = w.source text shown in
    record { given = w.text; rest = []; whole = all.0 ∙ sym (append-nil w.text); left = all.1; order = inr (sound_at_end 0 source after asked was_fed text w shown); refusal = at_end w.text f (none_sound w.text w.sound) h }

pub end_taken : (source left asked : Option (List ℕ)) (was_fed : List ℕ → Type 0) (text : List ℕ) (before taken after : Option (List ℕ)) (well : Type 0) (r : Result Summary Fault) → (w : IsFedAll 0 source left asked was_fed) → source ≡ Some text → HasFindings before taken w.text → IfErr r (IsRefusal w.text)
    → IfErr r (λ fault. fault ≢ Write → after ≡ taken) → (r ≡ Err Write → HasFirst before after (trace_report w.text)) → IfErr r (IsRefusedBy 0 (IsWrittenOf before after well) text left asked)
end_taken source left asked was_fed text before taken after well (Ok sums) w shown h r kept part = tt
end_taken source left asked was_fed text before taken after well (Err f) w shown h r kept part =
    let all = w.source text shown in
    record {
      given = w.text;
      rest = [];
      whole = all.0 ∙ sym (append-nil w.text);
      left = all.1;
      order = inr (sound_at_end 0 source left asked was_fed text w shown);
      refusal = written_at_end w.text before taken after well f h r kept (λ e. part (ap Err e));
    }
