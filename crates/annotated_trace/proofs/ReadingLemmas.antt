-- What a sink accepted of a trace that is printed while it is read.
use Rattle.std.proofs.Common.{◌≡◌, ◌≢◌, ◌∙◌, sym, ap, subst, ℕ, ◌<◌, ◌≤◌, ◌^◌, List, [], ◌++◌, length, Option, None, Result, Ok, Err, IfOk, IfErr, OnOk, append-nil, arith, inl, inr, ◌⊎◌}
use Rattle.line_model.specs.text.Text.{Line, early, ended_lines}
use Rattle.line_model.specs.declared.fault.Fault.{Fault}
use Rattle.line_model.specs.declared.fault.Fault.TheVariants.{Memory, Trace, Read, Write}
use Rattle.line_model.specs.declared.totals.Summary.{Summary}
use Rattle.line_model.proofs.DeviceLemmas.{with_more-nil}
use Rattle.line_model.proofs.TextLemmas.{early-nothing}
use Rattle.trace_text.specs.Sources.{HasFailed, IsFedAll, IsFedUpTo}
use Rattle.trace_text.proofs.DecidedLemmas.{all_sound, decided_before, none_sound}
use Rattle.trace_text.proofs.SourceLemmas.{all_sound as sound_at_end, sound_before}
use Rattle.annotated_trace.specs.Printers.{HasFirstPrint, HasPrintBefore, HasPrinted, IsEndRefusal, IsPrinterFault, IsRefusalOf, WasFed}
use Rattle.annotated_trace.specs.Printing.{HasPassed, HasWritten, IsReadRefusal, IsRefusedAfter, StopsPrinting, StopsReading}
use Rattle.annotated_trace.specs.declared.printing.TracePrinter.{TracePrinter}
use Rattle.annotated_trace.proofs.PassedLemmas.{all_first}

none_taken : (F : List Line → List ℕ → Type 0) (taken : Option (List ℕ)) → F [] [] → HasPrinted F taken taken [] (ended_lines [])
none_taken F taken nothing = record { sent = []; taken_is = sym (with_more-nil taken); lines = nothing }

pub nothing_written : {A O P : Type 0} (S : O → P → List ℕ → Type 0) (size : O → ℕ) (F : List Line → List ℕ → Type 0) (taken : Option (List ℕ)) (n : ℕ) (t : TracePrinter A O P) → F [] [] → WasFed S t [] → t.held.items ≡ [] → size t.trace ≡ 0 → HasWritten S size F taken taken n n [] t
nothing_written S size F taken n t nothing s h none = record { fed = s; printed = none_taken F taken nothing; none_held = h; rising = omega arith; sound = early-nothing; sized = none }

-- what the printer's clauses require
pub held_of : {A O P : Type 0} (S : O → P → List ℕ → Type 0) (size : O → ℕ) (F : List Line → List ℕ → Type 0) (before taken : Option (List ℕ)) (x y : ℕ) (text : List ℕ) (t : TracePrinter A O P) → HasWritten S size F before taken x y text t → HasPrinted F before taken t.held.items (ended_lines text)
held_of S size F before taken x y text t w = subst (λ h. HasPrinted F before taken h (ended_lines text)) (sym w.none_held) w.printed

-- ---- one more chunk

pub more_written : {A O P T : Type 0} (S : O → P → List ℕ → Type 0) (size : O → ℕ) (F : List Line → List ℕ → Type 0) (r : Result T Fault) (before taken next : Option (List ℕ)) (x y z : ℕ) (text bytes : List ℕ) (a b : TracePrinter A O P) → HasWritten S size F before taken x y text a → OnOk r (WasFed S b (text ++ bytes))
    → OnOk r (HasPrinted F before next [] (ended_lines (text ++ bytes))) → OnOk r (b.held.items ≡ []) → y ≤ z → (WasFed S b (text ++ bytes) → early (text ++ bytes) ≡ None) → (WasFed S b (text ++ bytes) → size b.trace ≡ length (text ++ bytes)) → OnOk r (HasWritten S size F before next x z (text ++ bytes) b)
more_written S size F (Err e) before taken next x y z text bytes a b w s h none rises sound sized = tt
more_written S size F (Ok u) before taken next x y z text bytes a b w s h none rises sound sized = record {
  fed = s;
  printed = h;
  none_held = none;
  rising = omega (arith, w.rising, rises);
  sound = sound s;
  sized = sized s;
}

pub chunk_refused : {A O P T : Type 0} (S : O → P → List ℕ → Type 0) (size : O → ℕ) (F : List Line → List ℕ → Type 0) (r : Result T Fault) (before taken next : Option (List ℕ)) (x y z : ℕ) (text last : List ℕ) (a : TracePrinter A O P) → HasWritten S size F before taken x y text a → y ≤ z
    → IfErr r (IsRefusalOf (early (text ++ last))) → IfErr r (λ f. HasFirstPrint F before next (ended_lines (text ++ last))) → (z ≡ y → IfErr r (HasPrintBefore F before next (ended_lines (text ++ last)))) → IfErr r IsPrinterFault → (r ≡ Err Write → y < z) → IfErr r (IsRefusedAfter F before next x z text last)
chunk_refused S size F (Ok u) before taken next x y z text last a w rises refusal first all kinds failed = tt
chunk_refused S size F (Err f) before taken next x y z text last a w rises refusal first all kinds failed = record {
  refusal = refusal;
  first = first;
  at_line = λ same. let le = w.rising in all (omega (arith, le, rises, same));
  kinds = kinds;
  failed = λ e. let le = w.rising in let more = failed (ap Err e) in omega (arith, le, more);
}

no_read : (f : Fault) → IsPrinterFault f → f ≡ Read → ⊥
no_read f h e = subst IsPrinterFault e h

pub chunk_reads : {T : Type 0} (r : Result T Fault) → IfErr r IsPrinterFault → IfErr r (λ f. f ≢ Read)
chunk_reads (Ok u) h = tt
chunk_reads (Err f) h = no_read f h

-- ---- where reading stopped

read_refusal : (given bytes : List ℕ) (f : Fault) → early given ≡ None → length bytes ≤ 2 ^ 16 → IsRefusalOf (early (given ++ bytes)) f → IsReadRefusal (given ++ bytes) f
read_refusal given bytes Memory sound few h = decided_before 0 given bytes (all_sound 0 given sound) few
read_refusal given bytes (Trace line kind) sound few h = (decided_before 0 given bytes (all_sound 0 given sound) few, h)
read_refusal given bytes Write sound few h = decided_before 0 given bytes (all_sound 0 given sound) few
read_refusal given bytes _ sound few h = absurd h

-- what stops a printer: the source failed, or it refused what the source gave last
abbrev pub IsPrinterStop : {A O P : Type 0} (S : O → P → List ℕ → Type 0) (size : O → ℕ) (F : List Line → List ℕ → Type 0) (before taken : Option (List ℕ)) (x z : ℕ) (t : TracePrinter A O P) (fed last : List ℕ) → Fault → Type 0
IsPrinterStop S size F before taken x z t fed last f = HasFailed (λ text. HasWritten S size F before taken x z text t) fed last f ⊎ IsRefusedAfter F before taken x z fed last f

stop_failed : (F : List Line → List ℕ → Type 0) (given : List ℕ) (before taken : Option (List ℕ)) (well : Type 0) → early given ≡ None → HasPrinted F before taken [] (ended_lines given) → StopsReading F given before taken well Read
stop_failed F given before taken well sound h = record { refusal = sound; first = all_first F before taken [] (ended_lines given) h; at_line = λ w. tt; at_failure = λ e. h }

stop_is : {A O P : Type 0} (S : O → P → List ℕ → Type 0) (size : O → ℕ) (F : List Line → List ℕ → Type 0) (before taken : Option (List ℕ)) (x z : ℕ) (t : TracePrinter A O P) (fed last : List ℕ) (f : Fault) → early fed ≡ None → length last ≤ 2 ^ 16 → IsPrinterStop S size F before taken x z t fed last f
    → StopsReading F (fed ++ last) before taken (z ≡ x) f
stop_is S size F before taken x z t fed last f sound few (inl why) =
    subst (StopsReading F (fed ++ last) before taken (z ≡ x)) (sym why.failure)
    (subst (λ xs. StopsReading F (fed ++ xs) before taken (z ≡ x) Read) (sym why.none) (subst (λ xs. StopsReading F xs before taken (z ≡ x) Read) (sym (append-nil fed)) (stop_failed F fed before taken (z ≡ x) sound why.represented.printed)))
stop_is S size F before taken x z t fed last f sound few (inr why) = record { refusal = read_refusal fed last f sound few why.refusal; first = why.first; at_line = why.at_line; at_failure = λ e. absurd (no_read f why.kinds e) }

-- by what a reader of the source says
abbrev pub IsWrittenUpTo : {A O P : Type 0} (S : O → P → List ℕ → Type 0) (size : O → ℕ) (F : List Line → List ℕ → Type 0) (left after asked before taken : Option (List ℕ)) (x z : ℕ) (t : TracePrinter A O P) → Fault → Type 0
IsWrittenUpTo S size F left after asked before taken x z t f = IsFedUpTo 0 left after asked (λ text. HasWritten S size F before taken x z text t) (IsRefusedAfter F before taken x z) f

pub reading_stops : {A O P : Type 0} (S : O → P → List ℕ → Type 0) (size : O → ℕ) (F : List Line → List ℕ → Type 0) (has_first : List ℕ → Option (List ℕ) → Option (List ℕ) → Type 0) (left after asked before taken : Option (List ℕ)) (x z : ℕ) (t : TracePrinter A O P) (f : Fault)
    → IsWrittenUpTo S size F left after asked before taken x z t f → StopsPrinting F has_first left after asked before taken (z ≡ x) f
reading_stops S size F has_first left after asked before taken x z t f u = record {
  given = u.fed ++ u.last;
  source = u.given;
  order = λ text shown. sound_before 0 left after asked (λ y. HasWritten S size F before taken x z y t) (IsRefusedAfter F before taken x z) f text u shown;
  why = inl (stop_is S size F before taken x z t u.fed u.last f (none_sound u.fed u.sound) u.few u.why);
}

-- ---- at the end

pub end_prints : (whole : List ℕ → Option (List ℕ) → Option (List ℕ) → Summary → Type 0) (left after asked before taken : Option (List ℕ)) (was_fed : List ℕ → Type 0) (r : Result Summary Fault) → (w : IsFedAll 0 left after asked was_fed) → IfOk r (whole w.text before taken) → IfOk r (HasPassed whole left after asked before taken)
end_prints whole left after asked before taken was_fed (Ok sums) w h = record { given = w.text; source = w.source; printed = h }
end_prints whole left after asked before taken was_fed (Err f) w h = tt

pub end_stops : {K : Type 0} → (F : List Line → List ℕ → Type 0) (has_first : List ℕ → Option (List ℕ) → Option (List ℕ) → Type 0) (left after asked before : Option (List ℕ)) (well : Type 0) (was_fed : List ℕ → Type 0) (took : K → Option (List ℕ)) (old new : K) (r : Result Summary Fault) → (w : IsFedAll 0 left after asked was_fed)
    → HasPrinted F before (took old) [] (ended_lines w.text) → IfErr r (IsEndRefusal w.text) → IfErr r (λ fault. fault ≢ Write → new ≡ old) → (r ≡ Err Write → has_first w.text before (took new)) → IfErr r (StopsPrinting F has_first left after asked before (took new) well)
end_stops F has_first left after asked before well was_fed took old new (Ok sums) w h refusal kept part = tt
end_stops F has_first left after asked before well was_fed took old new (Err f) w h refusal kept part = record {
  given = w.text;
  source = λ x shown. let all = w.source x shown in ([], all.0 ∙ sym (append-nil w.text), all.1);
  order = λ x shown. sound_at_end 0 left after asked was_fed x w shown;
  why = inr (record {
    source = w.source;
    sound = none_sound w.text w.sound;
    refusal = refusal;
    kept = λ n. subst (λ t. HasPrinted F before t [] (ended_lines w.text)) (sym (ap took (kept n))) h;
    first = λ e. part (ap Err e);
  });
}
