-- What a scan keeps of a refusal, and what waits of findings and rows.
use Rattle.std.proofs.Common.{◌≡◌, ◌∙◌, ◌++◌, ℕ, List, [], OnOk, Option, Result, Ok, Err, Some, ap, append-nil, arith, refl, subst, sym}
use Rattle.std.specs.Prelude.{IfErr}
use Rattle.annotated_trace.specs.Printed.{HasAppended}
use Rattle.annotated_trace.specs.Printers.{HasPrintBefore, HasPrinted, IsEndRefusal, IsRefusalOf}
use Rattle.line_model.proofs.DeviceLemmas.{with_more-nil}
use Rattle.line_model.specs.declared.fault.Fault.{Fault}
use Rattle.line_model.specs.declared.fault.Fault.TheVariants.{Memory, Trace}
use Rattle.line_model.specs.declared.fault.Kind.{Kind}
use Rattle.line_model.specs.declared.finding.Finding.{Finding}
use Rattle.line_model.specs.declared.state.Side.{Side}
use Rattle.line_model.specs.text.Text.{Line, good_lines}
use Rattle.live_report.specs.Found.{HasFound, HasFoundSome, IsFoundBy, IsFoundUpTo}
use Rattle.x25scan_c.specs.declared.scanning.Scanning.{Scanning}
use Rattle.x25scan_c.specs.Rows.{AddsRows, AddsRowsBefore, AreRowObjects}
use Rattle.x25scan_c.specs.Sound.{KeepsEndFault, KeepsFault, number_of}

-- a line was refused, and is kept
pub keeps_line : (at : Option (ℕ × Kind)) (f : Fault) (s : Scanning) (n : ℕ) → ((line : ℕ) (kind : Kind) → f ≡ Trace line kind → at ≡ Some (line, kind)) → n ≡ number_of f → ((line : ℕ) (kind : Kind) → f ≡ Trace line kind → s.refused ≡ Some (line, kind)) → n ≡ 2 → KeepsFault at s
keeps_line at (Trace line kind) s n is number kept two = record { line = line; kind = kind; is = is line kind refl; kept = kept line kind refl }
keeps_line at _ s n is number kept two = absurd (omega (arith, number, two))

-- the same at the end of a text of rows
pub keeps_end : (text : List ℕ) (f : Fault) (s : Scanning) (n : ℕ) → IsEndRefusal text f → n ≡ number_of f → ((line : ℕ) (kind : Kind) → f ≡ Trace line kind → s.refused ≡ Some (line, kind)) → n ≡ 2 → KeepsEndFault text s
keeps_end text (Trace line kind) s n is number kept two = record { line = line; kind = kind; is = is; kept = kept line kind refl }
keeps_end text _ s n is number kept two = absurd (omega (arith, number, two))

-- the objects of the rows before the line that was refused
pub rows_before : (at : Option (ℕ × Kind)) (f : Fault) (n : ℕ) (ls ls_after : List Line) (waits waits_after : List ℕ) → IsRefusalOf at f → n ≡ number_of f → n ≡ 2 → AddsRowsBefore ls ls_after waits waits_after f → AddsRows ls (good_lines at ls_after) waits waits_after
rows_before at (Trace line kind) n ls ls_after waits waits_after is number two h = subst (λ a. AddsRows ls (good_lines a ls_after) waits waits_after) (sym is) h
rows_before at _ n ls ls_after waits waits_after is number two h = absurd (omega (arith, number, two))

-- what was found waits after what waited
found_after : (out new known known_after : List Finding) → HasFound [] new known known_after → HasFound out (out ++ new) known known_after
found_after out new known known_after h = record { more = h.more; out_has = ap (λ xs. out ++ xs) h.out_has; known_has = h.known_has }

some_after : (out new known known_after : List Finding) → HasFoundSome [] new known known_after → HasFoundSome out (out ++ new) known known_after
some_after out new known known_after h = record { more = h.more; rest = h.rest; out_has = ap (λ xs. out ++ xs) h.out_has; known_has = h.known_has }

pub found_on : {T : Type 0} (r : Result T Fault) (out new known known_after : List Finding) → IsFoundBy r [] new known known_after → IsFoundBy r out (out ++ new) known known_after
found_on (Ok x) out new known known_after h = found_after out new known known_after h
found_on (Err Memory) out new known known_after h = some_after out new known known_after h
found_on (Err _) out new known known_after h = found_after out new known known_after h

-- or none of it, where memory was refused
pub none_on : {T : Type 0} (r : Result T Fault) (out out_after new known known_after : List Finding) → out_after ≡ out → IsFoundBy r [] new known known_after → HasFoundSome out out_after known known_after
none_on (Ok x) out out_after new known known_after e h = record { more = []; rest = h.more; out_has = e ∙ sym (append-nil out); known_has = h.known_has }
none_on (Err Memory) out out_after new known known_after e h = record { more = []; rest = h.more ++ h.rest; out_has = e ∙ sym (append-nil out); known_has = h.known_has }
none_on (Err _) out out_after new known known_after e h = record { more = []; rest = h.more; out_has = e ∙ sym (append-nil out); known_has = h.known_has }

-- what the rows before a faulty line found
pub found_before : (f : Fault) (n : ℕ) (out out_after known known_after : List Finding) → n ≡ number_of f → n ≡ 2 → IsFoundUpTo f out out_after known known_after → HasFound out out_after known known_after
found_before (Trace line kind) n out out_after known known_after number two h = h
found_before _ n out out_after known known_after number two h = absurd (omega (arith, number, two))

-- a sink has nothing of the objects that are gone
pub none_sent : (gone held : List ℕ) (before : Option (List ℕ)) (ls : List Line) → held ≡ [] → AreRowObjects ls gone → HasPrinted (λ l bytes. AreRowObjects l (gone ++ bytes)) before before held ls
none_sent gone held before ls none h = record {
  sent = [];
  taken_is = sym (with_more-nil before);
  lines = subst (AreRowObjects ls) (sym (ap (λ xs. gone ++ xs) none ∙ append-nil gone)) h;
}

some_same : (xs ys : List ℕ) → Some xs ≡ Some ys → xs ≡ ys
some_same xs ys e = cc

-- what was printed waits
printed_waits : (is_print : List Line → List ℕ → Type 0) (waits waits_after : List ℕ) (ls : List Line) → HasPrinted is_print (Some waits) (Some waits_after) [] ls → HasAppended (is_print ls) waits waits_after
printed_waits is_print waits waits_after ls h = record { bytes = h.sent; appended = some_same waits_after (waits ++ h.sent) h.taken_is; formed = subst (is_print ls) (append-nil h.sent) h.lines }

pub adds_rows : {T E : Type 0} (r : Result T E) (ls ls_after : List Line) (waits waits_after : List ℕ) → ((gone : List ℕ) → AreRowObjects ls gone → OnOk r (HasPrinted (λ l bytes. AreRowObjects l (gone ++ bytes)) (Some waits) (Some waits_after) [] ls_after)) → OnOk r (AddsRows ls ls_after waits waits_after)
adds_rows (Ok x) ls ls_after waits waits_after printed = λ gone before. printed_waits (λ l bytes. AreRowObjects l (gone ++ bytes)) waits waits_after ls_after (printed gone before)
adds_rows (Err e) ls ls_after waits waits_after printed = tt

pub adds_rows_before : {T : Type 0} (r : Result T Fault) (ls ls_after : List Line) (waits waits_after : List ℕ) → ((gone : List ℕ) → AreRowObjects ls gone → IfErr r (HasPrintBefore (λ l bytes. AreRowObjects l (gone ++ bytes)) (Some waits) (Some waits_after) ls_after)) → IfErr r (AddsRowsBefore ls ls_after waits waits_after)
adds_rows_before (Ok x) ls ls_after waits waits_after printed = tt
adds_rows_before (Err (Trace line kind)) ls ls_after waits waits_after printed = λ gone before. printed_waits (λ l bytes. AreRowObjects l (gone ++ bytes)) waits waits_after _ (printed gone before)
adds_rows_before (Err f) ls ls_after waits waits_after printed = tt

-- the same side by both
pub same_side : (o : Option Side) (x s : Side) → o ≡ Some x → o ≡ Some s → x ≡ s
same_side o x s one other = cc
