-- The lines of a chunk that were passed.
use Rattle.std.proofs.Common.{◌≡◌, ◌≢◌, ◌∙◌, sym, ap, subst, refl, ℕ, ◌+◌, ◌-◌, true, false, List, [], ◌∷◌, ◌++◌, length, take, drop, Option, Some, None, append_assoc, append-nil, length-append}
use Rattle.std.proofs.Math.Seq.{take-append_seam}
use Rattle.std.proofs.lemmas.List.{take-append-drop}
use Rattle.line_model.proofs.TextLemmas.{ended-more}
use Rattle.line_model.specs.basics.Device.{with_more}
use Rattle.line_model.specs.text.Text.{Line, early, ended_lines, good_lines}
use Rattle.line_model.specs.declared.fault.Fault.{Fault}
use Rattle.line_model.specs.declared.fault.Fault.TheVariants.{Memory, Trace, Write}
use Rattle.line_model.proofs.FinalFaults.{early-append}
use Rattle.annotated_trace.specs.Annotation.{IsOneLine}
use Rattle.annotated_trace.specs.Printers.{HasPrinted, HasFirstPrint, HasPrintBefore, IsRefusalOf, IsStoppedAt, WasFed, is_line}
use Rattle.trace_text.specs.Represents.{IsFaultOf}
use Rattle.annotated_trace.specs.declared.printing.TracePrinter.{TracePrinter}
use Rattle.annotated_trace.proofs.PrintLemmas.{before_begun, before_line, first_of}
use Rattle.line_model.proofs.DeviceLemmas.{with_more-append}

-- some first bytes of a chunk were fed, and what is printed grew with them
pub record Passed {A O P : Type 0} (S : O → P → List ℕ → Type 0) (F : List Line → List ℕ → Type 0) (a0 a : TracePrinter A O P) (taken0 taken : Option (List ℕ)) (chunk rest : List ℕ) : Type 0 where
  pub fed : List ℕ
  pub whole : chunk ≡ fed ++ rest
  pub represented : (x : List ℕ) → WasFed S a0 x → WasFed S a (x ++ fed)
  pub printed : (x : List ℕ) (before : Option (List ℕ)) → WasFed S a0 x → HasPrinted F before taken0 a0.held.items (ended_lines x) → HasPrinted F before taken a.held.items (ended_lines (x ++ fed))

pub nothing_passed : {A O P : Type 0} → (S : O → P → List ℕ → Type 0) (F : List Line → List ℕ → Type 0) (a : TracePrinter A O P) (taken : Option (List ℕ)) (chunk : List ℕ) → Passed S F a a taken taken chunk chunk
nothing_passed S F a taken chunk = record {
  fed = [];
  whole = refl;
  represented = λ x s. subst (WasFed S a) (sym (append-nil x)) s;
  printed = λ x before s h. subst (λ y. HasPrinted F before taken a.held.items (ended_lines y)) (sym (append-nil x)) h;
}

-- the end of a line is a slice of the chunk
pub line_end : (front back rest : List ℕ) → rest ≡ front ++ 10 ∷ back → take (length front + 1) rest ≡ front ++ 10 ∷ []
line_end front back rest e =
    let split : rest ≡ (front ++ 10 ∷ []) ++ back = e ∙ sym (append_assoc front (10 ∷ []) back) in
    let size : length front + 1 ≡ length (front ++ 10 ∷ []) = sym (length-append front (10 ∷ [])) in
    ap (λ n. take n rest) size ∙ ap (take (length (front ++ 10 ∷ []))) split ∙ take-append_seam (front ++ 10 ∷ []) back

behind_line : (fed front back rest end chunk : List ℕ) → chunk ≡ fed ++ rest → rest ≡ front ++ 10 ∷ back → end ≡ front ++ 10 ∷ [] → chunk ≡ (fed ++ end) ++ back
behind_line fed front back rest end chunk w e k =
    w ∙ ap (λ xs. fed ++ xs) (e ∙ sym (append_assoc front (10 ∷ []) back) ∙ ap (λ xs. xs ++ back) (sym k)) ∙ sym (append_assoc fed end back)

-- what was printed, and the line with it
printed_line : (F : List Line → List ℕ → Type 0) (before taken taken2 : Option (List ℕ)) (held held1 held2 x y sent : List ℕ) → ((front : List ℕ) → F (ended_lines x) (front ++ held) → F (ended_lines y) (front ++ held1)) → taken2 ≡ with_more taken sent → sent ++ held2 ≡ held1
    → HasPrinted F before taken held (ended_lines x) → HasPrinted F before taken2 held2 (ended_lines y)
printed_line F before taken taken2 held held1 held2 x y sent step t put h = record {
  sent = h.sent ++ sent;
  taken_is = t ∙ ap (λ o. with_more o sent) h.taken_is ∙ with_more-append before h.sent sent;
  lines = subst (F (ended_lines y)) (ap (λ xs. h.sent ++ xs) (sym put) ∙ sym (append_assoc h.sent sent held2)) (step h.sent h.lines);
}

same_read : {A O P : Type 0} → (S : O → P → List ℕ → Type 0) (a1 a2 : TracePrinter A O P) (x : List ℕ) → a2.trace ≡ a1.trace → a2.printer ≡ a1.printer → S a1.trace a1.printer x → S a2.trace a2.printer x
same_read S a1 a2 x t d h = subst (λ w. S w a2.printer x) (sym t) (subst (λ y. S a1.trace y x) (sym d) h)

pub line_passed : {A O P : Type 0} → (S : O → P → List ℕ → Type 0) (F : List Line → List ℕ → Type 0) (a0 a a1 a2 : TracePrinter A O P) (taken0 taken taken2 : Option (List ℕ)) (chunk rest front back end sent : List ℕ) → Passed S F a0 a taken0 taken chunk rest → rest ≡ front ++ 10 ∷ back
    → end ≡ front ++ 10 ∷ [] → IsOneLine front → ((x front : List ℕ) → WasFed S a x → end ≡ front ++ 10 ∷ [] → IsOneLine front → WasFed S a1 (x ++ end))
    → ((x front sent : List ℕ) → WasFed S a x → end ≡ front ++ 10 ∷ [] → IsOneLine front → F (ended_lines x) (sent ++ a.held.items) → F (ended_lines (x ++ end)) (sent ++ a1.held.items))
    → a2.trace ≡ a1.trace → a2.printer ≡ a1.printer → a2.begun.items ≡ a1.begun.items → taken2 ≡ with_more taken sent → sent ++ a2.held.items ≡ a1.held.items → Passed S F a0 a2 taken0 taken2 chunk back
line_passed S F a0 a a1 a2 taken0 taken taken2 chunk rest front back end sent p e k one represented held t d b took put = record {
  fed = p.fed ++ end;
  whole = behind_line p.fed front back rest end chunk p.whole e k;
  represented = λ x s.
      let next = represented (x ++ p.fed) front (p.represented x s) k one in
      subst (WasFed S a2) (append_assoc x p.fed end) (record { trace = same_read S a1 a2 ((x ++ p.fed) ++ end) t d next.trace; begun = b ∙ next.begun });
  printed = λ x before s h.
      let now = printed_line F before taken taken2 a.held.items a1.held.items a2.held.items (x ++ p.fed) ((x ++ p.fed) ++ end) sent (λ f g. held (x ++ p.fed) front f (p.represented x s) k one g) took put (p.printed x before s h) in
      subst (λ y. HasPrinted F before taken2 a2.held.items (ended_lines y)) (append_assoc x p.fed end) now;
}

-- ---- where a line is refused

chunk_behind : (x fed end back chunk : List ℕ) → chunk ≡ (fed ++ end) ++ back → x ++ chunk ≡ ((x ++ fed) ++ end) ++ back
chunk_behind x fed end back chunk w = ap (λ c. x ++ c) w ∙ sym (append_assoc x (fed ++ end) back) ∙ ap (λ c. c ++ back) (sym (append_assoc x fed end))

pub line_refusal : {A O P : Type 0} → (S : O → P → List ℕ → Type 0) (F : List Line → List ℕ → Type 0) (a0 a : TracePrinter A O P) (taken0 taken : Option (List ℕ)) (chunk rest front back end x : List ℕ) (f : Fault) → (p : Passed S F a0 a taken0 taken chunk rest) → rest ≡ front ++ 10 ∷ back
    → end ≡ front ++ 10 ∷ [] → IsFaultOf (early ((x ++ p.fed) ++ end)) f → IsRefusalOf (early (x ++ chunk)) f
line_refusal S F a0 a taken0 taken chunk rest front back end x Memory p e k h = tt
line_refusal S F a0 a taken0 taken chunk rest front back end x (Trace line kind) p e k h =
    ap early (chunk_behind x p.fed end back chunk (behind_line p.fed front back rest end chunk p.whole e k)) ∙ early-append ((x ++ p.fed) ++ end) back (line, kind) h
line_refusal S F a0 a taken0 taken chunk rest front back end x _ p e k h = absurd h

pub rest_refusal : {A O P : Type 0} → (S : O → P → List ℕ → Type 0) (F : List Line → List ℕ → Type 0) (a0 a : TracePrinter A O P) (taken0 taken : Option (List ℕ)) (chunk rest x : List ℕ) (f : Fault) → (p : Passed S F a0 a taken0 taken chunk rest) → IsFaultOf (early ((x ++ p.fed) ++ rest)) f → IsRefusalOf (early (x ++ chunk)) f
rest_refusal S F a0 a taken0 taken chunk rest x Memory p h = tt
rest_refusal S F a0 a taken0 taken chunk rest x (Trace line kind) p h = ap early (ap (λ c. x ++ c) p.whole ∙ sym (append_assoc x p.fed rest)) ∙ h
rest_refusal S F a0 a taken0 taken chunk rest x _ p h = absurd h

other_held : (F : List Line → List ℕ → Type 0) (before taken : Option (List ℕ)) (held other : List ℕ) (ls : List (List ℕ)) → other ≡ held → HasPrinted F before taken held ls → HasPrinted F before taken other ls
other_held F before taken held other ls e h = subst (λ k. HasPrinted F before taken k ls) (sym e) h

pub line_stopped : {A O P : Type 0} → (S : O → P → List ℕ → Type 0) (F : List Line → List ℕ → Type 0) (a0 a : TracePrinter A O P) (taken0 taken before : Option (List ℕ)) (chunk rest front back end x held : List ℕ) (f : Fault) → (p : Passed S F a0 a taken0 taken chunk rest) → rest ≡ front ++ 10 ∷ back
    → end ≡ front ++ 10 ∷ [] → IsOneLine front → WasFed S a0 x → early (x ++ p.fed) ≡ None → HasPrinted F before taken0 a0.held.items (ended_lines x) → IsFaultOf (early ((x ++ p.fed) ++ end)) f → (f ≢ Memory → held ≡ a.held.items)
    → IsStoppedAt F before taken held (ended_lines (x ++ chunk)) f
line_stopped S F a0 a taken0 taken before chunk rest front back end x held Memory p e k one s sound h fault same =
    subst (λ y. HasFirstPrint F before taken (ended_lines y)) (sym (ap (λ c. x ++ c) p.whole ∙ sym (append_assoc x p.fed rest))) (first_of F before taken a.held.items (x ++ p.fed) rest (p.printed x before s h))
line_stopped S F a0 a taken0 taken before chunk rest front back end x held (Trace line kind) p e k one s sound h fault same =
    let whole = chunk_behind x p.fed end back chunk (behind_line p.fed front back rest end chunk p.whole e k) ∙ append_assoc (x ++ p.fed) end back ∙ ap (λ y. (x ++ p.fed) ++ (y ++ back)) k in
    let lines = ap (λ y. good_lines (Some (line, kind)) (ended_lines y)) whole ∙ before_line (x ++ p.fed) front back (line, kind) sound one (ap (λ y. early ((x ++ p.fed) ++ y)) (sym k) ∙ fault) in
    other_held F before taken a.held.items held (good_lines (Some (line, kind)) (ended_lines (x ++ chunk))) (same (λ bad. cc))
    (subst (λ ls. HasPrinted F before taken a.held.items ls) (sym lines) (p.printed x before s h))
line_stopped S F a0 a taken0 taken before chunk rest front back end x held _ p e k one s sound h fault same = absurd fault

pub rest_printed : {A O P : Type 0} → (S : O → P → List ℕ → Type 0) (F : List Line → List ℕ → Type 0) (a0 a : TracePrinter A O P) (taken0 taken before : Option (List ℕ)) (chunk rest x held : List ℕ) → (p : Passed S F a0 a taken0 taken chunk rest) → IsOneLine rest → WasFed S a0 x
    → HasPrinted F before taken0 a0.held.items (ended_lines x) → held ≡ a.held.items → HasPrinted F before taken held (ended_lines (x ++ chunk))
rest_printed S F a0 a taken0 taken before chunk rest x held p one s h same =
    let lines : ended_lines (x ++ chunk) ≡ ended_lines (x ++ p.fed) = ap (λ c. ended_lines (x ++ c)) p.whole ∙ ap ended_lines (sym (append_assoc x p.fed rest)) ∙ ended-more (x ++ p.fed) rest one in
    other_held F before taken a.held.items held (ended_lines (x ++ chunk)) same (subst (λ ls. HasPrinted F before taken a.held.items ls) (sym lines) (p.printed x before s h))

pub rest_stopped : {A O P : Type 0} → (S : O → P → List ℕ → Type 0) (F : List Line → List ℕ → Type 0) (a0 a : TracePrinter A O P) (taken0 taken before : Option (List ℕ)) (chunk rest x held : List ℕ) (f : Fault) → (p : Passed S F a0 a taken0 taken chunk rest) → IsOneLine rest → WasFed S a0 x
    → early (x ++ p.fed) ≡ None → HasPrinted F before taken0 a0.held.items (ended_lines x) → held ≡ a.held.items → IsFaultOf (early ((x ++ p.fed) ++ rest)) f → IsStoppedAt F before taken held (ended_lines (x ++ chunk)) f
rest_stopped S F a0 a taken0 taken before chunk rest x held Memory p one s sound h same fault =
    subst (λ y. HasFirstPrint F before taken (ended_lines y)) (sym (ap (λ c. x ++ c) p.whole ∙ sym (append_assoc x p.fed rest))) (first_of F before taken a.held.items (x ++ p.fed) rest (p.printed x before s h))
rest_stopped S F a0 a taken0 taken before chunk rest x held (Trace line kind) p one s sound h same fault =
    let lines = ap (λ y. good_lines (Some (line, kind)) (ended_lines y)) (ap (λ c. x ++ c) p.whole ∙ sym (append_assoc x p.fed rest)) ∙ before_begun (x ++ p.fed) rest (line, kind) sound one fault in
    other_held F before taken a.held.items held (good_lines (Some (line, kind)) (ended_lines (x ++ chunk))) same (subst (λ ls. HasPrinted F before taken a.held.items ls) (sym lines) (p.printed x before s h))
rest_stopped S F a0 a taken0 taken before chunk rest x held _ p one s sound h same fault = absurd fault

-- ---- what a sink was given

pub sent_all : (F : List Line → List ℕ → Type 0) (before taken taken2 : Option (List ℕ)) (held : List ℕ) (ls : List (List ℕ)) → HasPrinted F before taken held ls → taken2 ≡ with_more taken held → HasPrinted F before taken2 [] ls
sent_all F before taken taken2 held ls h t = record {
  sent = h.sent ++ held;
  taken_is = t ∙ ap (λ o. with_more o held) h.taken_is ∙ with_more-append before h.sent held;
  lines = subst (F ls) (sym (append-nil (h.sent ++ held))) h.lines;
}

pub sent_part : (F : List Line → List ℕ → Type 0) (before taken taken2 : Option (List ℕ)) (held front left : List ℕ) (ls : List (List ℕ)) → HasPrinted F before taken held ls → held ≡ front ++ left → taken2 ≡ with_more taken front → HasPrinted F before taken2 left ls
sent_part F before taken taken2 held front left ls h split t = record {
  sent = h.sent ++ front;
  taken_is = t ∙ ap (λ o. with_more o front) h.taken_is ∙ with_more-append before h.sent front;
  lines = subst (F ls) (ap (λ xs. h.sent ++ xs) split ∙ sym (append_assoc h.sent front left)) h.lines;
}

pub all_first : (F : List Line → List ℕ → Type 0) (before taken : Option (List ℕ)) (held : List ℕ) (ls : List (List ℕ)) → HasPrinted F before taken held ls → HasFirstPrint F before taken ls
all_first F before taken held ls h = record { done = ls; others = []; lines = sym (append-nil ls); left = held; printed = h }

good_first : (F : List Line → List ℕ → Type 0) (before taken : Option (List ℕ)) (held : List ℕ) (ls : List (List ℕ)) (n : ℕ) → HasPrinted F before taken held (take n ls) → HasFirstPrint F before taken ls
good_first F before taken held ls n h = record { done = take n ls; others = drop n ls; lines = sym (take-append-drop n ls); left = held; printed = h }

-- ---- after a refusal

pub stopped_first : (F : List Line → List ℕ → Type 0) (before taken : Option (List ℕ)) (held : List ℕ) (ls : List (List ℕ)) (f : Fault) → IsStoppedAt F before taken held ls f → HasFirstPrint F before taken ls
stopped_first F before taken held ls (Trace line kind) h = good_first F before taken held ls (line - 1) h
stopped_first F before taken held ls _ h = h

pub not_line : (F : List Line → List ℕ → Type 0) (before taken : Option (List ℕ)) (ls : List (List ℕ)) (f : Fault) → is_line f ≡ false → HasPrintBefore F before taken ls f
not_line F before taken ls (Trace line kind) h = absurd (let bad : true ≡ false = h in cc)
not_line F before taken ls _ h = tt

pub line_sent : (F : List Line → List ℕ → Type 0) (before taken taken2 : Option (List ℕ)) (held : List ℕ) (ls : List (List ℕ)) (f : Fault) → is_line f ≡ true → IsStoppedAt F before taken held ls f → taken2 ≡ with_more taken held → HasPrintBefore F before taken2 ls f
line_sent F before taken taken2 held ls (Trace line kind) e h t = sent_all F before taken taken2 held (good_lines (Some (line, kind)) ls) h t
line_sent F before taken taken2 held ls _ e h t = tt

pub line_first : (F : List Line → List ℕ → Type 0) (before taken taken2 : Option (List ℕ)) (held : List ℕ) (ls : List (List ℕ)) (f : Fault) → is_line f ≡ true → IsStoppedAt F before taken held ls f → taken2 ≡ with_more taken held → HasFirstPrint F before taken2 ls
line_first F before taken taken2 held ls (Trace line kind) e h t = good_first F before taken2 [] ls (line - 1) (sent_all F before taken taken2 held (take (line - 1) ls) h t)
line_first F before taken taken2 held ls _ e h t = absurd (let bad : false ≡ true = e in cc)

pub line_part : (F : List Line → List ℕ → Type 0) (before taken taken2 : Option (List ℕ)) (held front left : List ℕ) (ls : List (List ℕ)) (f : Fault) → is_line f ≡ true → IsStoppedAt F before taken held ls f → held ≡ front ++ left → taken2 ≡ with_more taken front → HasFirstPrint F before taken2 ls
line_part F before taken taken2 held front left ls (Trace line kind) e h split t = good_first F before taken2 left ls (line - 1) (sent_part F before taken taken2 held front left (take (line - 1) ls) h split t)
line_part F before taken taken2 held front left ls _ e h split t = absurd (let bad : false ≡ true = e in cc)

-- what was held is much, and the sink failed
pub much_stopped : {A O P : Type 0} → (S : O → P → List ℕ → Type 0) (F : List Line → List ℕ → Type 0) (a0 a1 : TracePrinter A O P) (taken0 taken taken2 before : Option (List ℕ)) (chunk back x held front left : List ℕ) (f : Fault) → (q : Passed S F a0 a1 taken0 taken chunk back) → WasFed S a0 x
    → HasPrinted F before taken0 a0.held.items (ended_lines x) → a1.held.items ≡ front ++ left → taken2 ≡ with_more taken front → f ≡ Write → IsStoppedAt F before taken2 held (ended_lines (x ++ chunk)) f
much_stopped S F a0 a1 taken0 taken taken2 before chunk back x held front left f q s h split t w =
    let part = sent_part F before taken taken2 a1.held.items front left (ended_lines (x ++ q.fed)) (q.printed x before s h) split t in
    let first = first_of F before taken2 left (x ++ q.fed) back part in
    subst (IsStoppedAt F before taken2 held (ended_lines (x ++ chunk))) (sym w)
    (subst (λ y. HasFirstPrint F before taken2 (ended_lines y)) (sym (ap (λ c. x ++ c) q.whole ∙ sym (append_assoc x q.fed back))) first)
