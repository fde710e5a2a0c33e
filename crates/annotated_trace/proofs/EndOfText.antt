-- A text whose last line an LF ends or not.
use Rattle.std.proofs.Common.{◌≡◌, ◌∙◌, sym, ap, subst, refl, ℕ, ◌+◌, ◌<◌, ◌≤◌, true, false, List, [], ◌∷◌, ◌++◌, length, Option, Some, None, Result, Ok, Err, IfOk, IfErr, OnOk, arith, append_assoc, append-nil, ◌⊎◌, inl, inr}
use Rattle.std.specs.Prelude.{◌==◌}
use Rattle.std.proofs.lemmas.Bool.{eqb-true}
use Rattle.std.specs.Option.{option_or, option_map}
use Rattle.std.proofs.lemmas.Bool.Decides.{nat_tests}
use Rattle.line_model.specs.basics.Device.{with_more}
use Rattle.line_model.specs.basics.Records.{Report}
use Rattle.line_model.specs.observer.Report.{no_summary, report_of}
use Rattle.line_model.specs.text.Text.{Line, begun_kind, begun_line, content_of, early, end_kind, ended_lines, fault, first_fault, form_kind, head, head_of, line_kind, line_or_none, lines_of, rows, rows_in, size_kind, size_of}
use Rattle.line_model.specs.traces.Traces.{trace_summary}
use Rattle.line_model.specs.declared.fault.Fault.{Fault}
use Rattle.line_model.specs.declared.fault.Fault.TheVariants.{Memory, Trace, Read, Write, Start, Double, UnknownPiece, Missing}
use Rattle.line_model.specs.declared.fault.Kind.{Kind}
use Rattle.line_model.specs.declared.fault.Kind.TheVariants.{HeaderMissing, TextLarge}
use Rattle.line_model.specs.declared.totals.Summary.{Summary}
use Rattle.line_model.proofs.FinalFaults.{early-ended, one_fault, both_none}
use Rattle.line_model.proofs.TextLemmas.{begun-lf, ended-lf, first_fault-append, size_kind-none, size_of-append, size_of-ended}
use Rattle.trace_text.proofs.FeedLemmas.{early-none, no_fault, size-sound, size_less, on_err}
use Rattle.line_model.proofs.LineLemmas.{size_kind-zero}
use Rattle.annotated_trace.specs.Printed.{HasTaken, StopsClosing}
use Rattle.annotated_trace.specs.Printers.{HasFirstPrintOf, HasPrinted, IsCloseRefusal, IsEndRefusal, IsFirstOfClosing, IsFirstOfLines, IsFull, IsPrinted}
use Rattle.trace_text.specs.Represents.{IsFaultOf}
use Rattle.trace_text.specs.ObserverAnswers.{IsReportOf}
use Rattle.trace_text.proofs.EndLemmas.{one_line, one_kind, fault-last, head-sound, rows-all}
use Rattle.annotated_trace.proofs.PrintLemmas.{some_same}
use Rattle.line_model.proofs.DeviceLemmas.{with_more-append}
use Rattle.line_model.specs.packets.Says.{items_of}

-- ---- the same lines

pub same_lines : (x : List ℕ) → 0 < length (begun_line x) → lines_of (x ++ 10 ∷ []) ≡ lines_of x
same_lines x some =
    ap (λ es. es ++ line_or_none (begun_line (x ++ 10 ∷ []))) (ended-lf x) ∙ ap (λ b. (ended_lines x ++ begun_line x ∷ []) ++ line_or_none b) (begun-lf x)
    ∙ append-nil (ended_lines x ++ begun_line x ∷ []) ∙ ap (λ ls. ended_lines x ++ ls) (sym (one_line (begun_line x) some))

-- ---- the same fault

kind_less : (es : List Line) (l : Line) → line_kind es 1 l ≡ None → line_kind es 0 l ≡ None
kind_less es l h =
    let p = both_none _ _ h in
    ap (λ o. option_or o (form_kind es l)) (size_less (size_of es) (length l) p.0) ∙ p.1

one_sound : (es : List Line) (l : Line) → first_fault es (l ∷ []) ≡ None → line_kind es 1 l ≡ None
one_sound es l h = here (line_kind es 1 l) refl
  where
    here : (o : Option Kind) → line_kind es 1 l ≡ o → line_kind es 1 l ≡ None
    here None e = e
    here (Some kind) e = absurd (let bad : None ≡ Some (length es + 1, kind) = sym h ∙ one_fault es l kind e in cc)

last_line : (x : List ℕ) → early x ≡ None → first_fault [] (ended_lines (x ++ 10 ∷ [])) ≡ first_fault (ended_lines x) (begun_line x ∷ [])
last_line x sound =
    ap (first_fault []) (ended-lf x) ∙ first_fault-append [] (ended_lines x) (begun_line x ∷ []) ∙ ap (λ o. option_or o (first_fault (ended_lines x) (begun_line x ∷ []))) (no_fault x sound)

-- the fault of lines without a header
missing : List Line → Option (ℕ × Kind)
missing ls = elim (content_of ls) [ [] ↦ Some (length ls + 1, HeaderMissing) | l ∷ ms ↦ None ]

sound_fault : (x : List ℕ) → early x ≡ None → begun_kind (ended_lines x) (begun_line x) ≡ None → fault x ≡ missing (lines_of x)
unfolding fault missing
sound_fault x sound h =
    ap (λ o. option_or o (end_kind (ended_lines x) (begun_line x))) (no_fault x sound)
    ∙ ap (λ (o : Option Kind). option_or (option_map (λ kind. (length (ended_lines x) + 1, kind)) o) (elim (content_of (lines_of x)) as (λ _. Option (ℕ × Kind)) [ [] ↦ Some (length (lines_of x) + 1, HeaderMissing) | l ∷ ms ↦ None ])) h

pub same_fault : (x : List ℕ) → 0 < length (begun_line x) → early x ≡ None → early (x ++ 10 ∷ []) ≡ None → fault (x ++ 10 ∷ []) ≡ fault x
same_fault x some before sound =
    let kind : begun_kind (ended_lines x) (begun_line x) ≡ None =
    one_kind (ended_lines x) (begun_line x) some ∙ kind_less (ended_lines x) (begun_line x) (one_sound (ended_lines x) (begun_line x) (sym (last_line x before) ∙ no_fault (x ++ 10 ∷ []) sound)) in
    sound_fault (x ++ 10 ∷ []) sound (ap (begun_kind (ended_lines (x ++ 10 ∷ []))) (begun-lf x)) ∙ ap missing (same_lines x some) ∙ sym (sound_fault x before kind)

-- ---- where the LF breaks a rule

lf_sound : (x : List ℕ) → early x ≡ None → line_kind (ended_lines x) 1 (begun_line x) ≡ None → early (x ++ 10 ∷ []) ≡ None
lf_sound x sound e =
    let none : first_fault [] (ended_lines (x ++ 10 ∷ [])) ≡ None =
    last_line x sound ∙ ap (λ (o : Option Kind). elim o as (λ _. Option (ℕ × Kind)) [ Some k ↦ Some (length (ended_lines x) + 1, k) | None ↦ None ]) e in
    let small = size_kind-none (size_of (ended_lines x)) 1 (length (begun_line x)) (both_none _ _ e).0 in
    let few : size_of (ended_lines (x ++ 10 ∷ [])) ≤ 1073741824 = omega (arith, small.1, ap size_of (ended-lf x), size_of-append (ended_lines x) (begun_line x ∷ [])) in
    let fits : size_kind (size_of (ended_lines (x ++ 10 ∷ []))) 0 (length (begun_line (x ++ 10 ∷ []))) ≡ None =
    ap (λ (l : Line). size_kind (size_of (ended_lines (x ++ 10 ∷ []))) 0 (length l)) (begun-lf x) ∙ size_kind-zero (size_of (ended_lines (x ++ 10 ∷ []))) few in
    early-none (x ++ 10 ∷ []) none fits

lf_large : (start len : ℕ) (kind : Kind) → size_kind start 0 len ≡ None → size_kind start 1 len ≡ Some kind → (start + len ≡ 1073741824) × (kind ≡ TextLarge)
unfolding size_kind
lf_large start len kind h k = grind (arith, nat_tests)

line_refused : (x : List ℕ) (line : ℕ) (kind : Kind) → 0 < length (begun_line x) → early x ≡ None → line ≡ length (ended_lines x) + 1 → line_kind (ended_lines x) 1 (begun_line x) ≡ Some kind → (fault x ≡ Some (line, kind)) ⊎ IsFull x kind
line_refused x line kind some sound at h = by_size (size_kind (size_of (ended_lines x)) 1 (length (begun_line x))) refl
  where
    less : size_kind (size_of (ended_lines x)) 0 (length (begun_line x)) ≡ None
    less = size-sound x sound

    by_size : (o : Option Kind) → size_kind (size_of (ended_lines x)) 1 (length (begun_line x)) ≡ o → (fault x ≡ Some (line, kind)) ⊎ IsFull x kind
    by_size None e =
        let form : form_kind (ended_lines x) (begun_line x) ≡ Some kind = sym (ap (λ o. option_or o (form_kind (ended_lines x) (begun_line x))) e) ∙ h in
        let begun : begun_kind (ended_lines x) (begun_line x) ≡ Some kind =
        one_kind (ended_lines x) (begun_line x) some ∙ ap (λ o. option_or o (form_kind (ended_lines x) (begun_line x))) less ∙ form in
        inl (fault-last x kind sound begun ∙ ap (λ n. Some (n, kind)) (sym at))
    by_size (Some other) e =
        let large = lf_large (size_of (ended_lines x)) (length (begun_line x)) other less e in
        let same : other ≡ kind = some_same other kind (sym (ap (λ o. option_or o (form_kind (ended_lines x) (begun_line x))) e) ∙ h) in
        inr (sym (size_of-ended x) ∙ large.0, sym same ∙ large.1)

-- the LF of the last line is refused
pub lf_refused : (x : List ℕ) (f : Fault) → 0 < length (begun_line x) → early x ≡ None → IsFaultOf (early (x ++ 10 ∷ [])) f → IsEndRefusal x f
lf_refused x Memory some sound h = tt
lf_refused x (Trace line kind) some sound h = by_line (line_kind (ended_lines x) 1 (begun_line x)) refl
  where
    by_line : (o : Option Kind) → line_kind (ended_lines x) 1 (begun_line x) ≡ o → (fault x ≡ Some (line, kind)) ⊎ IsFull x kind
    by_line None e = absurd (let bad : None ≡ Some (line, kind) = sym (lf_sound x sound e) ∙ h in cc)
    by_line (Some other) e =
        let at = early-ended (x ++ 10 ∷ []) (length (ended_lines x) + 1, other) (last_line x sound ∙ one_fault (ended_lines x) (begun_line x) other e) in
        let same = some_same (line, kind) (length (ended_lines x) + 1, other) (sym h ∙ at) in
        line_refused x line kind some sound (ap (λ p. p.0) same) (e ∙ ap (λ k. Some k) (sym (ap (λ p. p.1) same)))
lf_refused x Read some sound h = absurd h
lf_refused x Write some sound h = absurd h
lf_refused x Start some sound h = absurd h
lf_refused x (Double i) some sound h = absurd h
lf_refused x (UnknownPiece i) some sound h = absurd h
lf_refused x (Missing i) some sound h = absurd h

-- ---- the end

pub close_refused : (x : List ℕ) (f : Fault) → IsFaultOf (fault x) f → IsCloseRefusal x f
close_refused x Memory h = tt
close_refused x (Trace line kind) h = h
close_refused x _ h = absurd h

pub end_refused : (x y : List ℕ) (f : Fault) → fault y ≡ fault x → IsCloseRefusal y f → IsEndRefusal x f
end_refused x y Memory e h = tt
end_refused x y (Trace line kind) e h = inl (sym e ∙ h)
end_refused x y Write e h = sym e ∙ h
end_refused x y _ e h = absurd h

sums_of : (x : List ℕ) (r : Report) → IsReportOf x r → r.summary ≡ trace_summary x
sums_of x r h = ap (λ (s : Report). s.summary) h.report ∙ ap (λ o. elim o as (λ _. Summary) [ None ↦ no_summary | Some i ↦ (report_of i (items_of i (rows x))).summary ]) (sym h.header)

no_last : (x : List ℕ) → begun_line x ≡ [] → lines_of x ≡ ended_lines x
no_last x h = ap (λ b. ended_lines x ++ line_or_none b) h ∙ append-nil (ended_lines x)

-- the print of the lines that ended is that of all
pub all_lines : (F : List Line → List ℕ → Type 0) (x bytes : List ℕ) → begun_line x ≡ [] → F (ended_lines x) bytes → F (lines_of x) bytes
all_lines F x bytes none h = subst (λ ls. F ls bytes) (sym (no_last x none)) h

-- what comes after what a sink has
behind : (before taken after : Option (List ℕ)) (sent more : List ℕ) → taken ≡ with_more before sent → after ≡ with_more taken more → after ≡ with_more before (sent ++ more)
behind before taken after sent more t a = a ∙ ap (λ o. with_more o more) t ∙ with_more-append before sent more

-- the lines that were held, and what comes after them
pub all_closed : (F : List Line → List ℕ → Type 0) (C : List Line → Report → List ℕ → Type 0) (x : List ℕ) (before taken after : Option (List ℕ)) (held : List ℕ) (r : Report) (result : Result Summary Fault) → begun_line x ≡ [] → HasPrinted F before taken held (ended_lines x) → IsReportOf x r
    → OnOk result (HasTaken (C (lines_of x) r) (with_more taken held) after) → IfOk result (λ sums. sums ≡ r.summary) → IfOk result (IsPrinted F C x before after)
all_closed F C x before taken after held r (Err f) none h reported closing same = tt
all_closed F C x before taken after held r (Ok sums) none h reported closing same = record {
  report = r;
  reported = reported;
  lines = h.sent ++ held;
  closing = closing.bytes;
  print = all_lines F x (h.sent ++ held) none h.lines;
  closed = closing.formed;
  taken = behind before (with_more taken held) after (h.sent ++ held) closing.bytes (behind before taken (with_more taken held) h.sent held h.taken_is refl) closing.taken;
  counted = same ∙ sums_of x r reported;
}

-- a first part of them
pub first_closed : (F : List Line → List ℕ → Type 0) (C : List Line → Report → List ℕ → Type 0) (x : List ℕ) (before taken after : Option (List ℕ)) (held : List ℕ) (r : Report) → begun_line x ≡ [] → HasPrinted F before taken held (ended_lines x) → IsReportOf x r → StopsClosing (C (lines_of x) r) held taken after
    → HasFirstPrintOf F C x before after
first_closed F C x before taken after held r none h reported (inl p) = record {
  lines = h.sent ++ held;
  front = h.sent ++ p.front;
  print = all_lines F x (h.sent ++ held) none h.lines;
  taken = behind before taken after h.sent p.front h.taken_is p.taken;
  part = inl (p.left, ap (λ xs. h.sent ++ xs) p.whole ∙ sym (append_assoc h.sent p.front p.left));
}
first_closed F C x before taken after held r none h reported (inr p) = record {
  lines = h.sent ++ held;
  front = (h.sent ++ held) ++ p.front;
  print = all_lines F x (h.sent ++ held) none h.lines;
  taken = behind before (with_more taken held) after (h.sent ++ held) p.front (behind before taken (with_more taken held) h.sent held h.taken_is refl) p.taken;
  part = inr (record {
    report = r;
    reported = reported;
    closing = p.bytes;
    left = p.left;
    closed = p.formed;
    whole = ap (λ xs. (h.sent ++ held) ++ xs) p.whole ∙ sym (append_assoc (h.sent ++ held) p.front p.left);
  });
}

-- ---- of the text without the LF

same_report : (x : List ℕ) (r : Report) → 0 < length (begun_line x) → fault (x ++ 10 ∷ []) ≡ fault x → IsReportOf (x ++ 10 ∷ []) r → IsReportOf x r
same_report x r some e h =
    let y = x ++ 10 ∷ [] in
    let sound : fault x ≡ None = sym e ∙ h.sound in
    let header : head x ≡ head y = head-sound x sound ∙ ap head_of (sym (same_lines x some)) ∙ sym (head-sound y h.sound) in
    let rs : rows x ≡ rows y = rows-all x sound ∙ ap rows_in (sym (same_lines x some)) ∙ sym (rows-all y h.sound) in
    record { sound = sound; interface = h.interface; header = header ∙ h.header; report = h.report ∙ ap (λ rows. report_of h.interface (items_of h.interface rows)) (sym rs) }

same_printed : (F : List Line → List ℕ → Type 0) (C : List Line → Report → List ℕ → Type 0) (x : List ℕ) (before after : Option (List ℕ)) (sums : Summary) → 0 < length (begun_line x) → fault (x ++ 10 ∷ []) ≡ fault x → IsPrinted F C (x ++ 10 ∷ []) before after sums → IsPrinted F C x before after sums
same_printed F C x before after sums some e p =
    let reported = same_report x p.report some e p.reported in
    record {
      report = p.report;
      reported = reported;
      lines = p.lines;
      closing = p.closing;
      print = subst (λ ls. F ls p.lines) (same_lines x some) p.print;
      closed = subst (λ ls. C ls p.report p.closing) (same_lines x some) p.closed;
      taken = p.taken;
      counted = p.counted ∙ sym (sums_of (x ++ 10 ∷ []) p.report p.reported) ∙ sums_of x p.report reported;
    }

pub same_first : (F : List Line → List ℕ → Type 0) (C : List Line → Report → List ℕ → Type 0) (x : List ℕ) (before after : Option (List ℕ)) → 0 < length (begun_line x) → fault (x ++ 10 ∷ []) ≡ fault x → HasFirstPrintOf F C (x ++ 10 ∷ []) before after → HasFirstPrintOf F C x before after
same_first F C x before after some e p = record { lines = p.lines; front = p.front; print = subst (λ ls. F ls p.lines) (same_lines x some) p.print; taken = p.taken; part = same_part p.part }
  where
    same_part : IsFirstOfLines p.lines p.front ⊎ IsFirstOfClosing C (x ++ 10 ∷ []) p.lines p.front → IsFirstOfLines p.lines p.front ⊎ IsFirstOfClosing C x p.lines p.front
    same_part (inl q) = inl q
    same_part (inr q) = inr (record { report = q.report; reported = same_report x q.report some e q.reported; closing = q.closing; left = q.left; closed = subst (λ ls. C ls q.report q.closing) (same_lines x some) q.closed; whole = q.whole })

-- ---- steps of the end

pub some_bytes : (n m : ℕ) → (n == 0) ≡ false → n ≡ m → 0 < m
some_bytes n m h e = grind (arith, nat_tests)

pub if_ok : {T E : Type 0} (r : Result T E) (P Q : T → Type 0) → IfOk r P → ((x : T) → P x → Q x) → IfOk r Q
if_ok (Ok x) P Q h k = k x h
if_ok (Err e) P Q h k = tt

pub ended_printed : (F : List Line → List ℕ → Type 0) (C : List Line → Report → List ℕ → Type 0) (x : List ℕ) (before after : Option (List ℕ)) (r : Result Summary Fault) → 0 < length (begun_line x) → early x ≡ None → early (x ++ 10 ∷ []) ≡ None → IfOk r (IsPrinted F C (x ++ 10 ∷ []) before after) → IfOk r (IsPrinted F C x before after)
ended_printed F C x before after r some h k a =
    if_ok r (IsPrinted F C (x ++ 10 ∷ []) before after) (IsPrinted F C x before after) a (λ sums b. same_printed F C x before after sums some (same_fault x some h k) b)

pub ended_refused : (x : List ℕ) (r : Result Summary Fault) → 0 < length (begun_line x) → early x ≡ None → early (x ++ 10 ∷ []) ≡ None → IfErr r (IsCloseRefusal (x ++ 10 ∷ [])) → IfErr r (IsEndRefusal x)
ended_refused x r some h k a = on_err r (IsCloseRefusal (x ++ 10 ∷ [])) (IsEndRefusal x) a (λ f b. end_refused x (x ++ 10 ∷ []) f (same_fault x some h k) b)

pub whole_refused : (x : List ℕ) (r : Result Summary Fault) → IfErr r (IsCloseRefusal x) → IfErr r (IsEndRefusal x)
whole_refused x r a = on_err r (IsCloseRefusal x) (IsEndRefusal x) a (λ f b. end_refused x x f refl b)

none_left : (n : ℕ) (b : List ℕ) → (n == 0) ≡ true → n ≡ length b → b ≡ []
none_left n [] h e = refl
none_left n (c ∷ b) h e = absurd (omega (arith, eqb-true n 0 h, e))

pub none_begun : (n : ℕ) (b x : List ℕ) → (n == 0) ≡ true → n ≡ length b → b ≡ begun_line x → begun_line x ≡ []
none_begun n b x h e k = sym k ∙ none_left n b h e
