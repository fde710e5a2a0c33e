-- The sums of calls, row by row, and the table of them.
use Rattle.std.proofs.Common.{◌≡◌, ◌∙◌, sym, ap, subst, refl, ℕ, ◌+◌, ◌-◌, ◌^◌, ◌≤◌, ◌<◌, Bool, true, false, cond, eqb, List, [], ◌∷◌, ◌++◌, map, length, Option, Some, None, Result, Ok, Err, OnOk, OnErr, arith, append-nil, append_assoc, length-append}
use Rattle.std.specs.List.{filter, sum}
use Rattle.std.specs.Option.{option_to_list}
use Rattle.std.proofs.lemmas.Bool.{eqb-true}
use Rattle.std.proofs.lemmas.List.{map-append}
use Rattle.std.proofs.lemmas.List.Elements.{filter-append}
use Rattle.call_accounts.proofs.CountedLemmas.{sum-more}
use Rattle.line_model.specs.basics.Records.{CallRecord, Item, Report}
use Rattle.line_model.specs.declared.finding.Finding.{Finding}
use Rattle.line_model.specs.declared.interface.Interface.{Interface}
use Rattle.line_model.specs.packets.Says.{items_of}
use Rattle.line_model.specs.text.Text.{Line, head_of, lines_of, rows_in}
use Rattle.trace_text.proofs.EndLemmas.{head-sound}
use Rattle.trace_text.specs.ObserverAnswers.{IsReportOf}
use Rattle.annotated_trace.specs.Printed.{HasTaken, HasTakenFirst}
use Rattle.annotated_trace.specs.Rows.{row_written}
use Rattle.descriptions.specs.CallSums.{AreSums, HasAdded, KeepsSums, findings_at, rows_of_call, segments_at, sum_at, sum_over, with_earlier}
use Rattle.descriptions.specs.Circuits.{KeepsHosts, kept_host, named_host}
use Rattle.descriptions.specs.CallTable.{Hosting, IsCallTable, IsTableOf, IsTableOfRows}
use Rattle.descriptions.specs.Follows.{KeepsOrigins}
use Rattle.descriptions.specs.RowCalls.{call_of}
use Rattle.descriptions.specs.RowObjects.{OfRows}
use Rattle.descriptions.specs.declared.call_columns.TableForm.{TableForm}
use Rattle.descriptions.specs.declared.call_sums.CallSums.{CallSums}
use Rattle.descriptions.specs.declared.call_table.CallTable.{CallTable}
use Rattle.descriptions.proofs.ChoiceLemmas.{head_is, rows_begun, rows_same}

-- ---- a row

pub found_count : (fs gs : List Finding) (o : Option Finding) → gs ≡ fs ++ option_to_list o → length (option_to_list o) ≡ length gs - length fs
found_count fs gs o h = omega (arith, ap (λ l. length l) h, length-append fs (option_to_list o))

pub one_found : (o : Option Finding) → length (option_to_list o) ≤ 1
one_found None = omega arith
one_found (Some f) = omega arith

-- ---- one more row

with_more_row : (earlier rs : List Item) (r : Item) → with_earlier earlier (rs ++ r ∷ []) ≡ with_earlier earlier rs ++ (earlier ++ rs, r) ∷ []
with_more_row earlier [] r = ap (λ l. (l, r) ∷ []) (sym (append-nil earlier))
with_more_row earlier (x ∷ rs) r =
    ap (λ ps. (earlier, x) ∷ ps) (with_more_row (earlier ++ x ∷ []) rs r ∙ ap (λ l. with_earlier (earlier ++ x ∷ []) rs ++ (l, r) ∷ []) (append_assoc earlier (x ∷ []) rs))

one_sum : (amount : List Item × Item → ℕ) (p : List Item × Item) (b : Bool) → sum (map amount (cond b (p ∷ []) [])) ≡ cond b (amount p) 0
one_sum amount p true = omega arith
one_sum amount p false = refl

over_more : (i : Interface) (amount : List Item × Item → ℕ) (rs : List Item) (r : Item) (n : ℕ) → sum_over i amount (rs ++ r ∷ []) n ≡ sum_over i amount rs n + cond (eqb (call_of i rs r) n) (amount (rs, r)) 0
over_more i amount rs r n =
    let test : List Item × Item → Bool = λ (p : List Item × Item). eqb (call_of i p.0 p.1) n in
    let own : List (List Item × Item) = filter test ((rs, r) ∷ []) in
    ap (λ ps. sum (map amount (filter test ps))) (with_more_row [] rs r) ∙ ap (λ ps. sum (map amount ps)) (filter-append test (with_earlier [] rs) ((rs, r) ∷ []))
    ∙ ap sum (map-append amount (rows_of_call i rs n) own) ∙ sum-more (map amount (rows_of_call i rs n)) (map amount own) ∙ ap (λ m. sum_over i amount rs n + m) (one_sum amount (rs, r) (eqb (call_of i rs r) n))

no_sums : {A : Type 0} (i : Interface) (amount : List Item × Item → ℕ) (s : CallSums A) → ((n : ℕ) → sum_at s n ≡ 0) → AreSums i amount [] s
no_sums i amount s none = record { each = none; few = λ n. omega arith }

pub table_begun : {A K : Type 0} (t : CallTable A K) → ((i : Interface) → KeepsOrigins i [] t.past.origins) → ((n : ℕ) → sum_at t.findings n ≡ 0) → ((n : ℕ) → sum_at t.segments_t n ≡ 0) → OfRows [] (λ i rs. KeepsSums i rs t)
table_begun t origins findings segments = rows_begun (λ i rs. KeepsSums i rs t) (λ i. record { origins = origins i; findings = no_sums i (findings_at i) t.findings findings; segments = no_sums i (segments_at i) t.segments_t segments })

-- a line that writes no row
pub table_same : {A K : Type 0} (before : List Line) (l : Line) (old new : CallTable A K) → new.past.origins ≡ old.past.origins → new.findings ≡ old.findings → new.segments_t ≡ old.segments_t → OfRows before (λ i rs. KeepsSums i rs old) → row_written before l ≡ None
    → OfRows (before ++ l ∷ []) (λ i rs. KeepsSums i rs new)
table_same before l old new origins findings segments kept none = rows_same (λ i rs. KeepsSums i rs new) before l (λ i head. same i (items_of i (rows_in before)) (kept i head)) none
  where
    same : (i : Interface) (rs : List Item) → KeepsSums i rs old → KeepsSums i rs new
    same i rs k = record { origins = subst (KeepsOrigins i rs) (sym origins) k.origins; findings = subst (AreSums i (findings_at i) rs) (sym findings) k.findings; segments = subst (AreSums i (segments_at i) rs) (sym segments) k.segments }

-- a sum has room for one more amount
pub has_room : {A : Type 0} (i : Interface) (amount : List Item × Item → ℕ) (rs : List Item) (s : CallSums A) (call x : ℕ) → AreSums i amount rs s → length rs < 2 ^ 32 → x ≤ 2 ^ 26 → sum_at s call + x < 2 ^ 64
has_room i amount rs s call x h rows small = omega (arith, h.each call, h.few call, rows, small)

pub added : {A : Type 0} (i : Interface) (amount : List Item × Item → ℕ) (rs : List Item) (r : Item) (before after : CallSums A) (call x : ℕ) → AreSums i amount rs before → call ≡ call_of i rs r → x ≡ amount (rs, r) → x ≤ 2 ^ 26 → HasAdded before after call x
    → AreSums i amount (rs ++ r ∷ []) after
added {A} i amount rs r before after call x h of is small put = record {
  each = λ n. put n ∙ by n (eqb call n) refl ∙ sym (over_more i amount rs r n);
  few = λ n. omega (arith, over_more i amount rs r n, h.few n, length-append rs (r ∷ []), small, is, at_most (eqb (call_of i rs r) n) (amount (rs, r)));
}
  where
    at_most : (b : Bool) (m : ℕ) → cond b m 0 ≤ m
    at_most true m = omega arith
    at_most false m = omega arith

    own : (n : ℕ) → sum_over i amount rs n + cond (eqb (call_of i rs r) n) (amount (rs, r)) 0 ≡ sum_over i amount rs n + cond (eqb call n) x 0
    own n = λ t. sum_over i amount rs n + cond (eqb (sym of t) n) (sym is t) 0

    by : (n : ℕ) (b : Bool) → eqb call n ≡ b → cond (eqb call n) (sum_at before call + x) (sum_at before n) ≡ sum_over i amount rs n + cond (eqb (call_of i rs r) n) (amount (rs, r)) 0
    by n true e = ap (λ b. cond b (sum_at before call + x) (sum_at before n)) e ∙ ap (λ m. m + x) (ap (sum_at before) (eqb-true call n e) ∙ h.each n) ∙ sym (own n ∙ ap (λ b. sum_over i amount rs n + cond b x 0) e)
    by n false e = ap (λ b. cond b (sum_at before call + x) (sum_at before n)) e ∙ omega (arith, h.each n, own n ∙ ap (λ b. sum_over i amount rs n + cond b x 0) e)

-- ---- the table

pub table_of : {A K : Type 0} (form : TableForm) (text : List ℕ) (t : CallTable A K) (report : Report) (calls : List CallRecord) (bytes : List ℕ) → OfRows (lines_of text) (λ i rs. KeepsSums i rs t) → KeepsHosts (lines_of text) t.past.circuits → IsReportOf text report
    → IsCallTable form (sum_at t.findings) (sum_at t.segments_t) (kept_host t.past.circuits) calls bytes → IsTableOf form (lines_of text) calls bytes
table_of form text t report calls bytes kept hosts reported table =
    let head : head_of (lines_of text) ≡ Some reported.interface = sym (head-sound text reported.sound) ∙ reported.header in
    let sums = kept reported.interface (head_is (head_of (lines_of text)) reported.interface head) in
    subst (λ o. IsTableOfRows form o (rows_in (lines_of text)) (named_host (lines_of text)) calls bytes) (sym head) (subst (λ (F : (ℕ → ℕ) × (ℕ → ℕ) × Hosting). IsCallTable form F.0 F.1 F.2 calls bytes) (λ j. (λ n. sums.findings.each n j, λ n. sums.segments.each n j, λ n side. hosts n side j)) table)

pub all_taken : {T E : Type 0} (r : Result T E) (P Q : List ℕ → Type 0) (before after : Option (List ℕ)) → ((bytes : List ℕ) → P bytes → Q bytes) → OnOk r (HasTaken P before after) → OnOk r (HasTaken Q before after)
all_taken (Ok x) P Q before after to h = record { bytes = h.bytes; taken = h.taken; formed = to h.bytes h.formed }
all_taken (Err x) P Q before after to h = tt

pub first_taken : {T E : Type 0} (r : Result T E) (P Q : List ℕ → Type 0) (before after : Option (List ℕ)) → ((bytes : List ℕ) → P bytes → Q bytes) → OnErr r (HasTakenFirst P before after) → OnErr r (HasTakenFirst Q before after)
first_taken (Ok x) P Q before after to h = tt
first_taken (Err x) P Q before after to h = record { bytes = h.bytes; front = h.front; left = h.left; whole = h.whole; taken = h.taken; formed = to h.bytes h.formed }
