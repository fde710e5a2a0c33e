-- A trace that is fed: its first row begins the observer.
use Rattle.std.proofs.Common.{◌≡◌, ◌∙◌, sym, ap, subst, refl, ℕ, Bool, true, false, List, [], ◌∷◌, ◌++◌, Option, Some, None, Result, Ok, Err, OnOk, append_assoc, append-nil}
use Rattle.std.specs.Prelude.{IfErr, IfSome}
use Rattle.std.specs.Result.{result_err}
use Rattle.line_model.specs.declared.interface.Interface.{Interface}
use Rattle.line_model.specs.channels.Gaps.{GapChannel}
use Rattle.line_model.specs.basics.Records.{ReadRow, Row}
use Rattle.line_model.specs.observer.Report.{report_of}
use Rattle.line_model.specs.declared.fault.Fault.{Fault}
use Rattle.line_model.specs.declared.fault.Fault.TheVariants.{Memory}
use Rattle.line_model.specs.declared.finding.Finding.{Finding}
use Rattle.line_model.specs.text.Text.{early_rows}
use Rattle.trace_text.specs.Progress.{Progress}
use Rattle.trace_text.specs.Represents.{Represents as IsReaderOf, ReadsChunk, TakesRow}
use Rattle.trace_text.proofs.Grows.{early_head_stays}
use Rattle.trace_text.proofs.RefusalLemmas.{head_represents}
use Rattle.live_report.specs.declared.live.Live.{Live}
use Rattle.live_report.specs.declared.observer.Observer.{Observer}
use Rattle.live_report.specs.Observing.{AreItems, Represents as IsObserverOf}
use Rattle.live_report.specs.Lives.{IsAtFirst, IsLastRow, IsObserved, IsObserving, Represents}
use Rattle.live_report.specs.Found.{HasFound, IsFoundBy, IsFoundUpTo, found, found_at}
use Rattle.live_report.proofs.FoundLemmas.{found_next, found_none, found_under, found_up_to, nothing_found}
use Rattle.live_report.proofs.ChunkLemmas.{ReadsRow, early_trace, next_items, next_rows, observed_row, taken_is_last}
use Rattle.live_report.proofs.LastLemmas.{same_last}
use Rattle.line_model.proofs.Saying.{read_says}
use Rattle.line_model.specs.packets.Says.{item_of, item_read, items_of, read_row}

-- what holds of a result, and something more
pub on_both : {T E : Type 0} (r : Result T E) (P Q : Type 0) → OnOk r P → OnOk r Q → OnOk r (P × Q)
on_both (Ok x) P Q p q = (p, q)
on_both (Err e) P Q p q = tt

pub on_under : {T E : Type 0} (r : Result T E) (Q P : Type 0) → (Q → OnOk r P) → OnOk r (Q → P)
on_under (Ok x) Q P h = h
on_under (Err e) Q P h = tt

-- a result without a fault, and the fault of one
pub ok_by : {T : Type 0} → (r : Result T Fault) (P : Type 0) → OnOk r P → result_err r ≡ None → P
ok_by (Ok x) P h none = h
ok_by (Err f) P h none = absurd (let bad : Some f ≡ None = none in cc)

pub on_sound : {T : Type 0} → (r : Result T Fault) (o : Option Fault) (P Q : Type 0) → o ≡ result_err r → OnOk r P → (P → o ≡ None → Q) → OnOk r Q
on_sound (Ok x) o P Q e h to = to h e
on_sound (Err f) o P Q e h to = tt

pub fault_of : {T : Type 0} → (r : Result T Fault) (P : Fault → Type 0) → IfErr r P → IfSome (result_err r) P
fault_of (Ok x) P h = tt
fault_of (Err f) P h = h

pub observing_of : {A C : Type 0} → (I : C → Interface) (N : C → ℕ) (S : C → GapChannel → Type 0) (live : Live A C) (text : List ℕ) (o : Observer A C) → Represents I N S live text → live.observer ≡ Some o
    → (i : Interface) × IsObserving I N S i text live.lines o
observing_of I N S live text o s h =
    let seen : IsObserved I N S text live.lines.interface (Some o) = subst (IsObserved I N S text live.lines.interface) h s.observed in
    (seen.0, record { reads = s.reads; header = seen.1; observes = seen.2 })

pub keeps_rows : {A C : Type 0} → (I : C → Interface) (N : C → ℕ) (S : C → GapChannel → Type 0) (live : Live A C) (text : List ℕ) (o : Observer A C) → Represents I N S live text → live.keeps_rows ≡ true → live.observer ≡ Some o → o.keeps_rows ≡ true
keeps_rows I N S live text o s keeps h = subst (λ x. IfSome x (λ z. z.keeps_rows ≡ live.keeps_rows)) h s.keeps ∙ keeps

pub nothing_seen : {A C : Type 0} → (I : C → Interface) (N : C → ℕ) (S : C → GapChannel → Type 0) (live : Live A C) (text : List ℕ) → Represents I N S live text → live.observer ≡ None → early_rows text ≡ []
nothing_seen I N S live text s h = subst (IsObserved I N S text live.lines.interface) h s.observed

pub represents_observing : {A C : Type 0} → (I : C → Interface) (N : C → ℕ) (S : C → GapChannel → Type 0) (i : Interface) (live : Live A C) (text : List ℕ) (o : Observer A C) → IsObserving I N S i text live.lines o → live.observer ≡ Some o → live.refused ≡ None → o.keeps_rows ≡ live.keeps_rows → (live.keeps_rows ≡ true → IsLastRow (early_rows text) live.rows.last) → Represents I N S live text
represents_observing I N S i live text o w h running keeps last = record {
  reads = w.reads;
  running = running;
  observed = subst (IsObserved I N S text live.lines.interface) (sym h) (i, w.header, w.observes);
  keeps = subst (λ x. IfSome x (λ z. z.keeps_rows ≡ live.keeps_rows)) (sym h) keeps;
  last = last;
}

-- ---- the first row

-- it may come
pub first_rows : (i : Interface) (reader after : Progress) (text chunk rest : List ℕ) (row : ReadRow) → IsReaderOf reader text → early_rows text ≡ [] → ReadsRow reader after chunk rest row → Some i ≡ after.interface → AreItems i ([] ++ item_read i row ∷ [])
first_rows i reader after text chunk rest row s none t h = subst (λ rows. AreItems i (items_of i rows ++ item_read i row ∷ [])) none (next_rows i reader after text chunk rest row s t (sym h))

-- it was read, and no observer has it yet
pub at_first : {A C : Type 0} → (I : C → Interface) (N : C → ℕ) (S : C → GapChannel → Type 0) (i : Interface) (text chunk rest : List ℕ) (row : ReadRow) (reader after : Progress) (o : Observer A C)
    → IsReaderOf reader text → early_rows text ≡ [] → (t : ReadsRow reader after chunk rest row) → Some i ≡ after.interface → IsObserverOf I N S i [] o → IsAtFirst I N S i (text ++ t.1.taken) after row o
at_first I N S i text chunk rest row reader after o s none t h bare = record {
  reads = t.1.represented text s;
  header = sym h;
  first = (t.0, t.1.rows text s ∙ ap (λ rows. rows ++ t.0 ∷ []) none, t.2);
  bare = bare;
}

-- what it says
first_item : (i : Interface) (text : List ℕ) (row : ReadRow) → (taken : Row) × (early_rows text ≡ taken ∷ []) × (row ≡ read_row taken) → items_of i (early_rows text) ≡ item_read i row ∷ []
first_item i text row first = ap (items_of i) first.1 ∙ ap (λ r. r ∷ []) (sym (read_says i first.0) ∙ ap (item_read i) (sym first.2))

pub first_items : {A C : Type 0} → (I : C → Interface) (N : C → ℕ) (S : C → GapChannel → Type 0) (i : Interface) (text : List ℕ) (reader : Progress) (row : ReadRow) (o : Observer A C) → IsAtFirst I N S i text reader row o → AreItems i (item_read i row ∷ [])
first_items I N S i text reader row o f = subst (AreItems i) (first_item i text row f.first) (early_trace i text f.reads.sound (sym (head_represents reader text f.reads) ∙ f.header))

-- the observer has read it
pub first_observed : {A C : Type 0} → (I : C → Interface) (N : C → ℕ) (S : C → GapChannel → Type 0) (i : Interface) (text : List ℕ) (reader : Progress) (row : ReadRow) (o next : Observer A C) → IsAtFirst I N S i text reader row o → IsObserverOf I N S i (item_read i row ∷ []) next
    → IsObserving I N S i text reader next
first_observed I N S i text reader row o next f took = record {
  reads = f.reads;
  header = f.header;
  observes = subst (λ items. IsObserverOf I N S i items next) (sym (first_item i text row f.first)) took;
}

-- what it found
pub first_found : {A C : Type 0} → (I : C → Interface) (N : C → ℕ) (S : C → GapChannel → Type 0) (i : Interface) (text : List ℕ) (reader : Progress) (row : ReadRow) (o : Observer A C) (out out_after more : List Finding) → IsAtFirst I N S i text reader row o
    → out_after ≡ out ++ more → (report_of i (item_read i row ∷ [])).findings ≡ more → HasFound out out_after [] (found_at i text)
first_found I N S i text reader row o out out_after more f has finds = record {
  more = more;
  out_has = has;
  known_has = ap (λ items. (report_of i items).findings) (first_item i text row f.first) ∙ finds;
}

pub found_then : {T : Type 0} → (r : Result T Fault) (a b c k l m : List Finding) → HasFound a b k l → IsFoundBy r b c l m → IsFoundBy r a c k m
found_then (Ok x) a b c k l m first then = found_next a b c k l m first then
found_then (Err f) a b c k l m first then = found_up_to f a b c k l m first then

-- memory ran out before anything was found
pub nothing_more : (out out_after all : List Finding) → out_after ≡ out → IsFoundUpTo Memory out out_after [] all
nothing_more out out_after all e = record { more = []; rest = all; out_has = e ∙ sym (append-nil out); known_has = refl }

-- it is the last one
pub first_last : {A C : Type 0} → (I : C → Interface) (N : C → ℕ) (S : C → GapChannel → Type 0) (i : Interface) (text : List ℕ) (reader : Progress) (row : ReadRow) (o : Observer A C) → IsAtFirst I N S i text reader row o → IsLastRow (early_rows text) row
first_last I N S i text reader row o f before r is = f.first.2 ∙ ap read_row (same_last [] before f.first.0 r (sym f.first.1 ∙ is)).1

-- what holds of a result by what held of it before
pub ok_then : {T E : Type 0} → (r : Result T E) (P Q : Type 0) → (P → Q) → OnOk r P → OnOk r Q
ok_then (Ok x) P Q f h = f h
ok_then (Err e) P Q f h = tt

pub ok_of_three : {T E : Type 0} → (r : Result T E) (P Q R W : Type 0) → OnOk r P → OnOk r Q → OnOk r R → (P → Q → R → W) → OnOk r W
ok_of_three (Ok x) P Q R W p q s f = f p q s
ok_of_three (Err e) P Q R W p q s f = tt

-- the text with the chunk
pub chunk_text : (reader after : Progress) (text chunk rest : List ℕ) (row : ReadRow) → (t : ReadsRow reader after chunk rest row) → (text ++ t.1.taken) ++ rest ≡ text ++ chunk
chunk_text reader after text chunk rest row t = append_assoc text t.1.taken rest ∙ ap (λ x. text ++ x) (sym t.1.whole)

-- ---- what was found

-- under the header that was read
pub found_headed : (reader : Progress) (text more : List ℕ) (i : Interface) → IsReaderOf reader text → reader.interface ≡ Some i → (found text ≡ found_at i text) × (found (text ++ more) ≡ found_at i (text ++ more))
found_headed reader text more i s h =
    let head = sym (head_represents reader text s) ∙ h in
    (found_under i text head, found_under i (text ++ more) (early_head_stays text more i s.sound head))

pub found_as : {T : Type 0} → (r : Result T Fault) (a b k l m n : List Finding) → l ≡ k → n ≡ m → IsFoundBy r a b k m → IsFoundBy r a b l n
found_as r a b k l m n e f h = subst (λ x. IsFoundBy r a b x n) (sym e) (subst (λ x. IsFoundBy r a b k x) (sym f) h)

-- no row came
pub found_no_row : (reader after : Progress) (text chunk : List ℕ) (out : List Finding) → IsReaderOf reader text → early_rows text ≡ [] → ReadsChunk reader after chunk → HasFound out out (found text) (found (text ++ chunk))
found_no_row reader after text chunk out s none t =
    subst (λ x. HasFound out out (found text) x) (nothing_found text none ∙ sym (nothing_found (text ++ chunk) (t.rows text s ∙ none))) (found_none out (found text))

-- ---- a packet whose line is not read

-- the row whose line the reader went past may come next
pub passed_rows : (i : Interface) (reader after : Progress) (text line : List ℕ) (row : Row) → IsReaderOf reader text → TakesRow reader after line [] row → after.interface ≡ Some i → AreItems i (items_of i (early_rows text) ++ item_of i row ∷ [])
passed_rows i reader after text line row s t h =
    subst (λ r. AreItems i (items_of i (early_rows text) ++ r ∷ [])) (read_says i row) (next_rows i reader after text line [] (read_row row) s (row, t, refl) h)

-- the reader went past the line of a row, and the observer read it
pub passed_row : {A C : Type 0} → (I : C → Interface) (N : C → ℕ) (S : C → GapChannel → Type 0) (i : Interface) (text line : List ℕ) (row : Row) (reader after : Progress) (o next : Observer A C) (out out_after more : List Finding)
    → (w : IsObserving I N S i text reader o) → TakesRow reader after line [] row → after.interface ≡ reader.interface → IsObserverOf I N S i (items_of i (early_rows text) ++ item_of i row ∷ []) next
    → out_after ≡ out ++ more → (report_of i (items_of i (early_rows text) ++ item_of i row ∷ [])).findings ≡ found_at i text ++ more
    → IsObserving I N S i (text ++ line) after next × HasFound out out_after (found_at i text) (found_at i (text ++ line)) × IsLastRow (early_rows (text ++ line)) (read_row row)
passed_row I N S i text line row reader after o next out out_after more w takes kept took has finds =
    let t : ReadsRow reader after line [] (read_row row) = (row, takes, refl) in
    let says = sym (read_says i row) in
    let all : text ++ t.1.taken ≡ text ++ line = ap (λ x. text ++ x) (sym (t.1.whole ∙ append-nil t.1.taken)) in (
      subst (λ x. IsObserving I N S i x after next) all
          (observed_row I N S i text line [] (read_row row) reader after next w.reads t (kept ∙ w.header) (subst (λ r. IsObserverOf I N S i (items_of i (early_rows text) ++ r ∷ []) next) says took)),
      subst (λ x. HasFound out out_after (found_at i text) (found_at i x)) all (record {
        more = more;
        out_has = has;
        known_has = ap (λ items. (report_of i items).findings) (next_items i reader after text line [] (read_row row) w.reads t) ∙ subst (λ r. (report_of i (items_of i (early_rows text) ++ r ∷ [])).findings ≡ found_at i text ++ more) says finds;
      }),
      subst (λ x. IsLastRow (early_rows x) (read_row row)) all (taken_is_last reader after text line [] (read_row row) w.reads t),
    )

-- it was fed a trace text with the line, or still that text
pub fed_on : (r : Result Bool Fault) (o : Option Fault) (P : List ℕ → Type 0) (text line : List ℕ) → o ≡ result_err r → (r ≡ Ok true → P (text ++ line)) → (r ≡ Ok false → P text) → o ≡ None → (fed : List ℕ) × P fed
fed_on (Ok true) o P text line e taken passed none = (text ++ line, taken refl)
fed_on (Ok false) o P text line e taken passed none = (text, passed refl)
fed_on (Err f) o P text line e taken passed none = absurd (let bad : Some f ≡ None = sym e ∙ none in cc)

-- whether a packet was read
pub not_true : ◌≡◌ {A = Result Bool Fault} (Ok false) (Ok true) → ⊥
not_true is = cc

pub not_false : ◌≡◌ {A = Result Bool Fault} (Ok true) (Ok false) → ⊥
not_false is = cc
