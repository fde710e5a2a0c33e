-- A chunk that is read row by row, and an observer that reads the rows.
use Rattle.std.proofs.Common.{arith, true, ◌≡◌, ◌∙◌, ◌≤◌, ◌^◌, All, map, sum_by, length, sym, ap, subst, refl, ℕ, List, [], ◌∷◌, ◌++◌, Some, None, append-nil, append_assoc}
use Rattle.std.proofs.lemmas.List.Elements.{All-map}
use Rattle.line_model.specs.declared.fault.Fault.{Fault}
use Rattle.line_model.specs.declared.fault.Fault.TheVariants.{Memory}
use Rattle.line_model.specs.declared.finding.Finding.{Finding}
use Rattle.line_model.specs.observer.Report.{report_of}
use Rattle.line_model.specs.declared.interface.Interface.{Interface}
use Rattle.line_model.specs.channels.Gaps.{GapChannel}
use Rattle.line_model.specs.basics.Records.{Item, Row, ReadRow}
use Rattle.line_model.specs.text.Text.{early, early_head, early_rows}
use Rattle.trace_text.specs.Progress.{Progress}
use Rattle.trace_text.specs.Represents.{AreKnown, Represents as IsReaderOf, TakesRow, ReadsChunk}
use Rattle.trace_text.proofs.Grows.{early_head_stays}
use Rattle.trace_text.proofs.RefusalLemmas.{head_represents, known-here}
use Rattle.trace_text.proofs.RowsOfText.{early_numbers, early_octets, early_rises}
use Rattle.live_report.specs.declared.observer.Observer.{Observer}
use Rattle.live_report.specs.Observing.{AreItems, Represents as IsObserverOf}
use Rattle.live_report.specs.Found.{HasFound, IsFoundUpTo, found_at}
use Rattle.live_report.specs.Lives.{IsLastRow, IsObserving}
use Rattle.live_report.proofs.LastLemmas.{same_last}
use Rattle.live_report.proofs.FoundLemmas.{found_next, found_none, found_refused}
use Rattle.line_model.specs.packets.Says.{item_of, item_read, items_of, read_row}
use Rattle.line_model.specs.basics.Bounds.{AreRows}
use Rattle.line_model.proofs.TextLemmas.{early_rows-nothing}
use Rattle.line_model.proofs.TextRows.{first_rows_law}
use Rattle.line_model.proofs.Saying.{all_said, items_more, read_says, said_lengths, said_numbers}
use Rattle.std.specs.List.Sorted.{IsStrictlyIncreasing}

-- what rows say as a trace has them
pub items_sound : (i : Interface) (rs : List Row) → AreRows i rs → IsStrictlyIncreasing (0 ∷ map (λ r. r.number) rs) → All (λ r. r.number ≤ 999999999) rs → sum_by (λ r. length r.octets) rs ≤ 2 ^ 31 → AreItems i (items_of i rs)
items_sound i rs lawful rising numbers octets = record {
  said = all_said i rs lawful;
  rising = subst (λ ns. IsStrictlyIncreasing (0 ∷ ns)) (sym (said_numbers i rs)) rising;
  numbers = All-map (λ (r : Item). r.number ≤ 999999999) (item_of i) rs numbers;
  octets = subst (λ n. n ≤ 2 ^ 31) (sym (said_lengths i rs)) octets;
}

-- what the rows say of a trace text that has no fault so far
pub early_trace : (i : Interface) (text : List ℕ) → early text ≡ None → early_head text ≡ Some i → AreItems i (items_of i (early_rows text))
early_trace i text sound head = items_sound i (early_rows text) (first_rows_law text i head) (early_rises text sound) (early_numbers text sound) (early_octets text sound)

-- a row was removed from the front of a chunk, and this one was put of it
abbrev pub ReadsRow : (before after : Progress) (chunk rest : List ℕ) → ReadRow → Type 0
ReadsRow before after chunk rest row = (taken : Row) × TakesRow before after chunk rest taken × (row ≡ read_row taken)

-- what is known of the header stays
pub header_stays : (reader after : Progress) (text more : List ℕ) (i : Interface) → IsReaderOf reader text → reader.interface ≡ Some i → after.interface ≡ early_head (text ++ more) → after.interface ≡ Some i
header_stays reader after text more i s h kept = kept ∙ early_head_stays text more i s.sound (sym (head_represents reader text s) ∙ h)

-- ---- the last row

-- the row that was read is the last one
pub taken_is_last : (reader after : Progress) (text chunk rest : List ℕ) (row : ReadRow) → IsReaderOf reader text → (t : ReadsRow reader after chunk rest row) → IsLastRow (early_rows (text ++ t.1.taken)) row
taken_is_last reader after text chunk rest row s t before r is = t.2 ∙ ap read_row (same_last (early_rows text) before t.0 r (sym (t.1.rows text s) ∙ is)).1

-- nothing was read
pub none_last : (row : ReadRow) → IsLastRow (early_rows []) row
none_last row before r is = absurd (no_last before r (sym early_rows-nothing ∙ is))
  where
    no_last : (before : List Row) (r : Row) → [] ≡ before ++ r ∷ [] → ⊥
    no_last [] r h = cc
    no_last (b ∷ before) r h = cc

-- no row came after it
pub still_last : (reader after : Progress) (text chunk : List ℕ) (row : ReadRow) → IsReaderOf reader text → ReadsChunk reader after chunk → IsLastRow (early_rows text) row → IsLastRow (early_rows (text ++ chunk)) row
still_last reader after text chunk row s t last = subst (λ rows. IsLastRow rows row) (sym (t.rows text s)) last

-- ---- the course of a chunk

-- some of a chunk was read, the observer read its rows, what they found was appended, and the last one of them is kept
pub record Course {A C : Type 0} (I : C → Interface) (N : C → ℕ) (S : C → GapChannel → Type 0) (i : Interface) (text chunk : List ℕ) (reader : Progress) (o : Observer A C) (rest : List ℕ) (out out_after : List Finding) (row row_after : ReadRow) : Type 0 where
  pub read : List ℕ
  pub whole : chunk ≡ read ++ rest
  pub observing : IsObserving I N S i (text ++ read) reader o
  pub found : HasFound out out_after (found_at i text) (found_at i (text ++ read))
  pub last : o.keeps_rows ≡ true → IsLastRow (early_rows text) row → IsLastRow (early_rows (text ++ read)) row_after

pub course_begun : {A C : Type 0} → (I : C → Interface) (N : C → ℕ) (S : C → GapChannel → Type 0) (i : Interface) (text chunk : List ℕ) (reader : Progress) (o : Observer A C) (out : List Finding) (row : ReadRow) → IsObserving I N S i text reader o → Course I N S i text chunk reader o chunk out out row row
course_begun I N S i text chunk reader o out row w = record {
  read = [];
  whole = refl;
  observing = subst (λ x. IsObserving I N S i x reader o) (sym (append-nil text)) w;
  found = subst (λ x. HasFound out out (found_at i text) (found_at i x)) (sym (append-nil text)) (found_none out (found_at i text));
  last = λ keeps. subst (λ x. IsLastRow (early_rows x) row) (sym (append-nil text));
}

-- what a row says that was read comes after what the rows before it say
pub next_items : (i : Interface) (reader after : Progress) (text chunk rest : List ℕ) (row : ReadRow) → IsReaderOf reader text → (t : ReadsRow reader after chunk rest row)
    → items_of i (early_rows (text ++ t.1.taken)) ≡ items_of i (early_rows text) ++ item_read i row ∷ []
next_items i reader after text chunk rest row s t =
    let is = t.1.rows text s in
    ap (items_of i) is ∙ items_more i (early_rows text) (t.0 ∷ []) ∙ ap (λ r. items_of i (early_rows text) ++ r ∷ []) (sym (read_says i t.0) ∙ ap (item_read i) (sym t.2))

-- the row that was read may come next
pub next_rows : (i : Interface) (reader after : Progress) (text chunk rest : List ℕ) (row : ReadRow) → IsReaderOf reader text → ReadsRow reader after chunk rest row → after.interface ≡ Some i → AreItems i (items_of i (early_rows text) ++ item_read i row ∷ [])
next_rows i reader after text chunk rest row s t h =
    let represented = t.1.represented text s in
    subst (AreItems i) (next_items i reader after text chunk rest row s t) (early_trace i (text ++ t.1.taken) represented.sound (sym (head_represents after (text ++ t.1.taken) represented) ∙ h))

pub observed_row : {A C : Type 0} → (I : C → Interface) (N : C → ℕ) (S : C → GapChannel → Type 0) (i : Interface) (text chunk rest : List ℕ) (row : ReadRow) (reader after : Progress) (o : Observer A C)
    → IsReaderOf reader text → (t : ReadsRow reader after chunk rest row) → after.interface ≡ Some i → IsObserverOf I N S i (items_of i (early_rows text) ++ item_read i row ∷ []) o → IsObserving I N S i (text ++ t.1.taken) after o
observed_row I N S i text chunk rest row reader after o s t h took = record {
  reads = t.1.represented text s;
  header = h;
  observes = subst (λ items. IsObserverOf I N S i items o) (sym (next_items i reader after text chunk rest row s t)) took;
}

pub course_row : {A C : Type 0} → (I : C → Interface) (N : C → ℕ) (S : C → GapChannel → Type 0) (i : Interface) (text chunk rest left : List ℕ) (first last row : ReadRow) (reader after : Progress) (o next : Observer A C) (out out_now out_after more : List Finding)
    → (c : Course I N S i text chunk reader o rest out out_now first last) → ReadsRow reader after rest left row → after.interface ≡ early_head ((text ++ c.read) ++ rest) → IsObserverOf I N S i (items_of i (early_rows (text ++ c.read)) ++ item_read i row ∷ []) next
    → out_after ≡ out_now ++ more → (report_of i (items_of i (early_rows (text ++ c.read)) ++ item_read i row ∷ [])).findings ≡ found_at i (text ++ c.read) ++ more → Course I N S i text chunk after next left out out_after first row
course_row I N S i text chunk rest left first last row reader after o next out out_now out_after more c t kept took has finds =
    let w = c.observing in
    let here : found_at i ((text ++ c.read) ++ t.1.taken) ≡ found_at i (text ++ c.read) ++ more = ap (λ items. (report_of i items).findings) (next_items i reader after (text ++ c.read) rest left row w.reads t) ∙ finds in
    record {
      read = c.read ++ t.1.taken;
      whole = c.whole ∙ ap (λ x. c.read ++ x) t.1.whole ∙ sym (append_assoc c.read t.1.taken left);
      observing = subst (λ x. IsObserving I N S i x after next) (append_assoc text c.read t.1.taken)
          (observed_row I N S i (text ++ c.read) rest left row reader after next w.reads t (header_stays reader after (text ++ c.read) rest i w.reads w.header kept) took);
      found = subst (λ x. HasFound out out_after (found_at i text) (found_at i x)) (append_assoc text c.read t.1.taken)
          (found_next out out_now out_after (found_at i text) (found_at i (text ++ c.read)) (found_at i ((text ++ c.read) ++ t.1.taken)) c.found (record { more = more; out_has = has; known_has = here }));
      last = λ keeps h. subst (λ x. IsLastRow (early_rows x) row) (append_assoc text c.read t.1.taken) (taken_is_last reader after (text ++ c.read) rest left row w.reads t);
    }

-- the last row was put where it stays
pub course_kept : {A C : Type 0} {I : C → Interface} {N : C → ℕ} {S : C → GapChannel → Type 0} {i : Interface} {text chunk : List ℕ} {reader : Progress} {o : Observer A C} {rest : List ℕ} {out out_after : List Finding} {row row_after kept : ReadRow}
    → Course I N S i text chunk reader o rest out out_after row row_after → (o.keeps_rows ≡ true → kept ≡ row_after) → Course I N S i text chunk reader o rest out out_after row kept
course_kept {text = text} c e = record { read = c.read; whole = c.whole; observing = c.observing; found = c.found; last = λ keeps h. subst (IsLastRow (early_rows (text ++ c.read))) (sym (e keeps)) (c.last keeps h) }

-- the whole text with the chunk
pub course_text : {A C : Type 0} → (I : C → Interface) (N : C → ℕ) (S : C → GapChannel → Type 0) (i : Interface) (text chunk rest : List ℕ) (reader : Progress) (o : Observer A C) (out out_after : List Finding) (row row_after : ReadRow) (c : Course I N S i text chunk reader o rest out out_after row row_after) → (text ++ c.read) ++ rest ≡ text ++ chunk
course_text I N S i text chunk rest reader o out out_after row row_after c = append_assoc text c.read rest ∙ ap (λ x. text ++ x) (sym c.whole)

pub course_end : {A C : Type 0} → (I : C → Interface) (N : C → ℕ) (S : C → GapChannel → Type 0) (i : Interface) (text chunk rest : List ℕ) (reader after : Progress) (o : Observer A C) (out out_after : List Finding) (row row_after : ReadRow)
    → (c : Course I N S i text chunk reader o rest out out_after row row_after) → ReadsChunk reader after rest → after.interface ≡ early_head ((text ++ c.read) ++ rest) → IsObserving I N S i (text ++ chunk) after o
course_end I N S i text chunk rest reader after o out out_after row row_after c t kept =
    let w = c.observing in
    let all = course_text I N S i text chunk rest reader o out out_after row row_after c in
    record {
      reads = subst (IsReaderOf after) all (t.represented (text ++ c.read) w.reads);
      header = header_stays reader after (text ++ c.read) rest i w.reads w.header kept;
      observes = subst (λ x. IsObserverOf I N S i (items_of i (early_rows x)) o) all (subst (λ rows. IsObserverOf I N S i (items_of i rows) o) (sym (t.rows (text ++ c.read) w.reads)) w.observes);
    }

no_bytes : (bytes : List ℕ) → length bytes ≡ 0 → bytes ≡ []
no_bytes [] none = refl
no_bytes (b ∷ bytes) none = absurd (omega (arith, none))

-- the chunk was read to its end
pub course_done : {A C : Type 0} → (I : C → Interface) (N : C → ℕ) (S : C → GapChannel → Type 0) (i : Interface) (text chunk rest : List ℕ) (reader : Progress) (o : Observer A C) (out out_after : List Finding) (row row_after : ReadRow)
    → Course I N S i text chunk reader o rest out out_after row row_after → length rest ≡ 0 → IsObserving I N S i (text ++ chunk) reader o × HasFound out out_after (found_at i text) (found_at i (text ++ chunk)) × (o.keeps_rows ≡ true → IsLastRow (early_rows text) row → IsLastRow (early_rows (text ++ chunk)) row_after)
course_done I N S i text chunk rest reader o out out_after row row_after c none =
    let all : text ++ c.read ≡ text ++ chunk = ap (λ x. text ++ x) (sym (c.whole ∙ ap (λ x. c.read ++ x) (no_bytes rest none) ∙ append-nil c.read)) in (
      subst (λ x. IsObserving I N S i x reader o) all c.observing,
      subst (λ x. HasFound out out_after (found_at i text) (found_at i x)) all c.found,
      λ keeps h. subst (λ x. IsLastRow (early_rows x) row_after) all (c.last keeps h),
    )

-- the rest of the chunk has no further row
pub course_found : {A C : Type 0} → (I : C → Interface) (N : C → ℕ) (S : C → GapChannel → Type 0) (i : Interface) (text chunk rest : List ℕ) (reader after : Progress) (o : Observer A C) (out out_after : List Finding) (row row_after : ReadRow)
    → (c : Course I N S i text chunk reader o rest out out_after row row_after) → ReadsChunk reader after rest → HasFound out out_after (found_at i text) (found_at i (text ++ chunk))
course_found I N S i text chunk rest reader after o out out_after row row_after c t =
    subst (λ x. HasFound out out_after (found_at i text) (found_at i x)) (course_text I N S i text chunk rest reader o out out_after row row_after c)
    (subst (λ x. HasFound out out_after (found_at i text) x) (ap (λ rows. (report_of i (items_of i rows)).findings) (sym (t.rows (text ++ c.read) c.observing.reads))) c.found)

pub course_last : {A C : Type 0} → (I : C → Interface) (N : C → ℕ) (S : C → GapChannel → Type 0) (i : Interface) (text chunk rest : List ℕ) (reader after : Progress) (o : Observer A C) (out out_after : List Finding) (row row_after : ReadRow)
    → Course I N S i text chunk reader o rest out out_after row row_after → ReadsChunk reader after rest → o.keeps_rows ≡ true → IsLastRow (early_rows text) row → IsLastRow (early_rows (text ++ chunk)) row_after
course_last I N S i text chunk rest reader after o out out_after row row_after c t keeps h =
    subst (λ x. IsLastRow (early_rows x) row_after) (course_text I N S i text chunk rest reader o out out_after row row_after c)
    (still_last reader after (text ++ c.read) rest row_after c.observing.reads t (c.last keeps h))

-- the rest of the chunk is refused
pub course_refused : {A C : Type 0} → (I : C → Interface) (N : C → ℕ) (S : C → GapChannel → Type 0) (i : Interface) (text chunk rest : List ℕ) (reader : Progress) (o : Observer A C) (out out_after : List Finding) (row row_after : ReadRow) (f : Fault)
    → (c : Course I N S i text chunk reader o rest out out_after row row_after) → AreKnown (early_rows (text ++ c.read)) (early_rows ((text ++ c.read) ++ rest)) f → IsFoundUpTo f out out_after (found_at i text) (found_at i (text ++ chunk))
course_refused I N S i text chunk rest reader o out out_after row row_after f c k =
    subst (λ x. IsFoundUpTo f out out_after (found_at i text) (found_at i x)) (course_text I N S i text chunk rest reader o out out_after row row_after c)
    (found_refused f i (text ++ c.read) ((text ++ c.read) ++ rest) out out_after (found_at i text) c.found k)

-- memory ran out
pub course_stopped : {A C : Type 0} → (I : C → Interface) (N : C → ℕ) (S : C → GapChannel → Type 0) (i : Interface) (text chunk rest : List ℕ) (reader : Progress) (o : Observer A C) (out out_after : List Finding) (row row_after : ReadRow)
    → (c : Course I N S i text chunk reader o rest out out_after row row_after) → IsFoundUpTo Memory out out_after (found_at i text) (found_at i (text ++ chunk))
course_stopped I N S i text chunk rest reader o out out_after row row_after c =
    course_refused I N S i text chunk rest reader o out out_after row row_after Memory c (known-here reader (text ++ c.read) rest Memory c.observing.reads tt tt)
