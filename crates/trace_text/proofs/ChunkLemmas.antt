-- What a reader of lines represents as it reads a chunk.
use Rattle.std.proofs.Common.{◌≡◌, ◌∙◌, sym, ap, refl, subst, ◌+◌, ◌++◌, [], ◌∷◌, length, ℕ, arith, List, Option, Some, None, Err, append_assoc, append-nil, true, false, length-append}
use Rattle.std.specs.Prelude.{is_some}
use Rattle.line_model.specs.text.Text.{early, early_head, early_rows, size_kind}
use Rattle.line_model.specs.declared.fault.Fault.{Fault}
use Rattle.line_model.specs.declared.fault.Fault.TheVariants.{Memory}
use Rattle.line_model.specs.declared.interface.Interface.{Interface}
use Rattle.line_model.specs.basics.Records.{Row}
use Rattle.line_model.proofs.TextLemmas.{HasNoLf}
use Rattle.trace_text.specs.Progress.{Progress, bytes_fed}
use Rattle.trace_text.specs.Represents.{Represents, AreKnown, HasAppended, IsAppended, IsAtLine, IsFaultOf, IsHeadKept, ReadsChunk, TakesRow}
use Rattle.trace_text.specs.Steps.{with_more, EndsLine}
use Rattle.trace_text.proofs.FeedLemmas.{begun-represented, line-passes, line-row, line-size, line-represented, rows-begun}
use Rattle.trace_text.proofs.Grows.{early_head_stays}
use Rattle.trace_text.proofs.RefusalLemmas.{head_alike, head_represents, head_stopped, known-here, refused-appended}

-- after the bytes `fed` of the chunk, of which `rest` is left, the reader represents the text with them, and their rows came to a list
pub record Fed (before after : Progress) (rows more : List Row) (chunk rest : List ℕ) : Type 0 where
  pub fed : List ℕ
  pub whole : chunk ≡ fed ++ rest
  pub represented : (text : List ℕ) → Represents before text → Represents after (text ++ fed)
  pub appended : (text : List ℕ) → Represents before text → HasAppended rows more (early_rows text) (early_rows (text ++ fed))
  pub size : bytes_fed after ≡ bytes_fed before + length fed

-- the same, whatever rows they have
pub record Taken (before after : Progress) (chunk rest : List ℕ) : Type 0 where
  pub fed : List ℕ
  pub whole : chunk ≡ fed ++ rest
  pub represented : (text : List ℕ) → Represents before text → Represents after (text ++ fed)
  pub size : bytes_fed after ≡ bytes_fed before + length fed

-- the same, where no line that ended wrote a row
pub record Passed (before after : Progress) (chunk rest : List ℕ) : Type 0 where
  pub fed : List ℕ
  pub whole : chunk ≡ fed ++ rest
  pub represented : (text : List ℕ) → Represents before text → Represents after (text ++ fed)
  pub rows : (text : List ℕ) → Represents before text → early_rows (text ++ fed) ≡ early_rows text
  pub size : bytes_fed after ≡ bytes_fed before + length fed

-- the chunk is what was fed and what is left
pub whole_chunk : (text fed rest chunk : List ℕ) → chunk ≡ fed ++ rest → (text ++ fed) ++ rest ≡ text ++ chunk
whole_chunk text fed rest chunk e = append_assoc text fed rest ∙ ap (λ xs. text ++ xs) (sym e)

pub whole_chunk_lf : (text fed rest front back chunk : List ℕ) → chunk ≡ fed ++ rest → rest ≡ front ++ 10 ∷ back → (text ++ fed) ++ front ++ 10 ∷ back ≡ text ++ chunk
whole_chunk_lf text fed rest front back chunk e h = append_assoc (text ++ fed) front (10 ∷ back) ∙ ap (λ xs. (text ++ fed) ++ xs) (sym h) ∙ whole_chunk text fed rest chunk e

-- the lines of a chunk up to its first row
pub passed-none : (v : Progress) (chunk : List ℕ) → Passed v v chunk chunk
passed-none v chunk = record {
  fed = [];
  whole = refl;
  represented = λ text s. rw append-nil s;
  rows = λ text s. ap early_rows (append-nil text);
  size = omega arith;
}

pub passed-more : (before after next : Progress) (row : Row) (chunk rest front back : List ℕ) → Passed before after chunk rest → rest ≡ front ++ 10 ∷ back → HasNoLf front → EndsLine (with_more after front) next row false → Passed before next chunk back
passed-more before after next row chunk rest front back p e h line = record {
  fed = p.fed ++ front ++ 10 ∷ [];
  whole = p.whole ∙ ap (λ xs. p.fed ++ xs) e ∙ sym (append_assoc p.fed front (10 ∷ back)) ∙ sym (append_assoc (p.fed ++ front) (10 ∷ []) back);
  represented = λ text s. rw (← append_assoc text (p.fed ++ front) (10 ∷ []), ← append_assoc text p.fed front) (line-represented after next front row false line h (text ++ p.fed) (p.represented text s));
  rows = λ text s. rw (← append_assoc text (p.fed ++ front) (10 ∷ []), ← append_assoc text p.fed front) (line-passes after next front row line h (text ++ p.fed) (p.represented text s) ∙ p.rows text s);
  size = omega (arith, p.size, line-size after next front row false line, length-append (p.fed ++ front) (10 ∷ []), length-append p.fed front);
}

pub takes-row : (before after next : Progress) (row : Row) (chunk rest front back : List ℕ) → Passed before after chunk rest → rest ≡ front ++ 10 ∷ back → HasNoLf front → EndsLine (with_more after front) next row true → TakesRow before next chunk back row
takes-row before after next row chunk rest front back p e h line = record {
  taken = p.fed ++ front ++ 10 ∷ [];
  whole = p.whole ∙ ap (λ xs. p.fed ++ xs) e ∙ sym (append_assoc p.fed front (10 ∷ back)) ∙ sym (append_assoc (p.fed ++ front) (10 ∷ []) back);
  represented = λ text s. rw (← append_assoc text (p.fed ++ front) (10 ∷ []), ← append_assoc text p.fed front) (line-represented after next front row true line h (text ++ p.fed) (p.represented text s));
  rows = λ text s. rw (← append_assoc text (p.fed ++ front) (10 ∷ []), ← append_assoc text p.fed front) (line-row after next front row line h (text ++ p.fed) (p.represented text s) ∙ ap (λ xs. xs ++ row ∷ []) (p.rows text s));
}

-- the rest of a chunk, without an LF
pub reads-chunk : (before after u : Progress) (chunk rest : List ℕ) → Passed before after chunk rest → HasNoLf rest → u ≡ with_more after rest → size_kind after.start 0 (length after.begun + length rest) ≡ None → ReadsChunk before u chunk
reads-chunk before after u chunk rest p h e k =
    let represented = λ (text : List ℕ) (s : Represents before text). begun-represented after u (text ++ p.fed) rest e (p.represented text s) h k in
    record {
      represented = λ text s. rw (whole_chunk text p.fed rest chunk p.whole) at (represented text s);
      rows = λ text s. rw (whole_chunk text p.fed rest chunk p.whole) at (rows-begun u after (text ++ p.fed) rest (p.represented text s) (represented text s) h ∙ p.rows text s);
    }

-- the rows of a chunk
appended-on : (out out' out'' known known' known'' : List Row) → HasAppended out out' known known' → HasAppended out' out'' known' known'' → HasAppended out out'' known known''
appended-on out out' out'' known known' known'' a b = record {
  more = a.more ++ b.more;
  out_has = b.out_has ∙ ap (λ l. l ++ b.more) a.out_has ∙ append_assoc out a.more b.more;
  known_has = b.known_has ∙ ap (λ l. l ++ b.more) a.known_has ∙ append_assoc known a.more b.more;
}

pub fed-none : (v : Progress) (rows : List Row) (chunk : List ℕ) → Fed v v rows rows chunk chunk
fed-none v rows chunk = record {
  fed = [];
  whole = refl;
  represented = λ text s. rw append-nil s;
  appended = λ text s. record { more = []; out_has = sym (append-nil rows); known_has = ap early_rows (append-nil text) ∙ sym (append-nil (early_rows text)) };
  size = omega arith;
}

pub fed-more : (before after next : Progress) (rows more most : List Row) (row : Row) (chunk rest back : List ℕ) → Fed before after rows more chunk rest → TakesRow after next rest back row → bytes_fed next + length back ≡ bytes_fed after + length rest → most ≡ more ++ row ∷ [] → Fed before next rows most chunk back
fed-more before after next rows more most row chunk rest back f t size grown = record {
  fed = f.fed ++ t.taken;
  whole = f.whole ∙ ap (λ xs. f.fed ++ xs) t.whole ∙ sym (append_assoc f.fed t.taken back);
  represented = λ text s. rw (← append_assoc text f.fed t.taken) (t.represented (text ++ f.fed) (f.represented text s));
  appended = λ text s. rw (← append_assoc text f.fed t.taken)
      (appended-on rows more most (early_rows text) (early_rows (text ++ f.fed)) (early_rows ((text ++ f.fed) ++ t.taken)) (f.appended text s)
      (record { more = row ∷ []; out_has = grown; known_has = t.rows (text ++ f.fed) (f.represented text s) }));
  size = omega (arith, f.size, size, ap (λ (xs : List ℕ). length xs) t.whole, length-append t.taken back, length-append f.fed t.taken);
}

-- the last row was read from a chunk
pub all-fed : (before after next : Progress) (rows more : List Row) (chunk rest : List ℕ) → Fed before after rows more chunk rest → ReadsChunk after next rest → (text : List ℕ) → Represents before text → HasAppended rows more (early_rows text) (early_rows (text ++ chunk))
all-fed before after next rows more chunk rest f r text s =
    rw (whole_chunk text f.fed rest chunk f.whole)
    at (appended-on rows more more (early_rows text) (early_rows (text ++ f.fed)) (early_rows ((text ++ f.fed) ++ rest)) (f.appended text s)
    (record { more = []; out_has = sym (append-nil more); known_has = r.rows (text ++ f.fed) (f.represented text s) ∙ sym (append-nil (early_rows (text ++ f.fed))) }))

-- a row stands after the header
taken_head : (o : Option Interface) (given more : List ℕ) → early given ≡ None → early_head given ≡ o → is_some o ≡ true → o ≡ early_head (given ++ more)
taken_head (Some i) given more h e k = sym (early_head_stays given more i h e)
taken_head None given more h e k = cc

pub row-head : (before next : Progress) (chunk rest : List ℕ) (row : Row) → TakesRow before next chunk rest row → is_some next.interface ≡ true → (text : List ℕ) → Represents before text → next.interface ≡ early_head (text ++ chunk)
row-head before next chunk rest row t k text s =
    let after = t.represented text s in
    rw (whole_chunk text t.taken rest chunk t.whole) at (taken_head next.interface (text ++ t.taken) rest after.sound (sym (head_represents next (text ++ t.taken) after)) k)

-- a refusal after some lines
pub known-so-far : (before after : Progress) (chunk rest : List ℕ) (f : Fault) (p : Passed before after chunk rest) (text : List ℕ) → Represents before text → IsAtLine (after.ended + 1) f → IsFaultOf (early ((text ++ p.fed) ++ rest)) f →
    AreKnown (early_rows text) (early_rows (text ++ chunk)) f
known-so-far before after chunk rest f p text s l h =
    subst (λ (xs : List ℕ). AreKnown (early_rows text) (early_rows xs) f) (whole_chunk text p.fed rest chunk p.whole)
    (subst (λ (known : List Row). AreKnown known (early_rows ((text ++ p.fed) ++ rest)) f) (p.rows text s) (known-here after (text ++ p.fed) rest f (p.represented text s) l h))

abbrev pub passed-taken : {before after : Progress} {chunk rest : List ℕ} → Passed before after chunk rest → Taken before after chunk rest
passed-taken p = record { fed = p.fed; whole = p.whole; represented = p.represented; size = p.size }

pub head-so-far : (T : Type 0) (before after : Progress) (chunk rest : List ℕ) (f : Fault) (kept : Option Interface) (p : Taken before after chunk rest) (text : List ℕ) → Represents before text → IsAtLine (after.ended + 1) f → IsFaultOf (early ((text ++ p.fed) ++ rest)) f →
    kept ≡ after.interface → IsHeadKept {T = T} (Err f) kept (early_head (text ++ chunk))
head-so-far T before after chunk rest f kept p text s l h e =
    subst (λ (xs : List ℕ). IsHeadKept {T = T} (Err f) kept (early_head xs)) (whole_chunk text p.fed rest chunk p.whole)
    (head_stopped T after (text ++ p.fed) rest f kept (p.represented text s) l h e)

-- a refusal after some rows
pub fed-refused : (T : Type 0) (before after : Progress) (rows more : List Row) (chunk rest : List ℕ) (f : Fault) (fed : Fed before after rows more chunk rest) (text : List ℕ) → Represents before text →
    AreKnown (early_rows (text ++ fed.fed)) (early_rows ((text ++ fed.fed) ++ rest)) f → IsAppended {T = T} (Err f) rows more (early_rows text) (early_rows (text ++ chunk))
fed-refused T before after rows more chunk rest f fed text s k =
    subst (λ (xs : List ℕ). IsAppended {T = T} (Err f) rows more (early_rows text) (early_rows xs)) (whole_chunk text fed.fed rest chunk fed.whole)
    (refused-appended T f rows more (early_rows text) (early_rows (text ++ fed.fed)) (early_rows ((text ++ fed.fed) ++ rest)) (fed.appended text s) k)

pub fed-no-memory : (T : Type 0) (before after : Progress) (rows more : List Row) (chunk rest : List ℕ) (fed : Fed before after rows more chunk rest) (text : List ℕ) → Represents before text →
    IsAppended {T = T} (Err Memory) rows more (early_rows text) (early_rows (text ++ chunk))
fed-no-memory T before after rows more chunk rest fed text s =
    fed-refused T before after rows more chunk rest Memory fed text s (known-here after (text ++ fed.fed) rest Memory (fed.represented text s) tt tt)

pub fed-head : (T U : Type 0) (before after : Progress) (rows more : List Row) (chunk rest : List ℕ) (f : Fault) (kept : Option Interface) (fed : Fed before after rows more chunk rest) (text : List ℕ) → Represents before text →
    IsHeadKept {T = U} (Err f) kept (early_head ((text ++ fed.fed) ++ rest)) → IsHeadKept {T = T} (Err f) kept (early_head (text ++ chunk))
fed-head T U before after rows more chunk rest f kept fed text s k =
    subst (λ (xs : List ℕ). IsHeadKept {T = T} (Err f) kept (early_head xs)) (whole_chunk text fed.fed rest chunk fed.whole) (head_alike T U f kept _ k)
