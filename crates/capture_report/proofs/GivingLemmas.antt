-- The text of a trace, given part by part.
use Rattle.std.proofs.Common.{◌≡◌, ◌∙◌, sym, ap, ℕ, ◌+◌, ◌-◌, ◌<◌, ◌≤◌, ◌⊎◌, inl, inr, List, [], ◌∷◌, ◌++◌, Option, None, Some, append_assoc, append-nil, arith, drop, length, min, refl, subst, take, true, false}
use Rattle.std.specs.Option.{option_to_list}
use Rattle.std.specs.Io.KnownBytes.{Consumes}
use Rattle.std.proofs.Math.Seq.{take-append_seam}
use Rattle.std.proofs.lemmas.Bool.{cases_lt}
use Rattle.std.proofs.lemmas.List.{drop-drop, drop_all, length-drop, length-take, take-append-drop}
use Rattle.line_model.specs.basics.Device.{Gives}
use Rattle.capture_report.specs.Contents.{Row}
use Rattle.capture_report.specs.Records.{Follows, Record}
use Rattle.capture_report.specs.Texts.{Page, rows_printed, with_rows}
use Rattle.capture_report.specs.Traces.{bytes_left, cleared, GoesOn, IsFilled, IsFilling, IsMade, IsReady, page_of, rows_next, rows_of, rows_text, text_left}
use Rattle.capture_report.specs.declared.reader.Reader.{Reader}
use Rattle.capture_report.specs.declared.reader.Reader.TheVariants.{Circuits, Line}
use Rattle.capture_report.proofs.TextLemmas.{printed_on}

-- the rows that come next are on the page, and those of the rest go on behind them
goes_on : (old new : Reader) (records rest : List Record) (next : List Row) → page_of new ≡ with_rows (page_of old) next → rows_of old records ≡ next ++ rows_of new rest → GoesOn old new records rest
goes_on old new records rest next page rows = record {
  same =
      ap (λ rs. (page_of old).text ++ rows_printed (page_of old).printer rs) rows
      ∙ (printed_on (page_of old) next (rows_of new rest)
      ∙ ap (λ (p : Page). p.text ++ rows_printed p.printer (rows_of new rest)) (sym page));
}

-- what came next was read
pub read_made : (before after : Option (List Record)) (latest : Option Record) (old new : Reader) (next : Record) → Follows before after latest → latest ≡ Some next → page_of new ≡ with_rows (page_of old) (rows_next next old)
    → ((rest : List Record) → rows_of old (next ∷ rest) ≡ rows_next next old ++ rows_of new rest) → IsMade before after old new true
read_made before after latest old new next follows is page rows = λ records e.
    let f = follows.shown records e in (
      f.0,
      f.1,
      subst (λ rs. GoesOn old new rs f.0) (sym (f.2 ∙ ap (λ o. option_to_list o ++ f.0) is)) (goes_on old new (next ∷ f.0) f.0 (rows_next next old) page (rows f.0)),
    )

-- what comes at the end was read
pub end_made : (before after : Option (List Record)) (latest : Option Record) (old new : Reader) → Follows before after latest → latest ≡ None → page_of new ≡ with_rows (page_of old) (rows_of old []) → rows_of new [] ≡ [] → IsMade before after old new false
end_made before after latest old new follows is page rows = λ records e.
    let f = follows.shown records e in
    let none : records ≡ [] = follows.end records e is in
    let same : records ≡ f.0 = f.2 ∙ ap (λ o. option_to_list o ++ f.0) is in
    let behind : rows_of old [] ≡ rows_of old [] ++ rows_of new [] = sym (ap (λ rs. rows_of old [] ++ rs) rows ∙ append-nil (rows_of old [])) in (
      f.1 ∙ ap Some (sym same ∙ none),
      record {
        none = none;
        goes_on = subst (λ rs. GoesOn old new rs []) (sym none) (goes_on old new [] [] (rows_of old []) page behind);
        no_text = ap (rows_printed (page_of new).printer) rows;
      },
    )

pub filled_none : (left : Option (List Record)) (r : Reader) → IsFilling left left r r
filled_none left r = λ records e. (records, e, record { same = refl })

pub filled_more : (before middle after : Option (List Record)) (old r new : Reader) → IsFilling before middle old r → IsMade middle after r new true → IsFilling before after old new
filled_more before middle after old r new s m = λ records e.
    let a = s records e in
    let b = m a.0 a.1 in
    (b.0, b.1, record { same = a.2.same ∙ b.2.same })

-- the capture ended
pub filled_end : (before middle after : Option (List Record)) (old r new : Reader) → IsFilling before middle old r → IsMade middle after r new false → IsFilled before after old new
filled_end before middle after old r new s m = λ records e.
    let a = s records e in
    let b = m a.0 a.1 in (
      [],
      b.0,
      record {
        goes_on = record { same = a.2.same ∙ b.1.goes_on.same };
        some = λ t. record { none = refl; no_text = b.1.no_text };
      },
    )

-- there is some text
pub filled_some : (before after : Option (List Record)) (old r : Reader) → IsFilling before after old r → 0 < length (page_of r).text → IsFilled before after old r
filled_some before after old r s low = λ records e.
    let a = s records e in
    (a.0, a.1, record { goes_on = a.2; some = λ t. absurd (omega (arith, t, low)) })

-- some text was not given yet
pub ready_kept : (records : Option (List Record)) (r : Reader) (to : ℕ) → to < length (page_of r).text → IsReady (text_left records r to) records r to
ready_kept None r to low = λ text e. cc e
ready_kept (Some rest) r to low = λ text e.
    let same : text ≡ drop to (page_of r).text ++ rows_text r rest = cc e in
    (rest, refl, record { same = same; some = λ all. absurd (omega (arith, all, low)) })

-- the text was given, and what is left is that of the rows
cleared_text : (r : Reader) (records : List Record) (to : ℕ) → length (page_of r).text ≤ to → drop to (page_of r).text ++ rows_text r records ≡ (page_of (cleared r)).text ++ rows_text (cleared r) records
cleared_text (Line r) records to all = ap (λ xs. xs ++ rows_text (Line r) records) (drop_all to r.page.text all)
cleared_text (Circuits r) records to all = ap (λ xs. xs ++ rows_text (Circuits r) records) (drop_all to r.page.page.text all)

-- all was given, and more text was made
pub ready_filled : (before after : Option (List Record)) (old clear new : Reader) (to : ℕ) → length (page_of old).text ≤ to → clear ≡ cleared old → IsFilled before after clear new → IsReady (text_left before old to) after new 0
ready_filled None after old clear new to all is filled = λ text e. cc e
ready_filled (Some records) after old clear new to all is filled = λ text e.
    let same : text ≡ drop to (page_of old).text ++ rows_text old records = cc e in
    let f = filled records refl in (
      f.0,
      f.1,
      record {
        same = same ∙ cleared_text old records to all ∙ ap (λ (x : Reader). (page_of x).text ++ rows_text x records) (sym is) ∙ f.2.goes_on.same;
        some = λ none. f.2.some none;
      },
    )

-- the next bytes are the first ones of what is left
pub given_next : (left : Option (List ℕ)) (after : Option (List Record)) (r : Reader) (place ahead to count : ℕ) → IsReady left after r place → place ≤ length (page_of r).text
    → ahead ≡ length (page_of r).text - place → count ≡ min ahead 65536 → to ≡ place + count → Gives left (text_left after r to) (take (to - place) (drop place (page_of r).text))
given_next left after r place ahead to count ready within is_ahead is_count is_to =
    let moved : to - place ≡ count = omega (arith, is_to) in
    record {
      shown = λ text e.
          let s = ready text e in (
            drop to (page_of r).text ++ rows_text r s.0,
            ap (λ o. text_left o r to) s.1,
            s.2.same
                ∙ ap (λ xs. xs ++ rows_text r s.0) (sym (take-append-drop count (drop place (page_of r).text)))
                ∙ append_assoc (take count (drop place (page_of r).text)) (drop count (drop place (page_of r).text)) (rows_text r s.0)
                ∙ ap (λ xs. take count (drop place (page_of r).text) ++ (xs ++ rows_text r s.0)) (drop-drop count place (page_of r).text ∙ ap (λ k. drop k (page_of r).text) (sym is_to))
                ∙ ap (λ k. take k (drop place (page_of r).text) ++ (drop to (page_of r).text ++ rows_text r s.0)) (sym moved),
          );
      end = λ text e none.
          let s = ready text e in
          let short : min count (length (drop place (page_of r).text)) ≡ 0 = sym (length-take count (drop place (page_of r).text)) ∙ ap length (ap (λ k. take k (drop place (page_of r).text)) (sym moved) ∙ none) in
          let rest : length (drop place (page_of r).text) ≡ length (page_of r).text - place = length-drop place (page_of r).text in
          let all : length (page_of r).text ≤ place = omega (arith, short, rest, is_ahead, is_count, within) in
          s.2.same
          ∙ ap (λ xs. xs ++ rows_text r s.0) (drop_all place (page_of r).text all)
          ∙ (s.2.some all).no_text;
    }

-- ---- the bytes that are passed on

pub bytes_first : (left : Option (List ℕ)) (latest : List ℕ) → latest ≡ [] → bytes_left 0 latest left ≡ left
bytes_first None latest none = refl
bytes_first (Some text) latest none = ap (λ xs. Some (xs ++ text)) none

-- all were given
all_given : (given : ℕ) (latest text : List ℕ) (left : Option (List ℕ)) → length latest ≤ given → bytes_left given latest left ≡ Some text → left ≡ Some text
all_given given latest text None all e = cc e
all_given given latest text (Some rest) all e = ap (λ xs. Some (xs ++ rest)) (sym (drop_all given latest all)) ∙ e

pub bytes_kept : (given : ℕ) (latest now : List ℕ) (left after : Option (List ℕ)) → length latest ≤ given → after ≡ left → (text : List ℕ) → bytes_left given latest left ≡ Some text → bytes_left (length now) now after ≡ Some text
bytes_kept given latest now left after all same text e =
    ap (bytes_left (length now) now) (same ∙ all_given given latest text left all e) ∙ ap (λ xs. Some (xs ++ text)) (drop_all (length now) now (omega arith))

pub bytes_more : (given : ℕ) (latest now : List ℕ) (left after : Option (List ℕ)) → length latest ≤ given → Gives left after now → (text : List ℕ) → bytes_left given latest left ≡ Some text → bytes_left 0 now after ≡ Some text
bytes_more given latest now left after all gives text e =
    let more = gives.shown text (all_given given latest text left all e) in
    ap (bytes_left 0 now) more.1 ∙ ap Some (sym more.2)

pub bytes_end : (given : ℕ) (latest now : List ℕ) (left after : Option (List ℕ)) → length latest ≤ given → Gives left after now → now ≡ [] → (text : List ℕ) → bytes_left given latest left ≡ Some text → text ≡ []
bytes_end given latest now left after all gives none text e = gives.end text (all_given given latest text left all e) none

pub bytes_given : (given from count next : ℕ) (latest bytes : List ℕ) (left : Option (List ℕ)) → from ≡ min given (length latest) → count ≤ length latest - from → next ≡ from + count → bytes ≡ take count (drop from latest)
    → Consumes (bytes_left given latest left) (bytes_left next latest left) bytes
bytes_given given from count next latest bytes None is few to same = tt
bytes_given given from count next latest bytes (Some rest) is few to same = at (cases_lt given (length latest))
  where
    beyond : drop given latest ≡ drop from latest → drop given latest ++ rest ≡ bytes ++ (drop next latest ++ rest)
    beyond e =
        ap (λ xs. xs ++ rest) (e ∙ sym (take-append-drop count (drop from latest)))
        ∙ append_assoc (take count (drop from latest)) (drop count (drop from latest)) rest
        ∙ ap (λ xs. take count (drop from latest) ++ (xs ++ rest)) (drop-drop count from latest ∙ ap (λ k. drop k latest) (sym to))
        ∙ ap (λ xs. xs ++ (drop next latest ++ rest)) (sym same)

    at : (given < length latest) ⊎ (length latest ≤ given) → drop given latest ++ rest ≡ bytes ++ (drop next latest ++ rest)
    at (inl less) = let here : given ≡ from = omega (arith, is, less) in beyond (ap (λ k. drop k latest) here)
    at (inr all) = let end : length latest ≤ from = omega (arith, is, all) in beyond (drop_all given latest all ∙ sym (drop_all from latest end))

-- what was copied to the front of a room
pub room_has : (count from : ℕ) (front rest latest : List ℕ) → front ≡ take (from + count - from) (drop from latest) → length front ≡ count → take count (front ++ rest) ≡ take count (drop from latest)
room_has count from front rest latest is whole =
    let same : from + count - from ≡ count = omega arith in
    ap (λ k. take k (front ++ rest)) (sym whole) ∙ take-append_seam front rest ∙ is ∙ ap (λ k. take k (drop from latest)) same

-- a read that changed nothing of what is left, and then gave bytes
pub consumed : (old middle new : Option (List ℕ)) (bytes : List ℕ) → ((text : List ℕ) → old ≡ Some text → middle ≡ Some text) → Consumes middle new bytes → Consumes old new bytes
consumed None middle new bytes same given = tt
consumed (Some text) middle new bytes same given = subst (λ o. Consumes o new bytes) (same text refl) given

pub ended : (old new : Option (List ℕ)) → ((text : List ℕ) → old ≡ Some text → new ≡ Some text) → new ≡ Some [] → Consumes old new []
ended None new same end = tt
ended (Some text) new same end = let is : new ≡ Some text = same text refl in subst (λ o. Consumes (Some text) o []) (sym is) refl
