-- What a sink has of a page, known by its bytes alone.
use Rattle.std.proofs.Common.{◌≡◌, ◌∙◌, sym, ap, subst, refl, ℕ, ◌<◌, ◌≤◌, Bool, true, false, List, [], ◌∷◌, ◌++◌, length, drop, ◌&&◌, ◌||◌, Option, Some, None, Result, Ok, Err, OnOk, OnErr, arith, append_assoc, append-nil, length-append, ◌⊎◌, inl, inr}
use Rattle.std.specs.Prelude.{◌==◌, nat_le}
use Rattle.std.specs.Coded.{Coded-set, coded_bool, coded_list, coded_option, coded_ℕ}
use Rattle.std.specs.List.{list_all, list_any}
use Rattle.std.proofs.Props.{props}
use Rattle.std.proofs.lemmas.Bool.{eqb-true}
use Rattle.std.proofs.lemmas.Bool.Decides.{nat_tests}
use Rattle.std.proofs.lemmas.List.Folds.{list_all-append, list_any-append}
use Rattle.std.proofs.Math.Logic.{∥∥₁_elim, ∥∥₁_map}
use Rattle.std.proofs.Math.Seq.{drop-append_seam}
use Rattle.line_model.specs.basics.Device.{with_more}
use Rattle.line_model.specs.text.Text.{Line, begun_line, ended_lines, is_lf}
use Rattle.line_model.specs.traces.Traces.{text}
use Rattle.line_model.proofs.TextLemmas.{begun-lf, begun-more, ended-lf, ended-more}
use Rattle.line_model.specs.declared.write_buffer.WriteBuffer.{WriteBuffer}
use Rattle.annotated_trace.specs.Annotation.{IsOneLine, IsUnmarked}
use Rattle.annotated_trace.specs.Printed.{HasTaken, HasTakenFirst}
use Rattle.annotated_trace.specs.Pages.{HasNoted, HasNotes}
use Rattle.annotated_trace.specs.Wording.{AreNotes, IsNote, Remarks, notes_of}
use Rattle.annotated_trace.proofs.LinesOfText.{AreLines, begun_behind, ended_are_lines, ended_first, ended_text}
use Rattle.annotated_trace.proofs.WordingLemmas.{all_notes, notes_are_comments, notes_mark_nothing, whole_text}

-- ---- notes by a test

both_left : (a b : Bool) → (a && b) ≡ true → a ≡ true
both_left true b h = refl
both_left false b h = cc

both_right : (a b : Bool) → (a && b) ≡ true → b ≡ true
both_right true b h = h
both_right false b h = cc

or_right : (v r : Bool) → (v || r) ≡ false → r ≡ false
or_right true r h = cc
or_right false r h = h

-- whether a line is a note, if it has no LF
abbrev is_noted : Line → Bool
is_noted (a ∷ b ∷ words) = (a == 35) && ((b == 32) && nat_le (length words) 8000)
is_noted _ = false

few_words : (n : ℕ) → nat_le n 8000 ≡ true → n ≤ 8000
few_words n h = grind (arith, nat_tests)

words_few : (n : ℕ) → n ≤ 8000 → nat_le n 8000 ≡ true
words_few n h = grind (arith, nat_tests)

note_of : (l : Line) → is_noted l ≡ true → IsOneLine l → IsNote l
note_of [] h one = absurd (let bad : false ≡ true = h in cc)
note_of (a ∷ []) h one = absurd (let bad : false ≡ true = h in cc)
note_of (a ∷ b ∷ words) h one =
    let rest = both_right (a == 35) ((b == 32) && nat_le (length words) 8000) h in
    let hash : a ≡ 35 = eqb-true a 35 (both_left (a == 35) ((b == 32) && nat_le (length words) 8000) h) in
    let space : b ≡ 32 = eqb-true b 32 (both_left (b == 32) (nat_le (length words) 8000) rest) in
    record {
      words = words;
      are_words = record { one = or_right (is_lf b) (list_any is_lf words) (or_right (is_lf a) (is_lf b || list_any is_lf words) one); short = few_words (length words) (both_right (b == 32) (nat_le (length words) 8000) rest) };
      line_is = ap (λ c. c ∷ b ∷ words) hash ∙ ap (λ c. 35 ∷ c ∷ words) space;
    }

noted_of : (l : Line) → IsNote l → is_noted l ≡ true
noted_of l h = ap is_noted h.line_is ∙ words_few (length h.words) h.are_words.short

one_of : (l : Line) → IsNote l → IsOneLine l
one_of l h = subst IsOneLine (sym h.line_is) h.are_words.one

notes_of_all : (ls : List Line) → list_all is_noted ls ≡ true → AreLines ls → AreNotes ls
notes_of_all [] h k = tt
notes_of_all (l ∷ ls) h k = (note_of l (both_left (is_noted l) (list_all is_noted ls) h) k.0, notes_of_all ls (both_right (is_noted l) (list_all is_noted ls) h) k.1)

all_of_notes : (ls : List Line) → AreNotes ls → list_all is_noted ls ≡ true
all_of_notes [] h = refl
all_of_notes (l ∷ ls) h = ap (λ v. v && list_all is_noted ls) (noted_of l h.0) ∙ all_of_notes ls h.1

lines_of_notes : (ls : List Line) → AreNotes ls → AreLines ls
lines_of_notes [] h = tt
lines_of_notes (l ∷ ls) h = (one_of l h.0, lines_of_notes ls h.1)

-- ---- a first part of notes, and what ends its last line

-- the last line as it is ended
abbrev last_of : (begun : Line) → List Line
last_of [] = []
last_of (a ∷ []) = (a ∷ 32 ∷ []) ∷ []
last_of begun = begun ∷ []

-- the bytes that end it
abbrev rest_of : (begun : Line) → List ℕ
rest_of [] = []
rest_of (a ∷ []) = 32 ∷ 10 ∷ []
rest_of begun = 10 ∷ []

rest_ended : (front b : List ℕ) → begun_line front ≡ b → ended_lines (front ++ rest_of b) ≡ ended_lines front ++ last_of b
rest_ended front [] e = ap ended_lines (append-nil front) ∙ sym (append-nil (ended_lines front))
rest_ended front (a ∷ []) e =
    ap ended_lines (sym (append_assoc front (32 ∷ []) (10 ∷ []))) ∙ ended-lf (front ++ 32 ∷ [])
    ∙ ap (λ ls. ls ++ begun_line (front ++ 32 ∷ []) ∷ []) (ended-more front (32 ∷ []) refl) ∙ ap (λ l. ended_lines front ++ l ∷ []) (begun-more front (32 ∷ []) refl ∙ ap (λ l. l ++ 32 ∷ []) e)
rest_ended front (a ∷ b ∷ words) e = ended-lf front ∙ ap (λ l. ended_lines front ++ l ∷ []) e

rest_whole : (front b : List ℕ) → begun_line front ≡ b → begun_line (front ++ rest_of b) ≡ []
rest_whole front [] e = ap begun_line (append-nil front) ∙ e
rest_whole front (a ∷ []) e = ap begun_line (sym (append_assoc front (32 ∷ []) (10 ∷ []))) ∙ begun-lf (front ++ 32 ∷ [])
rest_whole front (a ∷ b ∷ words) e = begun-lf front

-- its lines are notes, and the last one is where it is ended
record IsFirstOfNotes (front : List ℕ) : Type 0 where
  pub ended : list_all is_noted (ended_lines front) ≡ true
  pub begun : list_all is_noted (last_of (begun_line front)) ≡ true

begun_noted : (front more : List ℕ) → is_noted (front ++ more) ≡ true → list_all is_noted (last_of front) ≡ true
begun_noted [] more h = refl
begun_noted (a ∷ []) [] h = absurd (let bad : false ≡ true = h in cc)
begun_noted (a ∷ []) (b ∷ more) h = ap (λ v. (v && true) && true) (both_left (a == 35) ((b == 32) && nat_le (length more) 8000) h)
begun_noted (a ∷ b ∷ words) more h =
    let rest = both_right (a == 35) ((b == 32) && nat_le (length (words ++ more)) 8000) h in
    let all = few_words (length (words ++ more)) (both_right (b == 32) (nat_le (length (words ++ more)) 8000) rest) in
    let few : length words ≤ 8000 = omega (arith, all, length-append words more) in
    ap (λ v. (v && ((b == 32) && nat_le (length words) 8000)) && true) (both_left (a == 35) ((b == 32) && nat_le (length (words ++ more)) 8000) h)
    ∙ ap (λ v. (v && nat_le (length words) 8000) && true) (both_left (b == 32) (nat_le (length (words ++ more)) 8000) rest) ∙ ap (λ v. v && true) (words_few (length words) few)

or_left : (v r : Bool) → (v || r) ≡ false → v ≡ false
or_left true r h = cc
or_left false r h = refl

in_first : (front more : List ℕ) → is_noted (front ++ more) ≡ true → IsOneLine (front ++ more) → IsFirstOfNotes front
in_first front more h one =
    let here : IsOneLine front = or_left (list_any is_lf front) (list_any is_lf more) (sym (list_any-append is_lf front more) ∙ one) in
    record { ended = ap (list_all is_noted) (ended-more [] front here); begun = ap (λ l. list_all is_noted (last_of l)) (begun-more [] front here) ∙ begun_noted front more h }

behind_first : (l more : List ℕ) → is_noted l ≡ true → IsOneLine l → IsFirstOfNotes more → IsFirstOfNotes (l ++ 10 ∷ more)
behind_first l more h one k = record {
  ended = ap (list_all is_noted) (ended_first l more one) ∙ ap (λ v. v && list_all is_noted (ended_lines more)) h ∙ k.ended;
  begun = ap (λ b. list_all is_noted (last_of b)) (begun_behind l more one) ∙ k.begun;
}

-- bytes that end in a line, or go on after it
abbrev Ends : (front left l tail : List ℕ) → Type 0
Ends front left l tail = ((more : List ℕ) × (l ≡ front ++ more)) ⊎ ((c : ℕ) × (more : List ℕ) × (front ≡ l ++ c ∷ more) × (tail ≡ c ∷ (more ++ left)))

ends : (front left l tail : List ℕ) → l ++ tail ≡ front ++ left → Ends front left l tail
ends [] left l tail e = inl (l, refl)
ends (b ∷ front) left [] tail e = inr (b, front, refl, e)
ends (b ∷ front) left (a ∷ l) tail e =
    let heads : a ≡ b = cc in
    let tails : l ++ tail ≡ front ++ left = cc in
    onto heads (ends front left l tail tails)
  where
    onto : a ≡ b → Ends front left l tail → Ends (b ∷ front) left (a ∷ l) tail
    onto same (inl x) = inl (x.0, ap (λ xs. a ∷ xs) x.1 ∙ ap (λ c. c ∷ (front ++ x.0)) same)
    onto same (inr x) = inr (x.0, x.1, ap (λ xs. b ∷ xs) x.2 ∙ ap (λ c. c ∷ (l ++ x.0 ∷ x.1)) (sym same), x.3)

first_of_notes : (ls : List Line) (front left : List ℕ) → AreNotes ls → text ls ≡ front ++ left → IsFirstOfNotes front
first_of_notes [] [] left h e = record { ended = refl; begun = refl }
first_of_notes [] (b ∷ front) left h e = absurd (cc)
first_of_notes (l ∷ ls) front left h e = by (ends front left l (10 ∷ text ls) e) (λ more k. first_of_notes ls more left h.1 k)
  where
    by : Ends front left l (10 ∷ text ls) → ((more : List ℕ) → text ls ≡ more ++ left → IsFirstOfNotes more) → IsFirstOfNotes front
    by (inl x) later = in_first front x.0 (ap is_noted (sym x.1) ∙ noted_of l h.0) (subst IsOneLine x.1 (one_of l h.0))
    by (inr x) later =
        let feed : 10 ≡ x.0 = let same = x.3 in cc in
        let rest : text ls ≡ x.1 ++ left = let same = x.3 in cc in
        subst IsFirstOfNotes (ap (λ c. l ++ c ∷ x.1) feed ∙ sym x.2) (behind_first l x.1 (noted_of l h.0) (one_of l h.0) (later x.1 rest))

-- ---- what a sink accepted

-- a sink accepted notes
pub record TookNotes (before after : Option (List ℕ)) : Type 0 where
  pub lines : List Line
  pub notes : AreNotes lines
  pub taken : after ≡ with_more before (text lines)

-- it accepted a first part of some
pub record TookFirst (before after : Option (List ℕ)) : Type 0 where
  pub lines : List Line
  pub front : List ℕ
  pub left : List ℕ
  pub notes : AreNotes lines
  pub whole : text lines ≡ front ++ left
  pub taken : after ≡ with_more before front

some_same : (a b : List ℕ) → Some a ≡ Some b → a ≡ b
some_same a b h = cc

since : (b bytes more : List ℕ) → Some bytes ≡ Some (b ++ more) → drop (length b) bytes ≡ more
since b bytes more h = ap (drop (length b)) (some_same bytes (b ++ more) h) ∙ drop-append_seam b more

unmarked_notes : (ls : List Line) → AreNotes ls → IsUnmarked (text ls)
unmarked_notes ls notes = record { closing = ls; written = refl; comments = notes_are_comments ls notes; unmarked = notes_mark_nothing ls notes }

nothing_unmarked : IsUnmarked []
nothing_unmarked = unmarked_notes [] tt

-- there are such notes: so those that its bytes are
pub closing_taken : (before after : Option (List ℕ)) → ∥ TookNotes before after ∥₁ → HasTaken IsUnmarked before after
closing_taken None after t = record { bytes = []; taken = ∥∥₁_elim t (Coded-set (coded_option (coded_list coded_ℕ)) _ _) (λ x. x.taken); formed = nothing_unmarked }
closing_taken (Some b) None t = absurd (∥∥₁_elim t (hlevel props) (λ x. let bad = x.taken in cc))
closing_taken (Some b) (Some bytes) t =
    let sent = drop (length b) bytes in
    let ls = ended_lines sent in
    let all : list_all is_noted ls ≡ true = ∥∥₁_elim t (Coded-set coded_bool _ _) (λ x. ap (list_all is_noted) (same x) ∙ all_of_notes x.lines x.notes) in
    let notes = notes_of_all ls all (ended_are_lines sent) in
    record {
      bytes = text ls;
      taken = ∥∥₁_elim t (Coded-set (coded_option (coded_list coded_ℕ)) _ _) (λ x. x.taken ∙ ap (λ ms. Some (b ++ text ms)) (sym (same x)));
      formed = unmarked_notes ls notes;
    }
  where
    same : (x : TookNotes (Some b) (Some bytes)) → ended_lines (drop (length b) bytes) ≡ x.lines
    same x = ap ended_lines (since b bytes (text x.lines) x.taken) ∙ ended_text x.lines (lines_of_notes x.lines x.notes)

pub first_taken : (before after : Option (List ℕ)) → ∥ TookFirst before after ∥₁ → HasTakenFirst IsUnmarked before after
first_taken None after t = record { bytes = []; front = []; left = []; whole = refl; taken = ∥∥₁_elim t (Coded-set (coded_option (coded_list coded_ℕ)) _ _) (λ x. x.taken); formed = nothing_unmarked }
first_taken (Some b) None t = absurd (∥∥₁_elim t (hlevel props) (λ x. let bad = x.taken in cc))
first_taken (Some b) (Some bytes) t =
    let front = drop (length b) bytes in
    let begun = begun_line front in
    let ls = ended_lines (front ++ rest_of begun) in
    let ended : list_all is_noted (ended_lines front) ≡ true = ∥∥₁_elim t (Coded-set coded_bool _ _) (λ x. (first x).ended) in
    let last : list_all is_noted (last_of begun) ≡ true = ∥∥₁_elim t (Coded-set coded_bool _ _) (λ x. (first x).begun) in
    let all : list_all is_noted ls ≡ true =
    ap (list_all is_noted) (rest_ended front begun refl) ∙ list_all-append is_noted (ended_lines front) (last_of begun) ∙ ap (λ v. v && list_all is_noted (last_of begun)) ended ∙ last in
    let notes = notes_of_all ls all (ended_are_lines (front ++ rest_of begun)) in
    record {
      bytes = text ls;
      front = front;
      left = rest_of begun;
      whole = whole_text (front ++ rest_of begun) (rest_whole front begun refl);
      taken = ∥∥₁_elim t (Coded-set (coded_option (coded_list coded_ℕ)) _ _) (λ x. x.taken ∙ ap (λ xs. Some (b ++ xs)) (sym (since b bytes x.front x.taken)));
      formed = unmarked_notes ls notes;
    }
  where
    first : (x : TookFirst (Some b) (Some bytes)) → IsFirstOfNotes (drop (length b) bytes)
    first x = subst IsFirstOfNotes (sym (since b bytes x.front x.taken)) (first_of_notes x.lines x.front x.left x.notes x.whole)

-- ---- what a page says of its sink

pub closing_said : {T E : Type 0} (r : Result T E) (start now : Option (List ℕ) × ℕ) (buffer : WriteBuffer) (said : ℕ) (after : Option (List ℕ)) → ∥ HasNotes start now buffer said ∥₁
    → ((notes : Remarks) → HasNoted start now buffer said notes → OnOk r (after ≡ with_more start.0 (text (notes_of notes)))) → OnOk r (HasTaken IsUnmarked start.0 after)
closing_said (Ok x) start now buffer said after t ok =
    closing_taken start.0 after (∥∥₁_map t (λ h. record { lines = notes_of h.notes; notes = all_notes h.notes h.noted.lines h.noted.words; taken = ok h.notes h.noted }))
closing_said (Err e) start now buffer said after t ok = tt

pub first_said : {T E : Type 0} (r : Result T E) (start now : Option (List ℕ) × ℕ) (buffer : WriteBuffer) (said : ℕ) (after : Option (List ℕ)) → ∥ HasNotes start now buffer said ∥₁
    → ((notes : Remarks) → HasNoted start now buffer said notes → OnErr r ((front : List ℕ) × (rest : List ℕ) × (text (notes_of notes) ≡ front ++ rest) × (after ≡ with_more start.0 front))) → OnErr r (HasTakenFirst IsUnmarked start.0 after)
first_said (Ok x) start now buffer said after t part = tt
first_said (Err e) start now buffer said after t part = first_taken start.0 after (∥∥₁_map t (λ h. first_of h (part h.notes h.noted)))
  where
    first_of : (h : HasNotes start now buffer said) → (front : List ℕ) × (rest : List ℕ) × (text (notes_of h.notes) ≡ front ++ rest) × (after ≡ with_more start.0 front) → TookFirst start.0 after
    first_of h p = record { lines = notes_of h.notes; front = p.0; left = p.1; notes = all_notes h.notes h.noted.lines h.noted.words; whole = p.2; taken = p.3 }

pub failed_said : {T E : Type 0} (r : Result T E) (start now : Option (List ℕ) × ℕ) (buffer : WriteBuffer) (said before after : ℕ) → ∥ HasNotes start now buffer said ∥₁
    → ((notes : Remarks) → HasNoted start now buffer said notes → OnErr r (before < after)) → OnErr r (before < after)
failed_said (Ok x) start now buffer said before after t cause = tt
failed_said (Err e) start now buffer said before after t cause = ∥∥₁_elim t (hlevel props) (λ h. cause h.notes h.noted)
