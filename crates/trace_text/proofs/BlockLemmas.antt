-- A block that goes on from a text.
use Rattle.std.proofs.Common.{◌≡◌, ◌∙◌, sym, ap, subst, refl, ℕ, ◌+◌, ◌<◌, ◌≤◌, ◌⊎◌, inl, inr, Bool, true, false, List, [], ◌∷◌, ◌++◌, length, map, Option, Some, None, arith, append_assoc, append-nil, cond}
use Rattle.std.specs.Prelude.{nat_lt, is_none, if◌then◌else◌}
use Rattle.std.specs.Option.{option_and_then, option_or}
use Rattle.std.proofs.lemmas.Bool.{ltb-true}
use Rattle.std.proofs.lemmas.Bool.Decides.{nat_tests}
use Rattle.line_model.specs.basics.Records.{Row}
use Rattle.line_model.specs.declared.fault.Kind.{Kind}
use Rattle.line_model.specs.declared.fault.Kind.TheVariants.{LineForm, Number}
use Rattle.line_model.specs.declared.interface.Interface.{Interface}
use Rattle.line_model.specs.text.Header.{number_of}
use Rattle.line_model.specs.text.RowLine.{RowWords, kind_behind, row_kind, row_numbered, row_of, row_words, words_kind}
use Rattle.line_model.specs.text.Text.{Line, begun_line, content_of, contents_kind, ended_lines, first_fault, form_kind, has_header, head_in, head_of, is_comment, is_lf, is_some_line, last_number, last_or, line_kind, onto_begun, onto_first_line, rows_in, size_kind, size_of}
use Rattle.line_model.proofs.LineLemmas.{head-comment, head-later, last_number-comment, last_number-later, rows_in-comment, rows_in-later}
use Rattle.line_model.proofs.TextLemmas.{size_kind-none, size_of-append}
use Rattle.line_model.proofs.TextRows.{row_there}
use Rattle.trace_text.specs.Blocks.{first_number, may_follow}
use Rattle.trace_text.proofs.StepLemmas.{first_none}

-- where no line is begun, what follows begins a line
pub record IsSeam (xs ys : List ℕ) : Type 0 where
  pub lines : ended_lines (xs ++ ys) ≡ ended_lines xs ++ ended_lines ys
  pub begun : begun_line (xs ++ ys) ≡ begun_line ys

seam_lines : (v : Bool) (b : ℕ) (ls more all : List Line) (begun : Line) → cond v begun (onto_begun b ls begun) ≡ [] → (begun ≡ [] → all ≡ ls ++ more) → cond v ([] ∷ all) (onto_first_line b all) ≡ cond v ([] ∷ ls) (onto_first_line b ls) ++ more
seam_lines true b ls more all begun h k = ap (λ (xs : List Line). [] ∷ xs) (k h)
seam_lines false b [] more all begun h k = cc
seam_lines false b (l ∷ ls) more all begun h k = ap (onto_first_line b) (k h)

seam_begun : (v : Bool) (b : ℕ) (ls more all : List Line) (begun rest last : Line) → cond v begun (onto_begun b ls begun) ≡ [] → (begun ≡ [] → all ≡ ls ++ more) → (begun ≡ [] → rest ≡ last) → cond v rest (onto_begun b all rest) ≡ last
seam_begun true b ls more all begun rest last h k m = m h
seam_begun false b [] more all begun rest last h k m = cc
seam_begun false b (l ∷ ls) more all begun rest last h k m = ap (λ xs. onto_begun b xs rest) (k h) ∙ m h

pub seam : (xs ys : List ℕ) → begun_line xs ≡ [] → IsSeam xs ys
seam [] ys h = record { lines = refl; begun = refl }
seam (b ∷ bs) ys h = record {
  lines = seam_lines (is_lf b) b (ended_lines bs) (ended_lines ys) (ended_lines (bs ++ ys)) (begun_line bs) h (λ e. (seam bs ys e).lines);
  begun = seam_begun (is_lf b) b (ended_lines bs) (ended_lines ys) (ended_lines (bs ++ ys)) (begun_line bs) (begun_line (bs ++ ys)) (begun_line ys) h (λ e. (seam bs ys e).lines) (λ e. (seam bs ys e).begun);
}

-- a line of an interface writes this row, after each row of a lower number
pub record WritesRow (i : Interface) (l : Line) (row : Row) : Type 0 where
  pub plain : is_comment l ≡ false
  pub writes : row_of l ≡ Some row
  pub sound : (last : ℕ) → last < row.number → row_kind i last l ≡ None

-- lines after the header and after a row of this number are not too long, have no other fault, and write these rows
abbrev pub AreRows : Interface → ℕ → List Line → List Row → Type 0
AreRows i last [] rows = rows ≡ []
AreRows i last (l ∷ ls) rows = (length l ≤ 8500) × (((is_comment l ≡ true) × AreRows i last ls rows) ⊎ ((row : Row) × (rest : List Row) × WritesRow i l row × (last < row.number) × (rows ≡ row ∷ rest) × AreRows i row.number ls rest))

abbrev rising : ℕ → Option ℕ → Option ℕ
rising last o = option_and_then (λ n. if nat_lt last n then Some n else None) o

abbrev judged : Interface → RowWords → Option ℕ → Option Kind
judged i w number = if is_none number then Some Number else kind_behind i w

above : (b n : ℕ) → b < n → (if nat_lt b n then Some n else None) ≡ Some n
above b n h = grind (arith, nat_tests)

-- a row whose words have no fault after the number `last`
number_sound : (i : Interface) (last : ℕ) (w : RowWords) (number : Option ℕ) → judged i w (rising last number) ≡ None
    → (row : Row) × (option_and_then (row_numbered w) number ≡ Some row) × (last < row.number) × ((b : ℕ) → b < row.number → judged i w (rising b number) ≡ None)
number_sound i last w None h = cc
number_sound i last w (Some n) h = at (nat_lt last n) refl h
  where
    at : (t : Bool) → nat_lt last n ≡ t → judged i w (if t then Some n else None) ≡ None
        → (row : Row) × (row_numbered w n ≡ Some row) × (last < row.number) × ((b : ℕ) → b < row.number → judged i w (if nat_lt b n then Some n else None) ≡ None)
    at false e k = cc
    at true e k =
        let there = row_there i w n k in
        let same = there.number in
        let less : last < n = ltb-true last n e in
        (there.row, there.is, omega (arith, less, same), λ b l. ap (λ x. judged i w x) (above b n (omega (arith, l, same))) ∙ k)

abbrev kind_by : Interface → ℕ → Option RowWords → Option Kind
kind_by i last words = elim words as (λ _. Option Kind) [ None ↦ Some LineForm | Some w ↦ words_kind i last w ]

abbrev row_by : Option RowWords → Option Row
row_by words = option_and_then (λ w. option_and_then (row_numbered w) (number_of w.number)) words

words_sound : (i : Interface) (last : ℕ) (words : Option RowWords) → kind_by i last words ≡ None → (row : Row) × (row_by words ≡ Some row) × (last < row.number) × ((b : ℕ) → b < row.number → kind_by i b words ≡ None)
words_sound i last None h = cc
words_sound i last (Some w) h = number_sound i last w (number_of w.number) h

sound_row : (i : Interface) (last : ℕ) (l : Line) → is_comment l ≡ false → row_kind i last l ≡ None → (row : Row) × WritesRow i l row × (last < row.number)
unfolding row_kind row_of
sound_row i last l plain h =
    let w = words_sound i last (row_words l) h in
    (w.0, record { plain = plain; writes = w.1; sound = w.3 }, w.2)

-- the contents of a line after the header
contents_sound : (i : Interface) (last : ℕ) (l : Line) → contents_kind (Some i) last l ≡ None → (is_comment l ≡ true) ⊎ ((is_comment l ≡ false) × (row_kind i last l ≡ None))
unfolding contents_kind
contents_sound i last l h = of (is_comment l) refl h
  where
    of : (c : Bool) → is_comment l ≡ c → (if c then None else row_kind i last l) ≡ None → (is_comment l ≡ true) ⊎ ((is_comment l ≡ false) × (row_kind i last l ≡ None))
    of true e k = inl e
    of false e k = inr (e, k)

pub second_none : {T : Type 0} (a b : Option T) → option_or a b ≡ None → b ≡ None
second_none None b h = h
second_none (Some x) b h = cc

-- where an interface is set up there is a header
pub headed : (i : Interface) (es : List Line) → head_of es ≡ Some i → has_header es ≡ true
unfolding head_of has_header
headed i es h = at (content_of es) h
  where
    at : (ls : List Line) → head_in ls ≡ Some i → is_some_line ls ≡ true
    at [] e = cc
    at (l ∷ ls) e = refl

head_more : (i : Interface) (es : List Line) (l : Line) → head_of es ≡ Some i → head_of (es ++ l ∷ []) ≡ Some i
head_more i es l h = by (is_comment l) refl
  where
    by : (c : Bool) → is_comment l ≡ c → head_of (es ++ l ∷ []) ≡ Some i
    by true e = head-comment es l e ∙ h
    by false e = head-later es l e (headed i es h) ∙ h

no_first_fault : (o : Option Kind) (n : ℕ) (left : Option (ℕ × Kind)) → (elim o as (λ _. Option (ℕ × Kind)) [ Some kind ↦ Some (n, kind) | None ↦ left ]) ≡ None → (o ≡ None) × (left ≡ None)
no_first_fault (Some kind) n left h = cc
no_first_fault None n left h = (refl, h)

rows_later : (i : Interface) (es : List Line) (l : Line) (ls : List Line) → head_of es ≡ Some i → length l ≤ 8500 → (rows : List Row) × AreRows i (last_number (es ++ l ∷ [])) ls rows → (is_comment l ≡ true) ⊎ ((is_comment l ≡ false) × (row_kind i (last_number es) l ≡ None))
    → (rows : List Row) × AreRows i (last_number es) (l ∷ ls) rows
rows_later i es l ls head few more (inl comment) = (more.0, (few, inl (comment, subst (λ n. AreRows i n ls more.0) (last_number-comment es l comment) more.1)))
rows_later i es l ls head few more (inr plain) =
    let row = sound_row i (last_number es) l plain.0 plain.1 in
    let writes = row.1 in
    (row.0 ∷ more.0, (few, inr (row.0, more.0, row.1, row.2, refl, subst (λ n. AreRows i n ls more.0) (last_number-later es l row.0 plain.0 (headed i es head) writes.writes) more.1)))

-- lines without a fault after others that have a header
pub are_rows : (i : Interface) (es ls : List Line) → head_of es ≡ Some i → first_fault es ls ≡ None → (rows : List Row) × AreRows i (last_number es) ls rows
are_rows i es [] head h = ([], refl)
are_rows i es (l ∷ ls) head h =
    let parts = no_first_fault (line_kind es 1 l) (length es + 1) (first_fault (es ++ l ∷ []) ls) h in
    let few = (size_kind-none (size_of es) 1 (length l) (first_none _ _ parts.0)).0 in
    let form : contents_kind (Some i) (last_number es) l ≡ None = ap (λ t. contents_kind t (last_number es) l) (sym head) ∙ second_none _ _ parts.0 in
    rows_later i es l ls head few (are_rows i (es ++ l ∷ []) ls (head_more i es l head) parts.1) (contents_sound i (last_number es) l form)

-- the same lines after a row of another number, where the numbers rise
pub rebased : (i : Interface) (a b : ℕ) (ls : List Line) (rows : List Row) → may_follow b (first_number rows) ≡ true → AreRows i a ls rows → AreRows i b ls rows
rebased i a b [] rows follows h = h
rebased i a b (l ∷ ls) rows follows h = (h.0, by (rebased i a b ls rows follows) h.1)
  where
    rises : (n m : ℕ) → a < m → n ≡ m → may_follow b n ≡ true → b < m
    rises n m lower e f = grind (arith, nat_tests)

    by : (AreRows i a ls rows → AreRows i b ls rows) → ((is_comment l ≡ true) × AreRows i a ls rows) ⊎ ((row : Row) × (rest : List Row) × WritesRow i l row × (a < row.number) × (rows ≡ row ∷ rest) × AreRows i row.number ls rest)
        → ((is_comment l ≡ true) × AreRows i b ls rows) ⊎ ((row : Row) × (rest : List Row) × WritesRow i l row × (b < row.number) × (rows ≡ row ∷ rest) × AreRows i row.number ls rest)
    by later (inl c) = inl (c.0, later c.1)
    by later (inr r) = inr (r.0, r.1, r.2, rises (first_number rows) r.0.number r.3 (ap first_number r.4) follows, r.4, r.5)

-- lines go on from others without a fault, and their rows are these
pub record Follows (es ls : List Line) (rows : List Row) : Type 0 where
  pub sound : first_fault es ls ≡ None
  pub rows_are : rows_in (es ++ ls) ≡ rows_in es ++ rows
  pub head : head_of (es ++ ls) ≡ head_of es
  pub header : has_header (es ++ ls) ≡ true
  pub last : last_number (es ++ ls) ≡ last_or (last_number es) (map (λ r. r.number) rows)

pub fits : (start len : ℕ) → len ≤ 8500 → start + len + 1 ≤ 1073741824 → size_kind start 1 len ≡ None
unfolding size_kind
fits start len few room = grind (arith, nat_tests)

pub comment_sound : (head : Option Interface) (last : ℕ) (l : Line) → is_comment l ≡ true → contents_kind head last l ≡ None
unfolding contents_kind
comment_sound head last l h = rw h refl

row_sound : (i : Interface) (last : ℕ) (l : Line) → is_comment l ≡ false → row_kind i last l ≡ None → contents_kind (Some i) last l ≡ None
unfolding contents_kind
row_sound i last l h k = rw h k

line_sound : (es : List Line) (l : Line) → length l ≤ 8500 → size_of es + length l + 1 ≤ 1073741824 → form_kind es l ≡ None → line_kind es 1 l ≡ None
line_sound es l few room form = ap (λ o. option_or o (form_kind es l)) (fits (size_of es) (length l) few room) ∙ form

pub first_sound : (es : List Line) (l : Line) (ls : List Line) → line_kind es 1 l ≡ None → first_fault (es ++ l ∷ []) ls ≡ None → first_fault es (l ∷ ls) ≡ None
first_sound es l ls h k = ap (λ (o : Option Kind). elim o as (λ _. Option (ℕ × Kind)) [ Some kind ↦ Some (length es + 1, kind) | None ↦ first_fault (es ++ l ∷ []) ls ]) h ∙ k

pub follows : (i : Interface) (es ls : List Line) (rows : List Row) → head_of es ≡ Some i → size_of es + size_of ls ≤ 1073741824 → AreRows i (last_number es) ls rows → Follows es ls rows
follows i es [] rows head room h = record {
  sound = refl;
  rows_are = ap rows_in (append-nil es) ∙ sym (append-nil (rows_in es)) ∙ ap (λ rs. rows_in es ++ rs) (sym h);
  head = ap head_of (append-nil es);
  header = ap has_header (append-nil es) ∙ headed i es head;
  last = ap last_number (append-nil es) ∙ ap (λ (rs : List Row). last_or (last_number es) (map (λ r. r.number) rs)) (sym h);
}
follows i es (l ∷ ls) rows head room h = by (λ rest k. follows i (es ++ l ∷ []) ls rest (head_more i es l head) (omega (arith, room, size_of-append es (l ∷ []))) k) h.1
  where
    here : size_of es + length l + 1 ≤ 1073741824
    here = omega (arith, room)

    by : ((rest : List Row) → AreRows i (last_number (es ++ l ∷ [])) ls rest → Follows (es ++ l ∷ []) ls rest) → ((is_comment l ≡ true) × AreRows i (last_number es) ls rows) ⊎ ((row : Row) × (rest : List Row) × WritesRow i l row × (last_number es < row.number) × (rows ≡ row ∷ rest) × AreRows i row.number ls rest) → Follows es (l ∷ ls) rows
    by later (inl c) =
        let last = last_number-comment es l c.0 in
        let more = later rows (subst (λ n. AreRows i n ls rows) (sym last) c.1) in
        let all = append_assoc es (l ∷ []) ls in
        record {
          sound = first_sound es l ls (line_sound es l h.0 here (comment_sound (head_of es) (last_number es) l c.0)) more.sound;
          rows_are = ap rows_in (sym all) ∙ more.rows_are ∙ ap (λ rs. rs ++ rows) (rows_in-comment es l c.0);
          head = ap head_of (sym all) ∙ more.head ∙ head-comment es l c.0;
          header = ap has_header (sym all) ∙ more.header;
          last = ap last_number (sym all) ∙ more.last ∙ ap (λ n. last_or n (map (λ (r : Row). r.number) rows)) last;
        }
    by later (inr r) =
        let row = r.0 in
        let rest = r.1 in
        let writes = r.2 in
        let last = last_number-later es l row writes.plain (headed i es head) writes.writes in
        let more = later rest (subst (λ n. AreRows i n ls rest) (sym last) r.5) in
        let all = append_assoc es (l ∷ []) ls in
        let form : form_kind es l ≡ None = ap (λ t. contents_kind t (last_number es) l) head ∙ row_sound i (last_number es) l writes.plain (writes.sound (last_number es) r.3) in
        record {
          sound = first_sound es l ls (line_sound es l h.0 here form) more.sound;
          rows_are = ap rows_in (sym all) ∙ more.rows_are ∙ ap (λ rs. rs ++ rest) (rows_in-later es l row writes.plain (headed i es head) writes.writes) ∙ append_assoc (rows_in es) (row ∷ []) rest ∙ ap (λ rs. rows_in es ++ rs) (sym r.4);
          head = ap head_of (sym all) ∙ more.head ∙ head-later es l writes.plain (headed i es head);
          header = ap has_header (sym all) ∙ more.header;
          last = ap last_number (sym all) ∙ more.last ∙ ap (λ n. last_or n (map (λ (r : Row). r.number) rest)) last ∙ ap (λ (rs : List Row). last_or (last_number es) (map (λ (r : Row). r.number) rs)) (sym r.4);
        }
