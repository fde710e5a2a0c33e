-- What the first lines of an input say stays, and the rows of an input are of its interface.
use Rattle.std.proofs.Common.{◌≡◌, ◌∙◌, sym, ap, ap₂, subst, ℕ, zero, suc, ◌+◌, ◌-◌, ◌≤◌, Bool, true, false, not, cond, ◌&&◌, List, [], ◌∷◌, ◌++◌, length, take, drop, Option, Some, None, refl, arith, ◌⊎◌, inl, inr, append_assoc, append-nil, length-append}
use Rattle.std.specs.Prelude.{IfSome, is_none}
use Rattle.std.specs.List.{cons_option, filter_map}
use Rattle.std.specs.Option.{option_and_then, option_map, option_or}
use Rattle.std.proofs.Math.Seq.{take-append-add}
use Rattle.std.proofs.lemmas.Bool.{false≢true}
use Rattle.std.proofs.lemmas.Bool.Decides.{nat_tests}
use Rattle.std.proofs.lemmas.List.Elements.{filter_map-append}
use Rattle.line_model.specs.declared.fault.Kind.{Kind}
use Rattle.line_model.specs.declared.fault.Kind.TheVariants.{HeaderMissing, Hex, LineForm, Number, Side as SideKind}
use Rattle.line_model.specs.declared.interface.Interface.{Interface}
use Rattle.line_model.specs.declared.state.Side.{Side}
use Rattle.line_model.specs.declared.state.Side.TheVariants.{T}
use Rattle.line_model.specs.basics.Records.{Row}
use Rattle.line_model.specs.basics.Bounds.{AreRows, IsRow}
use Rattle.line_model.specs.text.Header.{number_of}
use Rattle.line_model.specs.text.RowLine.{RowWords, gap_in, gap_kind, gap_row, is_gap_word, is_within, kind_behind, octets_of, packet_kind, packet_row, row_kind, row_numbered, row_of, row_words, side_of, words_kind}
use Rattle.line_model.specs.text.Text.{Line, begun_kind, begun_line, content_of, contents_kind, early, early_head, early_rows, end_kind, ended_lines, fault, first_fault, form_kind, good_lines, head, head_in, head_of, header_kind, is_comment, last_number, line_kind, line_or_none, lines_of, rows, rows_in, size_kind, size_of}
use Rattle.line_model.specs.Laws.{EarlyHeadLaw, EarlyRowsLaw, FirstRowsLaw, RowsLaw}
use Rattle.line_model.proofs.FirstFaults.{above, good_first, take_zero}
use Rattle.line_model.proofs.FinalFaults.{both_none, early_is, fault_is, first_is}
use Rattle.line_model.proofs.LineLemmas.{content-comment, content-line}
use Rattle.line_model.proofs.Pieces.{filter_append}
use Rattle.line_model.proofs.TextLemmas.{first_fault-append}

-- ---- what comes before a fault

lines_first : (text more : List ℕ) → (rest : List Line) × (good_lines (fault (text ++ more)) (lines_of (text ++ more)) ≡ good_lines (early text) (ended_lines text) ++ rest)
lines_first text more =
    let w = good_first form_kind text more in
    (w.0, ap (λ o. good_lines o (lines_of (text ++ more))) (sym (fault_is (text ++ more))) ∙ w.1 ∙ ap (λ o. good_lines o (ended_lines text) ++ w.0) (early_is text))

content_append : (xs ys : List Line) → content_of (xs ++ ys) ≡ content_of xs ++ content_of ys
content_append xs ys = filter_append (λ l. not (is_comment l)) xs ys

pub early_head_law : EarlyHeadLaw
unfolding head early_head head_of
early_head_law text more i h =
    let w = lines_first text more in
    ap (λ ls. head_in (content_of ls)) w.1 ∙ ap head_in (content_append (good_lines (early text) (ended_lines text)) w.0)
    ∙ at (content_of (good_lines (early text) (ended_lines text))) (content_of w.0) h
  where
    at : (xs ys : List Line) → head_in xs ≡ Some i → head_in (xs ++ ys) ≡ Some i
    at [] ys e = absurd (cc)
    at (x ∷ xs) ys e = e

pub early_rows_law : EarlyRowsLaw
unfolding rows early_rows rows_in
early_rows_law text more =
    let w = lines_first text more in
    let rows = at (content_of (good_lines (early text) (ended_lines text))) (content_of w.0) in
    (rows.0, ap (λ ls. filter_map row_of (drop 1 (content_of ls))) w.1 ∙ ap (λ ls. filter_map row_of (drop 1 ls)) (content_append (good_lines (early text) (ended_lines text)) w.0) ∙ rows.1)
  where
    at : (xs ys : List Line) → (rest : List Row) × (filter_map row_of (drop 1 (xs ++ ys)) ≡ filter_map row_of (drop 1 xs) ++ rest)
    at [] ys = (filter_map row_of (drop 1 ys), refl)
    at (x ∷ xs) ys = (filter_map row_of ys, filter_map-append row_of xs ys)

-- ---- a row without a fault

-- the word of a gap names no side
pub no_side : (word : List ℕ) → is_gap_word word ≡ true → side_of word ≡ None
no_side [] h = absurd (false≢true h)
no_side (b ∷ []) h = grind (arith, nat_tests, h)
no_side (b ∷ c ∷ bs) h = grind (arith, nat_tests, h)

-- nor is a word of a gap one that names a side
pub no_gap_word : (word : List ℕ) (s : Side) → side_of word ≡ Some s → is_gap_word word ≡ false
no_gap_word word s h = at (is_gap_word word) refl
  where
    at : (b : Bool) → is_gap_word word ≡ b → is_gap_word word ≡ false
    at true e = absurd (let both : None ≡ Some s = sym (no_side word e) ∙ h in cc)
    at false e = e

-- by whether the words are those of a gap
abbrev numbered_by : RowWords → ℕ → Bool → Option Row
numbered_by w n b = elim b [ true ↦ gap_row w n | false ↦ packet_row w n ]

-- the row of a packet, by its side and its octets
pub packet_written : (w : RowWords) (n : ℕ) (s : Side) (xs : List ℕ) → side_of w.side ≡ Some s → octets_of w.hex ≡ Some xs
    → row_numbered w n ≡ Some (record { number = n; side = s; octets = xs; gap = None })
packet_written w n s xs e f =
    ap (numbered_by w n) (no_gap_word w.side s e)
    ∙ ap₂ (λ (a : Option Side) (b : Option (List ℕ)). option_and_then (λ s. option_map (λ (o : List ℕ). let row : Row = record { number = n; side = s; octets = o; gap = None } in row) b) a) e f

-- the row with a number that some words write
pub record RowThere (i : Interface) (w : RowWords) (n : ℕ) : Type 0 where
  pub row : Row
  pub is : row_numbered w n ≡ Some row
  pub number : row.number ≡ n
  pub lawful : IsRow i row
  pub octets : (row.octets ≡ []) ⊎ (octets_of w.hex ≡ Some row.octets)

packet_there : (i : Interface) (w : RowWords) (n : ℕ) → packet_kind w ≡ None → RowThere i w n
packet_there i w n sound = at (side_of w.side) (octets_of w.hex) refl refl sound
  where
    at : (side : Option Side) (octets : Option (List ℕ)) → side_of w.side ≡ side → octets_of w.hex ≡ octets → cond (is_none side) (Some SideKind) (cond (is_none octets) (Some Hex) None) ≡ None → RowThere i w n
    at None octets e f k = cc
    at (Some s) None e f k = cc
    at (Some s) (Some xs) e f k = record { row = record { number = n; side = s; octets = xs; gap = None }; is = packet_written w n s xs e f; number = refl; lawful = tt; octets = inr f }

gap_there : (i : Interface) (w : RowWords) (n : ℕ) → i.gaps ≡ true → is_gap_word w.side ≡ true → gap_kind i.svc w ≡ None → RowThere i w n
gap_there i w n recorded word sound = at (gap_in w.hex) refl sound
  where
    within : (g : Option ℕ) → is_within i.svc g ≡ true → IfSome g (λ k. (1 ≤ k) × (k ≤ i.svc))
    within None e = tt
    within (Some m) e = (grind (arith, nat_tests, e), grind (arith, nat_tests, e))

    named : (g : Option ℕ) (b : Bool) → gap_in w.hex ≡ Some g → is_within i.svc g ≡ b → cond (is_none (cond b (Some g) None)) (Some Hex) None ≡ None → RowThere i w n
    named g false e f k = cc
    named g true e f k = record {
      row = record { number = n; side = T; octets = []; gap = Some g };
      is = ap (numbered_by w n) word ∙ ap (λ (gap : Option (Option ℕ)). option_map (λ (g : Option ℕ). let row : Row = record { number = n; side = T; octets = []; gap = Some g } in row) gap) e;
      number = refl;
      lawful = record { recorded = recorded; within = within g f; side = refl; octets = refl };
      octets = inl refl;
    }

    at : (gap : Option (Option ℕ)) → gap_in w.hex ≡ gap → cond (is_none (option_and_then (λ g. cond (is_within i.svc g) (Some g) None) gap)) (Some Hex) None ≡ None → RowThere i w n
    at None e k = cc
    at (Some g) e k = named g (is_within i.svc g) e refl k

-- words without a fault write a row
pub row_there : (i : Interface) (w : RowWords) (n : ℕ) → kind_behind i w ≡ None → RowThere i w n
row_there i w n sound = at i.gaps (is_gap_word w.side) refl refl sound
  where
    at : (gaps word : Bool) → i.gaps ≡ gaps → is_gap_word w.side ≡ word → (elim (gaps && word) as (λ _. Option Kind) [ true ↦ gap_kind i.svc w | false ↦ packet_kind w ]) ≡ None → RowThere i w n
    at true true e f k = gap_there i w n e f k
    at true false e f k = packet_there i w n k
    at false false e f k = packet_there i w n k
    at false true e f k =
        let broken : packet_kind w ≡ Some SideKind = ap (λ (o : Option Side). cond (is_none o) (Some SideKind) (cond (is_none (octets_of w.hex)) (Some Hex) None)) (no_side w.side f) in
        absurd (let both : Some SideKind ≡ None = sym broken ∙ k in cc)

row_lawful : (i : Interface) (last : ℕ) (l : Line) (r : Row) → row_kind i last l ≡ None → row_of l ≡ Some r → IsRow i r
unfolding row_kind row_of
row_lawful i last l r sound writes = at (row_words l) sound writes
  where
    behind : (w : RowWords) (b : Bool) → cond b (Some Number) (kind_behind i w) ≡ None → kind_behind i w ≡ None
    behind w true e = cc
    behind w false e = e

    numbered : (w : RowWords) (number : Option ℕ) → kind_behind i w ≡ None → option_and_then (row_numbered w) number ≡ Some r → IsRow i r
    numbered w None s k = cc
    numbered w (Some n) s k = let there = row_there i w n s in let same : there.row ≡ r = (let both : Some there.row ≡ Some r = sym there.is ∙ k in cc) in subst (IsRow i) same there.lawful

    at : (o : Option RowWords) → (elim o as (λ _. Option Kind) [ None ↦ Some LineForm | Some w ↦ words_kind i last w ]) ≡ None
        → option_and_then (λ w. option_and_then (row_numbered w) (number_of w.number)) o ≡ Some r → IsRow i r
    at None s k = cc
    at (Some w) s k = numbered w (number_of w.number) (behind w _ s) k

-- ---- lines without a fault

-- the contents of each of some lines have no fault after the lines before it
abbrev AreSound : List Line → List Line → Type 0
AreSound before [] = Unit {0}
AreSound before (l ∷ ls) = (form_kind before l ≡ None) × AreSound (before ++ l ∷ []) ls

sound_take : (n : ℕ) (before ls : List Line) → AreSound before ls → AreSound before (take n ls)
sound_take zero before [] s = tt
sound_take zero before (l ∷ ls) s = tt
sound_take (suc n) before [] s = tt
sound_take (suc n) before (l ∷ ls) s = (s.0, sound_take n (before ++ l ∷ []) ls s.1)

sound_good : (o : Option (ℕ × Kind)) (ls : List Line) → AreSound [] ls → AreSound [] (good_lines o ls)
sound_good None ls s = s
sound_good (Some at) ls s = sound_take (at.0 - 1) [] ls s

sound_append : (before xs ys : List Line) → AreSound before xs → AreSound (before ++ xs) ys → AreSound before (xs ++ ys)
sound_append before [] ys s t = subst (λ b. AreSound b ys) (append-nil before) t
sound_append before (x ∷ xs) ys s t = (s.0, sound_append (before ++ x ∷ []) xs ys s.1 (subst (λ b. AreSound b ys) (sym (append_assoc before (x ∷ []) xs)) t))

-- of a line and those after it by the fault of the line
abbrev first_of : List Line → Line → List Line → Option Kind → Option (ℕ × Kind)
first_of before l ls o = elim o [ Some kind ↦ Some (length before + 1, kind) | None ↦ first_fault (before ++ l ∷ []) ls ]

sound_all : (before ls : List Line) → first_fault before ls ≡ None → AreSound before ls
sound_all before [] h = tt
sound_all before (l ∷ ls) h = here (line_kind before 1 l) refl h (sound_all (before ++ l ∷ []) ls)
  where
    here : (o : Option Kind) → line_kind before 1 l ≡ o → first_of before l ls o ≡ None
        → (first_fault (before ++ l ∷ []) ls ≡ None → AreSound (before ++ l ∷ []) ls) → AreSound before (l ∷ ls)
    here (Some kind) e k later = cc
    here None e k later = ((both_none _ _ e).1, later k)

sound_before : (before ls : List Line) (at : ℕ × Kind) → first_fault before ls ≡ Some at → AreSound before (take (at.0 - 1 - length before) ls)
sound_before before [] at h = cc
sound_before before (l ∷ ls) at h = here (line_kind before 1 l) refl h (sound_before (before ++ l ∷ []) ls at)
  where
    here : (o : Option Kind) → line_kind before 1 l ≡ o → first_of before l ls o ≡ Some at
        → (first_fault (before ++ l ∷ []) ls ≡ Some at → AreSound (before ++ l ∷ []) (take (at.0 - 1 - length (before ++ l ∷ [])) ls))
        → AreSound before (take (at.0 - 1 - length before) (l ∷ ls))
    here (Some kind) e k later =
        let same : (length before + 1, kind) ≡ at = cc in
        let place : length before + 1 ≡ at.0 = ap (λ (q : ℕ × Kind). q.0) same in
        let none : 0 ≡ at.0 - 1 - length before = omega (arith, place) in
        subst (λ n. AreSound before (take n (l ∷ ls))) none tt
    here None e k later =
        let far = above form_kind (before ++ l ∷ []) ls at (first_is (before ++ l ∷ []) ls ∙ k) in
        let one : suc (at.0 - 1 - length (before ++ l ∷ [])) ≡ at.0 - 1 - length before = omega (arith, far, length-append before (l ∷ [])) in
        subst (λ n. AreSound before (take n (l ∷ ls))) one ((both_none _ _ e).1, later k)

-- from the first line on
sound_front : (ls : List Line) (at : ℕ × Kind) → first_fault [] ls ≡ Some at → AreSound [] (take (at.0 - 1) ls)
sound_front ls at h =
    let none : List Line = [] in
    let same : at.0 - 1 - length none ≡ at.0 - 1 = omega arith in
    subst (λ n. AreSound [] (take n ls)) same (sound_before [] ls at h)

-- the lines that ended, before the first fault of these
sound_ended : (text : List ℕ) → AreSound [] (good_lines (early text) (ended_lines text))
unfolding early
sound_ended text = at (first_fault [] (ended_lines text)) refl
  where
    at : (o : Option (ℕ × Kind)) → first_fault [] (ended_lines text) ≡ o
        → AreSound [] (good_lines (option_or o (option_map (λ kind. (length (ended_lines text) + 1, kind)) (size_kind (size_of (ended_lines text)) 0 (length (begun_line text))))) (ended_lines text))
    at (Some f) h = sound_front (ended_lines text) f h
    at None h = sound_good (option_map (λ kind. (length (ended_lines text) + 1, kind)) (size_kind (size_of (ended_lines text)) 0 (length (begun_line text)))) (ended_lines text) (sound_all [] (ended_lines text) h)

-- the lines of an input before its first fault
sound_lines : (text : List ℕ) → AreSound [] (good_lines (fault text) (lines_of text))
unfolding fault
sound_lines text = at (first_fault [] es) refl
  where
    es : List Line
    es = ended_lines text

    more : Option (ℕ × Kind)
    more = elim (content_of (es ++ line_or_none (begun_line text))) [ [] ↦ Some (length (es ++ line_or_none (begun_line text)) + 1, HeaderMissing) | l ∷ ls ↦ None ]

    with_begun : (b : Line) → first_fault [] es ≡ None → begun_kind es b ≡ None → AreSound [] (es ++ line_or_none b)
    with_begun [] h k = subst (AreSound []) (sym (append-nil es)) (sound_all [] es h)
    with_begun (c ∷ cs) h k = sound_append [] es ((c ∷ cs) ∷ []) (sound_all [] es h) ((both_none _ _ k).1, tt)

    by_begun : (o : Option Kind) → begun_kind es (begun_line text) ≡ o → first_fault [] es ≡ None
        → AreSound [] (good_lines (option_or (option_map (λ kind. (length es + 1, kind)) o) more) (es ++ line_or_none (begun_line text)))
    by_begun (Some kind) k h =
        let n : length es + 0 ≡ length es + 1 - 1 = omega arith in
        subst (AreSound []) (sym (take-append-add es (line_or_none (begun_line text)) 0) ∙ ap (λ m. take m (es ++ line_or_none (begun_line text))) n)
        (subst (λ ms. AreSound [] (es ++ ms)) (sym (take_zero (line_or_none (begun_line text)))) (subst (AreSound []) (sym (append-nil es)) (sound_all [] es h)))
    by_begun None k h = sound_good more (es ++ line_or_none (begun_line text)) (with_begun (begun_line text) h k)

    at : (o : Option (ℕ × Kind)) → first_fault [] es ≡ o → AreSound [] (good_lines (option_or o (end_kind es (begun_line text))) (lines_of text))
    at (Some f) h =
        sound_front (lines_of text) f
        (first_fault-append [] es (line_or_none (begun_line text)) ∙ ap (λ o. option_or o (first_fault es (line_or_none (begun_line text)))) h)
    at None h = by_begun (begun_kind es (begun_line text)) refl h

-- ---- the rows of lines without a fault

-- after the header
behind_header : (i : Interface) (before ls : List Line) → head_of before ≡ Some i → AreSound before ls → AreRows i (filter_map row_of (content_of ls))
unfolding head_of contents_kind
behind_header i before [] h s = tt
behind_header i before (l ∷ ls) h s = at (is_comment l) refl (behind_header i (before ++ l ∷ []) ls later s.1)
  where
    kept : (xs ys : List Line) → head_in xs ≡ Some i → head_in (xs ++ ys) ≡ Some i
    kept [] ys e = absurd (cc)
    kept (x ∷ xs) ys e = e

    later : head_in (content_of (before ++ l ∷ [])) ≡ Some i
    later = ap head_in (content_append before (l ∷ [])) ∙ kept (content_of before) (content_of (l ∷ [])) h

    written : (o : Option Row) → row_of l ≡ o → row_kind i (last_number before) l ≡ None → AreRows i (filter_map row_of (content_of ls)) → AreRows i (cons_option o (filter_map row_of (content_of ls)))
    written None e k rest = rest
    written (Some r) e k rest = (row_lawful i (last_number before) l r k e, rest)

    at : (b : Bool) → is_comment l ≡ b → AreRows i (filter_map row_of (content_of ls)) → AreRows i (filter_map row_of (cond (not b) (l ∷ content_of ls) (content_of ls)))
    at true e rest = rest
    at false e rest =
        let sound : row_kind i (last_number before) l ≡ None =
        sym (ap (λ b. cond b None (elim (head_in (content_of before)) as (λ _. Option Kind) [ None ↦ header_kind l | Some j ↦ row_kind j (last_number before) l ])) e
        ∙ ap (λ (o : Option Interface). elim o as (λ _. Option Kind) [ None ↦ header_kind l | Some j ↦ row_kind j (last_number before) l ]) h) ∙ s.0 in
        written (row_of l) refl sound rest

-- from the first line on
from_first : (i : Interface) (before ls : List Line) → content_of before ≡ [] → head_of ls ≡ Some i → AreSound before ls → AreRows i (rows_in ls)
unfolding head_of rows_in
from_first i before [] none h s = cc
from_first i before (l ∷ ls) none h s = at (is_comment l) refl h (from_first i (before ++ l ∷ []) ls)
  where
    at : (b : Bool) → is_comment l ≡ b → head_in (cond (not b) (l ∷ content_of ls) (content_of ls)) ≡ Some i
        → (content_of (before ++ l ∷ []) ≡ [] → head_in (content_of ls) ≡ Some i → AreSound (before ++ l ∷ []) ls → AreRows i (filter_map row_of (drop 1 (content_of ls))))
        → AreRows i (filter_map row_of (drop 1 (cond (not b) (l ∷ content_of ls) (content_of ls))))
    at true e k later = later (content-comment before l e ∙ none) k s.1
    at false e k later = behind_header i (before ++ l ∷ []) ls (ap head_in (content-line before l e ∙ ap (λ ls. ls ++ l ∷ []) none) ∙ k) s.1

pub rows_law : RowsLaw
unfolding head rows
rows_law text i h = from_first i [] (good_lines (fault text) (lines_of text)) refl h (sound_lines text)

pub first_rows_law : FirstRowsLaw
unfolding early_head early_rows
first_rows_law text i h = from_first i [] (good_lines (early text) (ended_lines text)) refl h (sound_ended text)
