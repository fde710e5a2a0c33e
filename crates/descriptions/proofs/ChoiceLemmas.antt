-- Which rows are printed, line by line.
use Rattle.std.proofs.Common.{◌≡◌, ◌≢◌, ◌∙◌, sym, ap, subst, refl, Bool, true, false, not, ◌&&◌, cond, List, [], ◌∷◌, ◌++◌, length, length-append, drop, Option, Some, None, IfSome, Result, Ok, Err, OnOk, arith, append-nil}
use Rattle.std.specs.List.{filter_map}
use Rattle.std.specs.Prelude.{MatchOption}
use Rattle.std.specs.Option.{is_some, option_map, option_to_list}
use Rattle.std.proofs.lemmas.List.Elements.{filter_map-append}
use Rattle.line_model.specs.declared.interface.Interface.{Interface}
use Rattle.line_model.specs.basics.Records.{Item, Row}
use Rattle.line_model.specs.packets.Says.{item_of, items_of}
use Rattle.line_model.proofs.Saying.{items_more}
use Rattle.line_model.specs.text.RowLine.{row_of}
use Rattle.line_model.specs.text.Text.{Line, content_of, has_header, head_in, head_of, is_comment, is_some_line, rows_in}
use Rattle.line_model.proofs.LineLemmas.{content-line, head-comment, head-later, no_content, rows_in-comment, rows_in-first}
use Rattle.annotated_trace.specs.Rows.{is_chosen, is_chosen_if, row_written}
use Rattle.annotated_trace.specs.Marking.{IsPickedRightly}
use Rattle.annotated_trace.specs.declared.rows.Rows.{Rows}
use Rattle.annotated_trace.specs.declared.rows.Rows.TheVariants.{All, Chosen as Some_rows}
use Rattle.descriptions.specs.CallRows.{Follows}
use Rattle.descriptions.specs.declared.chosen.Chosen.{Chosen}
use Rattle.descriptions.specs.Choosing.{HasChosen, picked_where}
use Rattle.descriptions.specs.RowObjects.{OfRows}

-- ---- the row of a line

pub no_rows : rows_in [] ≡ []
unfolding rows_in
no_rows = refl

drop_later : (ls : List Line) (l : Line) → is_some_line ls ≡ true → drop 1 (ls ++ l ∷ []) ≡ drop 1 ls ++ l ∷ []
drop_later [] l h = cc
drop_later (m ∷ ls) l h = refl

one_mapped : (l : Line) (o : Option Row) → row_of l ≡ o → filter_map row_of (l ∷ []) ≡ option_to_list o
one_mapped l None h = rw h refl
one_mapped l (Some r) h = rw h refl

later_rows : (ls : List Line) (l : Line) → is_comment l ≡ false → has_header ls ≡ true → rows_in (ls ++ l ∷ []) ≡ rows_in ls ++ option_to_list (row_of l)
unfolding rows_in has_header
later_rows ls l c h =
    ap (λ x. filter_map row_of (drop 1 x)) (content-line ls l c) ∙ ap (filter_map row_of) (drop_later (content_of ls) l h)
    ∙ filter_map-append row_of (drop 1 (content_of ls)) (l ∷ []) ∙ ap (λ x. filter_map row_of (drop 1 (content_of ls)) ++ x) (one_mapped l (row_of l) refl)

no_row_in : (ls : List Line) (l : Line) (a : Bool) → is_comment l ≡ true → has_header ls ≡ a → row_written ls l ≡ None
no_row_in ls l true c h = λ t. cond (h t && not (c t)) (row_of l) None
no_row_in ls l false c h = ap (λ b. cond (b && not (is_comment l)) (row_of l) None) h

-- the rows that lines write, with one more line
pub rows_written : (ls : List Line) (l : Line) → rows_in (ls ++ l ∷ []) ≡ rows_in ls ++ option_to_list (row_written ls l)
rows_written ls l = by (is_comment l) (has_header ls) refl refl
  where
    nothing : row_written ls l ≡ None → rows_in ls ≡ rows_in ls ++ option_to_list (row_written ls l)
    nothing e = sym (append-nil (rows_in ls)) ∙ ap (λ o. rows_in ls ++ option_to_list o) (sym e)

    by : (c h : Bool) → is_comment l ≡ c → has_header ls ≡ h → rows_in (ls ++ l ∷ []) ≡ rows_in ls ++ option_to_list (row_written ls l)
    by true h is headed = rows_in-comment ls l is ∙ nothing (no_row_in ls l h is headed)
    by false false is headed = rows_in-first ls l is headed ∙ nothing (ap (λ b. cond (b && not (is_comment l)) (row_of l) None) headed)
    by false true is headed = later_rows ls l is headed ∙ ap (λ o. rows_in ls ++ option_to_list o) (sym (λ t. cond (headed t && not (is t)) (row_of l) None))

-- where a line writes a row, a header comes before it
pub written_row : (ls : List Line) (l : Line) (r : Row) → row_written ls l ≡ Some r → row_of l ≡ Some r
written_row ls l r h = by (has_header ls && not (is_comment l)) h
  where
    by : (b : Bool) → cond b (row_of l) None ≡ Some r → row_of l ≡ Some r
    by true h = h
    by false h = cc

pub headed_row : (ls : List Line) (l : Line) (r : Row) → row_written ls l ≡ Some r → head_of (ls ++ l ∷ []) ≡ head_of ls
headed_row ls l r e = by (is_comment l) (has_header ls) refl refl
  where
    by : (c h : Bool) → is_comment l ≡ c → has_header ls ≡ h → head_of (ls ++ l ∷ []) ≡ head_of ls
    by true h is headed = head-comment ls l is
    by false true is headed = head-later ls l is headed
    by false false is headed = absurd (let bad : None ≡ Some r = sym (ap (λ b. cond (b && not (is_comment l)) (row_of l) None) headed) ∙ e in cc)

no_head : (ls : List Line) → has_header ls ≡ false → head_of ls ≡ None
unfolding head_of
no_head ls h = ap head_in (no_content ls h)

pub head_kept : (ls : List Line) (l : Line) (i : Interface) → IfSome (head_of (ls ++ l ∷ [])) (λ j. j ≡ i) → IfSome (head_of ls) (λ j. j ≡ i)
head_kept ls l i h = by (is_comment l) (has_header ls) refl refl
  where
    by : (c b : Bool) → is_comment l ≡ c → has_header ls ≡ b → IfSome (head_of ls) (λ j. j ≡ i)
    by true b is headed = subst (λ o. IfSome o (λ j. j ≡ i)) (head-comment ls l is) h
    by false true is headed = subst (λ o. IfSome o (λ j. j ≡ i)) (head-later ls l is headed) h
    by false false is headed = subst (λ o. IfSome o (λ j. j ≡ i)) (sym (no_head ls headed)) tt

-- ---- whether there is one

pub none_written : (rows : List Row) (o : Option Row) → length (rows ++ option_to_list o) ≡ length rows → o ≡ None
none_written rows None h = refl
none_written rows (Some r) h = absurd (omega (arith, h, length-append rows (r ∷ [])))

pub no_rows_written : (rows : List Row) (o : Option Row) → rows ++ option_to_list o ≡ [] → o ≡ None
no_rows_written rows None h = refl
no_rows_written rows (Some r) h = absurd (omega (arith, ap (λ (l : List Row). length l) h, length-append rows (r ∷ [])))

pub one_written : (rows : List Row) (o : Option Row) → length (rows ++ option_to_list o) ≢ length rows → (r : Row) × (o ≡ Some r)
one_written rows None h = absurd (h (ap (λ l. length l) (append-nil rows)))
one_written rows (Some r) h = (r, refl)

-- what the rows of a text say, with the row of the line after others
pub items_written : (i : Interface) (rows before : List Row) (r : Row) → rows ≡ before ++ r ∷ [] → items_of i rows ≡ items_of i before ++ item_of i r ∷ []
items_written i rows before r same = ap (items_of i) same ∙ items_more i before (r ∷ [])

-- ---- what is answered

pub picked_none : (rows : Rows) (i : Option Interface) (before : List Row) (o : Option Row) → o ≡ None → None ≡ picked_where rows i before o
picked_none rows i before o e = ap (picked_where rows i before) (sym e)

pub picked_some : (rows : Rows) (head : Option Interface) (i : Interface) (before : List Row) (o : Option Row) (r : Row) (picked : Bool) → head ≡ Some i → o ≡ Some r → picked ≡ is_chosen rows i (items_of i before) (item_of i r) → Some picked ≡ picked_where rows head before o
picked_some rows head i before o r picked h e is = ap (λ b. Some b) is ∙ sym (λ t. picked_where rows (h t) before (e t))

-- what is said where no row is printed
pub not_picked : (rows : Rows) (head : Option Interface) (before : List Row) (o : Option Row) → None ≡ picked_where rows head before o → false ≡ is_chosen_if rows head before o
not_picked rows None before None h = refl
not_picked rows (Some i) before None h = refl
not_picked rows head before (Some r) h = absurd (let bad : None ≡ Some (is_chosen_if rows head before (Some r)) = h in cc)

pub picked_as : (rows : Rows) (head : Option Interface) (before : List Row) (o : Option Row) (picked : Bool) → Some picked ≡ picked_where rows head before o → picked ≡ is_chosen_if rows head before o
picked_as rows head before None picked h = absurd (let bad : Some picked ≡ None = h in cc)
picked_as rows head before (Some r) picked h = same picked (is_chosen_if rows head before (Some r)) h
  where
    same : (a b : Bool) → Some a ≡ Some b → a ≡ b
    same a b e = cc

-- what the describer says

pub rightly_none : (rows : Rows) (before : List Line) (l : Line) → None ≡ picked_where rows (head_of before) (rows_in before) (row_written before l) → IsPickedRightly rows before l false
rightly_none All before l h = λ chosen. not_picked All (head_of before) (rows_in before) (row_written before l) h ∙ chosen
rightly_none (Some_rows channel call) before l h = not_picked (Some_rows channel call) (head_of before) (rows_in before) (row_written before l) h

pub rightly_some : (rows : Rows) (before : List Line) (l : Line) (picked : Bool) → Some picked ≡ picked_where rows (head_of before) (rows_in before) (row_written before l) → IsPickedRightly rows before l picked
rightly_some All before l picked h = λ chosen. picked_as All (head_of before) (rows_in before) (row_written before l) picked h ∙ chosen
rightly_some (Some_rows channel call) before l picked h = picked_as (Some_rows channel call) (head_of before) (rows_in before) (row_written before l) picked h

-- ---- what is known of options

pub none_is : {T : Type 0} (o : Option T) → ((x : T) → ¬ (o ≡ Some x)) → None ≡ o
none_is None h = refl
none_is (Some x) h = absurd (h x refl)

pub none_mapped : {T U : Type 0} (f : T → U) (o : Option T) → ((x : T) → ¬ (o ≡ Some x)) → option_map f o ≡ None
none_mapped f None h = refl
none_mapped f (Some x) h = absurd (h x refl)

pub some_one : {T : Type 0} (o : Option T) (P : T → Type 0) → MatchOption o ⊥ P → ((x : T) → ¬ (o ≡ Some x)) → ⊥
some_one None P h none = h
some_one (Some x) P h none = none x refl

pub head_is : (o : Option Interface) (i : Interface) → o ≡ Some i → IfSome o (λ j. j ≡ i)
head_is o i h = subst (λ x. IfSome x (λ j. j ≡ i)) (sym h) refl

pub some_is : (o : Option Interface) (i : Interface) → o ≡ Some i → is_some o ≡ true
some_is o i h = ap is_some h

pub same_head : (o : Option Interface) (i j : Interface) → o ≡ Some i → IfSome o (λ x. x ≡ j) → i ≡ j
same_head o i j h k = subst (λ x. IfSome x (λ y. y ≡ j)) h k

-- ---- a line that writes no row

pub chosen_same : (before : List Line) (l : Line) (c : Chosen) → HasChosen before c → row_written before l ≡ None → HasChosen (before ++ l ∷ []) c
chosen_same before l c h none =
    let same : rows_in (before ++ l ∷ []) ≡ rows_in before = rows_written before l ∙ ap (λ o. rows_in before ++ option_to_list o) none ∙ append-nil (rows_in before) in
    record {
      packets = h.packets ∙ ap (λ rs. length rs) (sym same);
      number = h.number;
      call = λ i head. subst (λ rs. Follows i (items_of i rs) c.call) (sym same) (h.call i (head_kept before l i head));
    }

-- ---- what is kept of the rows of lines

pub rows_begun : (K : Interface → List Item → Type 0) → ((i : Interface) → K i []) → OfRows [] K
rows_begun K h i head = subst (λ rows. K i (items_of i rows)) (sym no_rows) (h i)

pub rows_same : (K : Interface → List Item → Type 0) (before : List Line) (l : Line) → OfRows before K → row_written before l ≡ None → OfRows (before ++ l ∷ []) K
rows_same K before l h none i head =
    subst (λ rs. K i (items_of i rs)) (sym (rows_written before l ∙ ap (λ o. rows_in before ++ option_to_list o) none ∙ append-nil (rows_in before))) (h i (head_kept before l i head))

-- the row that a line writes, where one is printed or not
pub written_by : (rows : Rows) (head : Option Interface) (earlier : List Row) (o : Option Row) (picked : Bool) → Some picked ≡ picked_where rows head earlier o → (r : Row) × (o ≡ Some r)
written_by rows head earlier None picked h = absurd (let bad : Some picked ≡ None = h in cc)
written_by rows head earlier (Some r) picked h = (r, refl)

pub unwritten_by : (rows : Rows) (head : Option Interface) (earlier : List Row) (o : Option Row) → None ≡ picked_where rows head earlier o → o ≡ None
unwritten_by rows head earlier None h = refl
unwritten_by rows head earlier (Some r) h = absurd (let bad : None ≡ Some (is_chosen_if rows head earlier (Some r)) = h in cc)

headed_by : (o : Option Interface) (i : Interface) → is_some o ≡ true → IfSome o (λ j. j ≡ i) → o ≡ Some i
headed_by None i h k = cc
headed_by (Some j) i h k = ap (λ x. Some x) k

pub rows_more : {T E : Type 0} (K Q : Interface → List Item → Type 0) (result : Result T E) (rows : Rows) (before : List Line) (l : Line) (picked : Bool) → Some picked ≡ picked_where rows (head_of before) (rows_in before) (row_written before l) → is_some (head_of before) ≡ true → OfRows before K
    → ((i : Interface) (r : Row) → head_of before ≡ Some i → row_written before l ≡ Some r → K i (items_of i (rows_in before)) → OnOk result (Q i (items_of i (rows_in before) ++ item_of i r ∷ [])))
    → OnOk result (OfRows (before ++ l ∷ []) Q)
rows_more K Q (Err x) rows before l picked picks headed h step = tt
rows_more K Q (Ok x) rows before l picked picks headed h step = λ i head.
    let one = written_by rows (head_of before) (rows_in before) (row_written before l) picked picks in
    let known = head_kept before l i head in
    let all : rows_in (before ++ l ∷ []) ≡ rows_in before ++ one.0 ∷ [] = rows_written before l ∙ ap (λ o. rows_in before ++ option_to_list o) one.1 in
    subst (Q i) (sym (items_written i (rows_in (before ++ l ∷ [])) (rows_in before) one.0 all))
    (step i one.0 (headed_by (head_of before) i headed known) one.1 (h i known))

pub both_ok : {T E : Type 0} {P : Type 0} (Q : Type 0) (result : Result T E) → P → OnOk result Q → OnOk result (P × Q)
both_ok Q (Ok x) p q = (p, q)
both_ok Q (Err x) p q = tt

pub middle_ok : {T E : Type 0} {P R : Type 0} (Q : Type 0) (result : Result T E) → P → OnOk result Q → R → OnOk result (P × Q × R)
middle_ok Q (Ok x) p q r = (p, q, r)
middle_ok Q (Err x) p q r = tt

pub last_ok : {T E : Type 0} {P Q : Type 0} (R : Type 0) (result : Result T E) → P → Q → OnOk result R → OnOk result (P × Q × R)
last_ok R (Ok x) p q r = (p, q, r)
last_ok R (Err x) p q r = tt
