-- The rows that were returned where a text is refused: those of the lines before the faulty one.
use Rattle.std.proofs.Common.{◌≡◌, ◌∙◌, sym, ap, refl, ℕ, ◌+◌, ◌-◌, ◌<◌, ◌≤◌, Bool, true, false, List, [], ◌∷◌, ◌++◌, length, Option, Some, None, Result, Ok, Err, take, drop, cond, ◌⊎◌, inl, inr, arith, append_assoc, append-nil, length-append}
use Rattle.std.specs.Prelude.{IfSome, not}
use Rattle.std.specs.Option.{option_or, option_map}
use Rattle.std.specs.List.{filter_map}
use Rattle.std.proofs.lemmas.Bool.{eqb-true}
use Rattle.std.proofs.lemmas.List.Elements.{filter_map-append}
use Rattle.std.proofs.Math.Seq.{take-append_seam, take-append-add}
use Rattle.line_model.specs.basics.Records.{Row}
use Rattle.line_model.specs.declared.interface.Interface.{Interface}
use Rattle.line_model.specs.text.RowLine.{row_of}
use Rattle.line_model.specs.text.Text.{Line, is_lf, is_comment, content_of, early, early_head, early_rows, head, head_in, head_of, ended_lines, begun_line, first_fault, good_lines, line_kind, rows_in}
use Rattle.line_model.specs.declared.fault.Kind.{Kind}
use Rattle.line_model.specs.declared.fault.Fault.{Fault}
use Rattle.line_model.specs.declared.fault.Fault.TheVariants.{Memory, Trace, Read, Write, Start, Double, UnknownPiece, Missing}
use Rattle.line_model.proofs.TextLemmas.{ended-lf, ended-more, first_fault-append}
use Rattle.line_model.proofs.TextRows.{early_head_law}
use Rattle.trace_text.specs.Progress.{Progress}
use Rattle.trace_text.specs.Represents.{Represents, AreKnown, HasAppended, IsAppended, IsFaultOf, AreAppended, IsHeadKept, IsAtLine}
use Rattle.trace_text.proofs.FeedLemmas.{no_fault}

-- a text that goes on has more lines
one_more : (v : Bool) (b : ℕ) → v ≡ is_lf b → (text : List ℕ) → (ls : List Line) × (ended_lines (text ++ b ∷ []) ≡ ended_lines text ++ ls)
one_more true b e text = (begun_line text ∷ [], ap (λ x. ended_lines (text ++ x ∷ [])) (eqb-true b 10 (sym e)) ∙ ended-lf text)
one_more false b e text = ([], ended-more text (b ∷ []) (rw (← e) refl) ∙ sym (append-nil _))

pub more_lines : (text more : List ℕ) → (ls : List Line) × (ended_lines (text ++ more) ≡ ended_lines text ++ ls)
more_lines text [] = ([], ap ended_lines (append-nil text) ∙ sym (append-nil _))
more_lines text (b ∷ more) =
    let first = one_more (is_lf b) b refl text in
    let then = more_lines (text ++ b ∷ []) more in
    (first.0 ++ then.0, ap ended_lines (sym (append_assoc text (b ∷ []) more)) ∙ then.1 ∙ ap (λ ls. ls ++ then.0) first.1 ∙ append_assoc (ended_lines text) first.0 then.0)

content_both : (v : Bool) (l : Line) (xs ys zs : List Line) → zs ≡ xs ++ ys → cond v (l ∷ zs) zs ≡ cond v (l ∷ xs) xs ++ ys
content_both true l xs ys zs h = ap (λ ls. l ∷ ls) h
content_both false l xs ys zs h = h

pub content_of-append : (xs ys : List Line) → content_of (xs ++ ys) ≡ content_of xs ++ content_of ys
content_of-append [] ys = refl
content_of-append (x ∷ xs) ys = content_both (not (is_comment x)) x (content_of xs) (content_of ys) _ (content_of-append xs ys)

rows_after_header : (xs ys : List Line) → (more : List Row) × (filter_map row_of (drop 1 (xs ++ ys)) ≡ filter_map row_of (drop 1 xs) ++ more)
rows_after_header [] ys = (filter_map row_of (drop 1 ys), refl)
rows_after_header (x ∷ xs) ys = (filter_map row_of ys, filter_map-append row_of xs ys)

-- more lines have more rows
pub more_rows : (xs ys : List Line) → (more : List Row) × (rows_in (xs ++ ys) ≡ rows_in xs ++ more)
unfolding rows_in
more_rows xs ys =
    let both = rows_after_header (content_of xs) (content_of ys) in
    (both.0, ap (λ ls. filter_map row_of (drop 1 ls)) (content_of-append xs ys) ∙ both.1)

-- a fault among the lines after the first n
abbrev IsAfter : ℕ → Option (ℕ × Kind) → Type 0
IsAfter n None = Unit {0}
IsAfter n (Some at) = n < at.0

take_more : (xs ys : List Line) (n : ℕ) → length xs ≤ n → take n (xs ++ ys) ≡ xs ++ take (n - length xs) ys
take_more xs ys n h = let e : n ≡ length xs + (n - length xs) = omega (arith, h) in ap (λ m. take m (xs ++ ys)) e ∙ take-append-add xs ys (n - length xs)

good_more : (at : Option (ℕ × Kind)) (xs ys : List Line) → IsAfter (length xs) at → (more : List Row) × (rows_in (good_lines at (xs ++ ys)) ≡ rows_in xs ++ more)
good_more None xs ys h = more_rows xs ys
good_more (Some at) xs ys h =
    let both = more_rows xs (take (at.0 - 1 - length xs) ys) in
    (both.0, ap rows_in (take_more xs ys (at.0 - 1) (omega arith)) ∙ both.1)

pub good_here : (kind : Kind) (line : ℕ) (xs ys : List Line) → line ≡ length xs + 1 → rows_in (good_lines (Some (line, kind)) (xs ++ ys)) ≡ rows_in xs
good_here kind line xs ys h = ap rows_in (ap (λ n. take n (xs ++ ys)) (omega (arith, h)) ∙ take-append_seam xs ys)

found_after : (o : Option Kind) (n line : ℕ) (p : Option (ℕ × Kind)) → n < line → IsAfter n p → IsAfter n (elim o [ Some kind ↦ Some (line, kind) | None ↦ p ])
found_after (Some k) n line p h i = h
found_after None n line p h i = i

after_less : (n m : ℕ) (p : Option (ℕ × Kind)) → n ≤ m → IsAfter m p → IsAfter n p
after_less n m None h i = tt
after_less n m (Some at) h i = omega (arith, i)

first_fault-after : (before xs : List Line) → IsAfter (length before) (first_fault before xs)
first_fault-after before [] = tt
first_fault-after before (x ∷ xs) =
    found_after (line_kind before 1 x) (length before) (length before + 1) _ (omega arith)
    (after_less (length before) (length (before ++ x ∷ [])) _ (omega (arith, length-append before (x ∷ []))) (first_fault-after (before ++ x ∷ []) xs))

or_after : (n : ℕ) (o p : Option (ℕ × Kind)) → IsAfter n o → IsAfter n p → IsAfter n (option_or o p)
or_after n None p h i = i
or_after n (Some at) p h i = h

at_line : (n line : ℕ) (o : Option Kind) → n < line → IsAfter n (option_map (λ kind. (line, kind)) o)
at_line n line None h = tt
at_line n line (Some k) h = h

-- where nothing is faulty so far, the fault of more text lies in later lines
early-after : (text more : List ℕ) → early text ≡ None → IsAfter (length (ended_lines text)) (early (text ++ more))
unfolding early
early-after text more h =
    let lines = more_lines text more in
    let none = no_fault text h in
    or_after (length (ended_lines text)) (first_fault [] (ended_lines (text ++ more))) _
    (rw (lines.1, first_fault-append [] (ended_lines text) lines.0, none) (first_fault-after (ended_lines text) lines.0))
    (at_line _ _ _ (omega (arith, ap (λ (ls : List Line). length ls) lines.1, length-append (ended_lines text) lines.0)))

pub rows_grow : (text more : List ℕ) → early text ≡ None → (others : List Row) × (early_rows (text ++ more) ≡ early_rows text ++ others)
unfolding early_rows
rows_grow text more h =
    let lines = more_lines text more in
    let both = good_more (early (text ++ more)) (ended_lines text) lines.0 (early-after text more h) in
    (both.0, ap (λ ls. rows_in (good_lines (early (text ++ more)) ls)) lines.1 ∙ both.1 ∙ ap (λ xs. xs ++ both.0) (ap (λ at. rows_in (good_lines at (ended_lines text))) (sym h)))

rows_stop : (text more : List ℕ) (line : ℕ) (kind : Kind) → early text ≡ None → line ≡ length (ended_lines text) + 1 → early (text ++ more) ≡ Some (line, kind) → early_rows (text ++ more) ≡ early_rows text
unfolding early_rows
rows_stop text more line kind h e k =
    let lines = more_lines text more in
    ap (λ at. rows_in (good_lines at (ended_lines (text ++ more)))) k ∙ ap (λ ls. rows_in (good_lines (Some (line, kind)) ls)) lines.1
    ∙ good_here kind line (ended_lines text) lines.0 e ∙ ap (λ at. rows_in (good_lines at (ended_lines text))) (sym h)

-- at a refusal the rows of the lines before the faulty one are known
pub known-here : (v : Progress) (text more : List ℕ) (f : Fault) → Represents v text → IsAtLine (v.ended + 1) f → IsFaultOf (early (text ++ more)) f → AreKnown (early_rows text) (early_rows (text ++ more)) f
known-here v text more Memory s l h = rows_grow text more s.sound
known-here v text more (Trace line kind) s l h = rows_stop text more line kind s.sound (l ∙ ap (λ n. n + 1) s.ended) h
known-here v text more Read s l h = absurd h
known-here v text more Write s l h = absurd h
known-here v text more Start s l h = absurd h
known-here v text more (Double i) s l h = absurd h
known-here v text more (UnknownPiece i) s l h = absurd h
known-here v text more (Missing i) s l h = absurd h

pub appended-none : (out known : List Row) → HasAppended out out known known
appended-none out known = record { more = []; out_has = sym (append-nil out); known_has = sym (append-nil known) }

-- so they were appended
pub refused-appended : (T : Type 0) (f : Fault) (out out' known known' all : List Row) → HasAppended out out' known known' → AreKnown known' all f → IsAppended {T = T} (Err f) out out' known all
refused-appended T Memory out out' known known' all a k = record { more = a.more; rest = k.0; out_has = a.out_has; known_has = k.1 ∙ ap (λ xs. xs ++ k.0) a.known_has }
refused-appended T (Trace line kind) out out' known known' all a k = record { more = a.more; out_has = a.out_has; known_has = k ∙ a.known_has }
refused-appended T Read out out' known known' all a k = absurd k
refused-appended T Write out out' known known' all a k = absurd k
refused-appended T Start out out' known known' all a k = absurd k
refused-appended T (Double i) out out' known known' all a k = absurd k
refused-appended T (UnknownPiece i) out out' known known' all a k = absurd k
refused-appended T (Missing i) out out' known known' all a k = absurd k

grown : (out out' first known known' : List Row) → HasAppended out out' known known' → out ≡ first ++ known → out' ≡ first ++ known'
grown out out' first known known' a e = a.out_has ∙ ap (λ xs. xs ++ a.more) e ∙ append_assoc first known a.more ∙ ap (λ xs. first ++ xs) (sym a.known_has)

-- a list that holds all earlier rows holds them all
pub appended-of : {T : Type 0} (r : Result T Fault) (out out' first known known' : List Row) → IsAppended r out out' known known' → out ≡ first ++ known → AreAppended r out' first known'
appended-of (Err Memory) out out' first known known' a e = (
  length (known ++ a.more),
  grown out out' first known (known ++ a.more) (record { more = a.more; out_has = a.out_has; known_has = refl }) e
      ∙ ap (λ xs. first ++ xs) (sym (ap (take (length (known ++ a.more))) a.known_has ∙ take-append_seam (known ++ a.more) a.rest)),
)
appended-of (Ok x) out out' first known known' a e = grown out out' first known known' a e
appended-of (Err f) out out' first known known' a e = grown out out' first known known' a e

first_stays : (xs ys : List Line) → (head_in xs ≡ None) ⊎ (head_in xs ≡ head_in (xs ++ ys))
first_stays [] ys = inl refl
first_stays (x ∷ xs) ys = inr refl

-- more lines have the same header, if it stands among them
head_stays : (xs ys : List Line) → (head_of xs ≡ None) ⊎ (head_of xs ≡ head_of (xs ++ ys))
unfolding head_of
head_stays xs ys = elim (first_stays (content_of xs) (content_of ys)) [
  | inl none ↦ inl none
  | inr same ↦ inr (same ∙ ap head_in (sym (content_of-append xs ys)))
]

head_more : (at : Option (ℕ × Kind)) (xs ys : List Line) → IsAfter (length xs) at → (head_of xs ≡ None) ⊎ (head_of xs ≡ head_of (good_lines at (xs ++ ys)))
head_more None xs ys h = head_stays xs ys
head_more (Some at) xs ys h =
    rw (take_more xs ys (at.0 - 1) (omega arith)) (head_stays xs (take (at.0 - 1 - length xs) ys))

pub head_grows : (text more : List ℕ) → early text ≡ None → (head_of (ended_lines text) ≡ None) ⊎ (head_of (ended_lines text) ≡ early_head (text ++ more))
unfolding early_head
head_grows text more h =
    let lines = more_lines text more in
    rw lines.1 (head_more (early (text ++ more)) (ended_lines text) lines.0 (early-after text more h))

head_stops : (text more : List ℕ) (line : ℕ) (kind : Kind) → line ≡ length (ended_lines text) + 1 → early (text ++ more) ≡ Some (line, kind) → head_of (ended_lines text) ≡ early_head (text ++ more)
unfolding early_head
head_stops text more line kind e k =
    let lines = more_lines text more in
    let here : take (line - 1) (ended_lines text ++ lines.0) ≡ ended_lines text = ap (λ n. take n (ended_lines text ++ lines.0)) (omega (arith, e)) ∙ take-append_seam (ended_lines text) lines.0 in
    sym (ap (λ at. head_of (good_lines at (ended_lines (text ++ more)))) k ∙ ap (λ ls. head_of (take (line - 1) ls)) lines.1 ∙ ap head_of here)

-- at a refusal the interface is that of the lines before the faulty one
pub head_stopped : (T : Type 0) (v : Progress) (text more : List ℕ) (f : Fault) (kept : Option Interface) → Represents v text → IsAtLine (v.ended + 1) f → IsFaultOf (early (text ++ more)) f → kept ≡ v.interface → IsHeadKept {T = T} (Err f) kept (early_head (text ++ more))
head_stopped T v text more Memory kept s l h e = elim (head_grows text more s.sound) [
  | inl none ↦ inl (e ∙ s.interface ∙ none)
  | inr same ↦ inr (e ∙ s.interface ∙ same)
]
head_stopped T v text more (Trace line kind) kept s l h e = e ∙ s.interface ∙ head_stops text more line kind (l ∙ ap (λ n. n + 1) s.ended) h
head_stopped T v text more Read kept s l h e = absurd h
head_stopped T v text more Write kept s l h e = absurd h
head_stopped T v text more Start kept s l h e = absurd h
head_stopped T v text more (Double i) kept s l h e = absurd h
head_stopped T v text more (UnknownPiece i) kept s l h e = absurd h
head_stopped T v text more (Missing i) kept s l h e = absurd h

-- what it represents says the interface
pub head_represents : (v : Progress) (text : List ℕ) → Represents v text → v.interface ≡ early_head text
unfolding early_head
head_represents v text s = s.interface ∙ ap (λ at. head_of (good_lines at (ended_lines text))) (sym s.sound)

some_same : {T : Type 0} (a b : T) → Some a ≡ Some b → a ≡ b
some_same a b h = cc

known_head : (o : Option Interface) (i : Interface) → ((j : Interface) → o ≡ Some j → Some j ≡ Some i) → IfSome o (λ j. j ≡ i)
known_head None i h = tt
known_head (Some j) i h = some_same j i (h j refl)

-- the header that is known is that of the whole text
pub whole_head : (lines : Progress) (text : List ℕ) (i : Interface) → Represents lines text → head text ≡ Some i → IfSome lines.interface (λ j. j ≡ i)
whole_head lines text i s e = known_head lines.interface i (λ j h. sym (ap head (sym (append-nil text)) ∙ early_head_law text [] j (sym (head_represents lines text s) ∙ h)) ∙ e)

-- whatever the call returns else
pub head_alike : (T U : Type 0) (f : Fault) (kept head : Option Interface) → IsHeadKept {T = U} (Err f) kept head → IsHeadKept {T = T} (Err f) kept head
head_alike T U Memory kept head h = h
head_alike T U (Trace line kind) kept head h = h
head_alike T U Read kept head h = h
head_alike T U Write kept head h = h
head_alike T U Start kept head h = h
head_alike T U (Double i) kept head h = h
head_alike T U (UnknownPiece i) kept head h = h
head_alike T U (Missing i) kept head h = h

-- it refused nothing
pub is-running : (v : Progress) (text : List ℕ) (f : Fault) → Represents v text → v.refused ≡ Some f → ⊥
is-running v text f s h = let none : None ≡ Some f = sym s.running ∙ h in cc
