-- The values of a plan's pieces, in any order, are not refused.
use Rattle.std.proofs.Common.{◌≡◌, ◌≢◌, ℕ, suc, ◌+◌, ◌<◌, ◌≤◌, ◌==◌, not, nat_lt, true, cond, List, [], ◌∷◌, length, map, refl, sym, ap, ◌∙◌, arith, Some, None, eqb, eq-eqb, ne_eqb}
use Rattle.std.specs.Prelude.{slice_get}
use Rattle.std.specs.List.Sorted.{IsPermutation}
use Rattle.std.proofs.lemmas.List.Sorted.{IsPermutation-map, sum_by-IsPermutation}
use Rattle.std.proofs.lemmas.Bool.Decides.{nat_tests}
use native.Mathlib.Decide.{ℕ_discrete}
use mathlib.Core.Logic.{dite}
use Rattle.line_model.specs.declared.fault.Fault.{Fault}
use Rattle.line_model.specs.declared.fault.Fault.TheVariants.{Memory, Trace, Read, Write, Start, Double, UnknownPiece, Missing}
use Rattle.line_model.specs.declared.interface.Interface.{Interface}
use Rattle.line_model.specs.declared.finding.Finding.{Finding}
use Rattle.line_model.specs.basics.Records.{Item, Piece, PieceReport}
use Rattle.line_model.specs.pieces.Plans.{plan, result_of}
use Rattle.line_model.specs.work.Book.{times, ids_of}
use Rattle.line_model.proofs.Counting.{bit, times-cons, times-append}
use Rattle.line_model.proofs.BookTotals.{numbers_law}
use Rattle.report_merge.specs.declared.row_counts.RowCounts.{RowCounts}
use Rattle.report_merge.specs.Refusal.{unknown_id, IsFirstDouble, IsRefusal}
use Rattle.report_merge.specs.Merged.{IsOfWalk}

-- ---- the ids of pieces that are numbered

-- pieces that are numbered from n on
abbrev NumberedFrom : ℕ → List Piece → Type 0
NumberedFrom n ps = (k : ℕ) (p : Piece) → slice_get ps k ≡ Some p → p.id ≡ n + k

behind : (n : ℕ) (p : Piece) (ps : List Piece) → NumberedFrom n (p ∷ ps) → NumberedFrom (n + 1) ps
behind n p ps h k q e = omega (arith, h (suc k) q e)

abbrev ids : List Piece → List ℕ
ids ps = ids_of (map result_of ps)

apart : (n x : ℕ) (p : Piece) (ps : List Piece) → NumberedFrom n (p ∷ ps) → n ≢ x → times x (ids (p ∷ ps)) ≡ times x (ids ps)
apart n x p ps h ne =
    let first : p.id ≡ n = omega (arith, h 0 p refl) in
    let other : p.id ≢ x = λ e. ne (sym first ∙ e) in
    let none : bit (eqb p.id x) ≡ 0 = ap bit (ne_eqb p.id x other) in
    omega (arith, times-cons x p.id (ids ps), none)

none_before : (n x : ℕ) (ps : List Piece) → NumberedFrom n ps → x < n → times x (ids ps) ≡ 0
none_before n x [] h lt = refl
none_before n x (p ∷ ps) h lt =
    let ne : n ≢ x = omega arith in
    apart n x p ps h ne ∙ none_before (n + 1) x ps (behind n p ps h) (omega arith)

none_behind : (n x : ℕ) (ps : List Piece) → NumberedFrom n ps → n + length ps ≤ x → times x (ids ps) ≡ 0
none_behind n x [] h le = refl
none_behind n x (p ∷ ps) h le =
    let ne : n ≢ x = omega arith in
    apart n x p ps h ne ∙ none_behind (n + 1) x ps (behind n p ps h) (omega arith)

once_between : (n x : ℕ) (ps : List Piece) → NumberedFrom n ps → n ≤ x → x < n + length ps → times x (ids ps) ≡ 1
once_between n x [] h le lt = absurd (omega arith)
once_between n x (p ∷ ps) h le lt = dite (ℕ_discrete n x)
    (λ e.
    let same : n ≡ x = e in
    let first : p.id ≡ x = omega (arith, h 0 p refl) in
    let one : bit (eqb p.id x) ≡ 1 = ap bit (eq-eqb p.id x first) in
    omega (arith, times-cons x p.id (ids ps), one, none_before (n + 1) x ps (behind n p ps h) (omega arith)))
    (λ ne.
    let other : n ≢ x = ne in
    apart n x p ps h other ∙ once_between (n + 1) x ps (behind n p ps h) (omega arith) (omega arith))

-- ---- what is refused, by how often each id occurs

unknown_id_none : (n : ℕ) (is : List ℕ) → ((x : ℕ) → n ≤ x → times x is ≡ 0) → unknown_id n is ≡ None
unknown_id_none n [] h = refl
unknown_id_none n (i ∷ is) h = dite (ℕ_discrete (bit (nat_lt i n)) 1)
    (λ e.
    let below : i < n = grind (arith, nat_tests, e) in
    let test : nat_lt i n ≡ true = grind (arith, nat_tests) in
    ap (λ b. cond (not b) (Some i) (unknown_id n is)) test ∙ unknown_id_none n is (λ x le. omega (arith, times-cons x i is, h x le)))
    (λ ne.
    let above : n ≤ i = grind (arith, nat_tests, ne) in
    let here : bit (eqb i i) ≡ 1 = ap bit (eq-eqb i i refl) in
    absurd (omega (arith, times-cons i i is, here, h i above)))

none_is_not_some : (k : ℕ) → None ≡ Some k → ⊥
none_is_not_some k e = absurd (cc)

-- ---- the values of a plan

-- how often an id occurs among the reports
represented : (i : Interface) (rs : List Item) (reports : List PieceReport) → IsPermutation (map result_of (plan i rs)) reports → (x : ℕ) → times x (ids_of reports) ≡ times x (ids (plan i rs))
represented i rs reports h x =
    sum_by-IsPermutation (λ y. bit (y == x)) (ids (plan i rs)) (ids_of reports) (IsPermutation-map (λ r. r.id) (map result_of (plan i rs)) reports h)

numbered : (i : Interface) (rs : List Item) → NumberedFrom 0 (plan i rs)
numbered i rs k p e = omega (arith, numbers_law i rs k p e)

pub memory_alone : (i : Interface) (rs : List Item) (reports : List PieceReport) (line : List Finding) (counts : RowCounts) (pieces : ℕ) (f : Fault)
    → IsOfWalk i rs reports line counts pieces → IsRefusal f pieces (ids_of reports) → f ≡ Memory
memory_alone i rs reports line counts pieces f w refused = at f refused
  where
    count : (x : ℕ) → times x (ids_of reports) ≡ times x (ids (plan i rs))
    count = represented i rs reports w.values

    known : unknown_id pieces (ids_of reports) ≡ None
    known = unknown_id_none pieces (ids_of reports) (λ x le. count x ∙ none_behind 0 x (plan i rs) (numbered i rs) (omega (arith, w.pieces_are)))

    most : (x : ℕ) → times x (ids_of reports) ≤ 1
    most x = dite (ℕ_discrete (bit (nat_lt x (length (plan i rs)))) 1)
        (λ e. let below : x < length (plan i rs) = grind (arith, nat_tests, e) in omega (arith, count x, once_between 0 x (plan i rs) (numbered i rs) (omega arith) (omega arith)))
        (λ ne. let above : length (plan i rs) ≤ x = grind (arith, nat_tests, ne) in omega (arith, count x, none_behind 0 x (plan i rs) (numbered i rs) (omega arith)))

    present : (x : ℕ) → x < pieces → times x (ids_of reports) ≡ 1
    present x lt = count x ∙ once_between 0 x (plan i rs) (numbered i rs) (omega arith) (omega (arith, w.pieces_are))

    twice : (k : ℕ) → IsFirstDouble k (ids_of reports) → ⊥
    twice k d =
        let here : bit (eqb k k) ≡ 1 = ap bit (eq-eqb k k refl) in
        omega (arith, most k, ap (times k) d.place, times-append k d.front (k ∷ d.back), times-cons k k d.back, here, d.before)

    at : (f : Fault) → IsRefusal f pieces (ids_of reports) → f ≡ Memory
    at Memory h = refl
    at (UnknownPiece k) h = absurd (none_is_not_some k (sym known ∙ h))
    at (Double k) h = absurd (twice k h.1)
    at (Missing k) h = absurd (omega (arith, h.2.absent, present k h.2.below))
    at (Trace l k) h = absurd h
    at Read h = absurd h
    at Write h = absurd h
    at Start h = absurd h
