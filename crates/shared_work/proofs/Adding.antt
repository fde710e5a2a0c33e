-- More reports among the posts.
use Rattle.std.proofs.Common.{◌≡◌, ℕ, zero, suc, ◌+◌, ◌^◌, ◌<◌, ◌≤◌, List, [], ◌∷◌, ◌++◌, length, Bool, true, false, not, true≢false, refl, sym, ap, ◌∙◌, subst, arith, eqb, eq-eqb, ne_eqb, length-append, take, drop, get_or}
use Rattle.std.specs.Prelude.{sum_by, All, slice_index, slice_index_or, cond}
use Rattle.std.proofs.lemmas.List.{take_more, take-append-drop}
use Rattle.std.proofs.lemmas.List.Sums.{sum_by-append, sum_by-le}
use Rattle.std.proofs.lemmas.List.Elements.{All-append}
use native.Mathlib.Decide.{ℕ_discrete}
use mathlib.Core.Logic.{dite}
use Rattle.line_model.specs.basics.Records.{PieceReport}
use Rattle.line_model.specs.declared.totals.Totals.{Totals}
use Rattle.line_model.specs.declared.fault.Fault.{Fault}
use Rattle.line_model.specs.declared.fault.Fault.TheVariants.{Memory, Trace, Read, Write, Start, Double, UnknownPiece, Missing}
use Rattle.line_model.specs.work.Book.{KnownPlan, IsValue, ids_of, times}
use Rattle.line_model.proofs.Counting.{bit, times-cons, times-append, pigeons}
use Rattle.line_model.proofs.Posts.{length-ids}
use Rattle.line_model.proofs.Schedules.{ids-append}
use Rattle.report_merge.specs.Gathered.{IsSmall}
use Rattle.shared_work.specs.findings.Sums.{is_known, once_known, HasFlag, AreFew, AreIdsOf, HasNoted, IsNoteRefusal, IsPostRefusal, IsPostFault, IsBook, with_reports}

bit-le : (b : Bool) → bit b ≤ 1
bit-le true = omega arith
bit-le false = omega arith

pub from_not : (b c : Bool) → c ≡ not b → c ≡ true → b ≡ false
from_not true c e t = absurd (true≢false (sym t ∙ e))
from_not false c e t = refl

pub from_not_false : (b c : Bool) → c ≡ not b → c ≡ false → b ≡ true
from_not_false true c e t = refl
from_not_false false c e t = absurd (true≢false (sym e ∙ t))

-- ---- ids that are noted and forgotten

-- a set with one id more, or less
pub one_noted : (ids ids' : List Bool) (id : ℕ) → is_known ids id ≡ false → HasFlag ids ids' id true → (x : ℕ) → once_known ids' x ≡ once_known ids x + bit (eqb id x)
one_noted ids ids' id none updates x = dite (ℕ_discrete id x)
    (λ e.
    let same : id ≡ x = e in
    let test = eq-eqb id x e in
    let was : bit (is_known ids x) ≡ 0 = ap bit (subst (λ n. is_known ids n ≡ false) same none) in
    let is : bit (is_known ids' x) ≡ 1 = ap bit (updates x ∙ (ap (λ b. cond b true (is_known ids x)) test)) in
    let one : bit (eqb id x) ≡ 1 = ap bit test in
    omega (arith, was, is, one))
    (λ ne.
    let test = ne_eqb id x ne in
    let is : bit (is_known ids' x) ≡ bit (is_known ids x) = ap bit (updates x ∙ (ap (λ b. cond b true (is_known ids x)) test)) in
    let none : bit (eqb id x) ≡ 0 = ap bit test in
    omega (arith, is, none))

pub one_forgotten : (ids ids' : List Bool) (id : ℕ) → 0 < once_known ids id → HasFlag ids ids' id false → (x : ℕ) → once_known ids x ≡ once_known ids' x + bit (eqb id x)
one_forgotten ids ids' id some updates x = dite (ℕ_discrete id x)
    (λ e.
    let same : id ≡ x = e in
    let test = eq-eqb id x e in
    let was : 0 < bit (is_known ids x) = subst (λ n. 0 < once_known ids n) same some in
    let is : bit (is_known ids' x) ≡ 0 = ap bit (updates x ∙ (ap (λ b. cond b false (is_known ids x)) test)) in
    let one : bit (eqb id x) ≡ 1 = ap bit test in
    omega (arith, was, is, one, bit-le (is_known ids x)))
    (λ ne.
    let test = ne_eqb id x ne in
    let is : bit (is_known ids' x) ≡ bit (is_known ids x) = ap bit (updates x ∙ (ap (λ b. cond b false (is_known ids x)) test)) in
    let none : bit (eqb id x) ≡ 0 = ap bit test in
    omega (arith, is, none))

-- the id at a place is the last of those up to there
times-take : (ids : List ℕ) (i : ℕ) → i < length ids → (x : ℕ) → times x (take (i + 1) ids) ≡ times x (take i ids) + bit (eqb (get_or ids i 0) x)
times-take ids i lt x = omega (arith, ap (times x) (take_more ids i 0 lt), times-append x (take i ids) (get_or ids i 0 ∷ []), times-cons x (get_or ids i 0) [])

-- one more is among all than among those before it
more_of_all : (ids : List ℕ) (i : ℕ) → i < length ids → times (get_or ids i 0) (take i ids) + 1 ≤ times (get_or ids i 0) ids
more_of_all ids i lt =
    let id = get_or ids i 0 in
    let split = ap (times id) (take-append-drop (i + 1) ids) in
    let here : bit (eqb id id) ≡ 1 = ap bit (eq-eqb id id refl) in
    omega (arith, split, times-append id (take (i + 1) ids) (drop (i + 1) ids), times-take ids i lt id, here)

pub represented : (ids : List ℕ) (i : ℕ) → i < length ids → 0 < times (get_or ids i 0) ids
represented ids i lt = omega (arith, more_of_all ids i lt)

pub none_more : (known : List Bool) (ids : List ℕ) (i : ℕ) → i < length ids → ((x : ℕ) → 0 < times x (take i ids) → is_known known x ≡ false) → is_known known (get_or ids i 0) ≡ false
    → (x : ℕ) → 0 < times x (take (i + 1) ids) → is_known known x ≡ false
none_more known ids i lt before here x some = dite (ℕ_discrete (get_or ids i 0) x)
    (λ e. let same : get_or ids i 0 ≡ x = e in subst (λ n. is_known known n ≡ false) same here)
    (λ ne. let none : bit (eqb (get_or ids i 0) x) ≡ 0 = ap bit (ne_eqb (get_or ids i 0) x ne) in before x (omega (arith, some, times-take ids i lt x, none)))

pub noted_more : (before now after : List Bool) (ids : List ℕ) (i : ℕ) → i < length ids → HasNoted before (take i ids) now → is_known now (get_or ids i 0) ≡ false → HasFlag now after (get_or ids i 0) true → HasNoted before (take (i + 1) ids) after
noted_more before now after ids i lt noted none updates x = omega (arith, noted x, one_noted now after (get_or ids i 0) none updates x, times-take ids i lt x)

-- an id that was noted before
pub twice : (before now : List Bool) (ids : List ℕ) (i : ℕ) → i < length ids → HasNoted before (take i ids) now → is_known now (get_or ids i 0) ≡ true
    → (0 < times (get_or ids i 0) ids) × (1 < once_known before (get_or ids i 0) + times (get_or ids i 0) ids)
twice before now ids i lt noted some =
    let one : bit (is_known now (get_or ids i 0)) ≡ 1 = ap bit some in
    (represented ids i lt, omega (arith, noted (get_or ids i 0), one, more_of_all ids i lt))

pub known_once : (known : List Bool) (ids : List ℕ) (i : ℕ) → i < length ids → is_known known (get_or ids i 0) ≡ true → (0 < times (get_or ids i 0) ids) × (1 < once_known known (get_or ids i 0) + times (get_or ids i 0) ids)
known_once known ids i lt some =
    let one : bit (is_known known (get_or ids i 0)) ≡ 1 = ap bit some in
    (represented ids i lt, omega (arith, one, represented ids i lt))

pub forgotten_more : (before now after : List Bool) (ids : List ℕ) (i : ℕ) → i < length ids → ((x : ℕ) → times x ids ≤ once_known before x) → HasNoted now (take i ids) before → HasFlag now after (get_or ids i 0) false → HasNoted after (take (i + 1) ids) before
forgotten_more before now after ids i lt all forgotten updates x =
    let id = get_or ids i 0 in
    let still : 0 < once_known now id = omega (arith, all id, forgotten id, more_of_all ids i lt) in
    omega (arith, forgotten x, one_forgotten now after id still updates x, times-take ids i lt x)

pub few_from : (ids : List ℕ) → ((k : ℕ) → slice_index ids k < 2 ^ 32) → AreFew ids
few_from [] all x some = absurd (omega arith)
few_from (id ∷ ids) all x some = dite (ℕ_discrete id x)
    (λ e. let same : id ≡ x = e in omega (arith, all 0, same))
    (λ ne. let none : bit (eqb id x) ≡ 0 = ap bit (ne_eqb id x ne) in few_from ids (λ k. all (suc k)) x (omega (arith, some, times-cons x id ids, none)))

-- ---- a book with more posts

-- where the same ids are known
pub same_book : (plan : KnownPlan) (rs rs' : List PieceReport) (ids ids' : List Bool) (sums : Totals) → IsBook plan rs ids sums → rs' ≡ rs → ((x : ℕ) → once_known ids' x ≡ once_known ids x) → IsBook plan rs' ids' sums
same_book plan rs rs' ids ids' sums book posts kept = subst (λ y. IsBook plan y ids' sums) (sym posts) (record {
  posts = book.posts;
  small = book.small;
  few = book.few;
  known = λ x. kept x ∙ book.known x;
  totals = book.totals;
})

pub adds : (plan : KnownPlan) (rs ps : List PieceReport) (ids ids' : List Bool) (sums : Totals) → IsBook plan rs ids sums → All IsSmall ps → All (IsValue plan) ps → AreFew (ids_of ps) → HasNoted ids (ids_of ps) ids' → IsBook plan (rs ++ ps) ids' (with_reports sums ps)
adds plan rs ps ids ids' sums book small are few noted = record {
  posts = record {
    distinct = λ x. omega (arith, known x, bit-le (is_known ids' x));
    values = All-append (IsValue plan) rs ps book.posts.values are;
  };
  small = All-append IsSmall rs ps book.small small;
  few = λ x some. either_few x (times x (ids_of rs)) refl (omega (arith, some, split x));
  known = known;
  totals = λ i. record { posts = posts i; findings = findings i; octets = octets i; segments = segments i };
}
  where
    split : (x : ℕ) → times x (ids_of (rs ++ ps)) ≡ times x (ids_of rs) + times x (ids_of ps)
    split x = ap (times x) (ids-append rs ps) ∙ times-append x (ids_of rs) (ids_of ps)

    either_few : (x n : ℕ) → times x (ids_of rs) ≡ n → 0 < n + times x (ids_of ps) → x < 2 ^ 32
    either_few x zero none some = few x (omega (arith, some))
    either_few x (suc n) is some = book.few x (omega (arith, is))

    known : AreIdsOf (rs ++ ps) ids'
    known x = omega (arith, noted x, book.known x, split x)

    posts : sums.posts + length ps ≡ length (rs ++ ps)
    posts = omega (arith, ap (λ t. t.posts) book.totals, length-append rs ps)

    findings : sums.findings + sum_by (λ p. length p.findings) ps ≡ sum_by (λ p. length p.findings) (rs ++ ps)
    findings = omega (arith, ap (λ t. t.findings) book.totals, sum_by-append (λ (p : PieceReport). length p.findings) rs ps)

    octets : sums.octets + sum_by (λ p. p.octets) ps ≡ sum_by (λ p. p.octets) (rs ++ ps)
    octets = omega (arith, ap (λ t. t.octets) book.totals, sum_by-append (λ (p : PieceReport). p.octets) rs ps)

    segments : sums.segments + sum_by (λ p. p.segments) ps ≡ sum_by (λ p. p.segments) (rs ++ ps)
    segments = omega (arith, ap (λ t. t.segments) book.totals, sum_by-append (λ (p : PieceReport). p.segments) rs ps)

-- where the ids are given apart
pub adds_noted : (plan : KnownPlan) (rs ps : List PieceReport) (ids ids' : List Bool) (sums : Totals) (new : List ℕ) → IsBook plan rs ids sums → All IsSmall ps → All (IsValue plan) ps → new ≡ ids_of ps → AreFew new → HasNoted ids new ids' → IsBook plan (rs ++ ps) ids' (with_reports sums ps)
adds_noted plan rs ps ids ids' sums new book small are is few noted = adds plan rs ps ids ids' sums book small are (subst AreFew is few) (subst (λ l. HasNoted ids l ids') is noted)

-- different numbers of 32 bits are few enough that a sum of numbers of 32 bits fits
pub fits : (plan : KnownPlan) (rs : List PieceReport) (ids : List Bool) (sums : Totals) (f : PieceReport → ℕ) → IsBook plan rs ids sums → ((r : PieceReport) → IsSmall r → f r ≤ 2 ^ 31) → sum_by f rs < 2 ^ 64
fits plan rs ids sums f book small =
    let few : length rs ≤ 2 ^ 32 = omega (arith, length-ids rs, pigeons (ids_of rs) (2 ^ 32) book.posts.distinct book.few) in
    let le = sum_by-le f 2147483648 rs (λ k d lt. let s = small (slice_index_or rs k d) (book.small k d lt) in omega arith) in
    omega arith

pub few_posts : (plan : KnownPlan) (rs : List PieceReport) (ids : List Bool) (sums : Totals) → IsBook plan rs ids sums → length rs < 2 ^ 64
few_posts plan rs ids sums book = omega (arith, length-ids rs, pigeons (ids_of rs) (2 ^ 32) book.posts.distinct book.few)

-- ---- why a post comes back

pub refused : (rs : List PieceReport) (ids : List Bool) (ps : List PieceReport) (f : Fault) → AreIdsOf rs ids → IsNoteRefusal f ids (ids_of ps) → IsPostRefusal f rs ps
refused rs ids ps (Double id) known h = (h.0, omega (arith, known id, h.1))
refused rs ids ps Memory known h = λ x some. let none : bit (is_known ids x) ≡ 0 = ap bit (h x some) in omega (arith, known x, none)
refused rs ids ps (UnknownPiece k) known h = h
refused rs ids ps (Missing k) known h = h
refused rs ids ps (Trace l k) known h = h
refused rs ids ps Read known h = h
refused rs ids ps Write known h = h
refused rs ids ps Start known h = h

pub post_fault : (rs ps : List PieceReport) (f : Fault) → IsPostRefusal f rs ps → IsPostFault f ps
post_fault rs ps (Double id) h = h.0
post_fault rs ps Memory h = tt
post_fault rs ps (UnknownPiece k) h = h
post_fault rs ps (Missing k) h = h
post_fault rs ps (Trace l k) h = h
post_fault rs ps Read h = h
post_fault rs ps Write h = h
post_fault rs ps Start h = h

-- ---- who vouches

-- a witness that learns what another knows still vouches for the posts
pub vouches_still : (P Q : PieceReport → Type 0) (rs rs' : List PieceReport) → All P rs → ((r : PieceReport) → P r → Q r) → rs' ≡ rs → All Q rs'
vouches_still P Q rs rs' all still same = subst (All Q) (sym same) (λ k d lt. still _ (all k d lt))

-- and for more, for which the other vouches
pub vouches_more : (O P Q : PieceReport → Type 0) (rs ps after : List PieceReport) → All P rs → ((x : PieceReport) → P x → Q x) → All O ps → ((x : PieceReport) → O x → Q x) → after ≡ rs ++ ps → All Q after
vouches_more O P Q rs ps after all still others learned is = subst (All Q) (sym is) (All-append Q rs ps (λ k d lt. still _ (all k d lt)) (λ k d lt. learned _ (others k d lt)))
