-- The rows of a trace that are cut next.
use Rattle.std.proofs.Common.{◌≡◌, ◌∙◌, sym, ap, subst, refl, ℕ, suc, ◌+◌, ◌<◌, ◌≤◌, ◌^◌, Bool, true, false, List, [], ◌∷◌, ◌++◌, map, length, arith, append-nil, append_assoc, ap₂, length-append}
use Rattle.std.specs.Prelude.{All}
use Rattle.std.proofs.lemmas.List.{map-append}
use Rattle.std.proofs.lemmas.List.Sums.{sum_by-append, sum_by-cons}
use Rattle.line_model.specs.declared.interface.Interface.{Interface}
use Rattle.line_model.specs.basics.Bounds.{AreSaid, IsSaid, all_octets}
use Rattle.line_model.specs.basics.Records.{Row, Item, Piece, ReadRow}
use Rattle.line_model.specs.packets.Says.{items_of, read_row}
use Rattle.line_model.specs.text.Text.{last_or}
use Rattle.line_model.proofs.InOrder.{index-from_rises}
use Rattle.line_model.proofs.Rising.{RisesFrom, rises-from_index}
use Rattle.line_model.proofs.Saying.{row_said}
use Rattle.trace_text.specs.Represents.{last_row}
use Rattle.restart_epochs.specs.Cutting.{Cutting, IsCounted, HasAppended, Represents as IsCutterOf}
use Rattle.restart_epochs.specs.BlockCuts.{HasTakenAll, MayCome}
use Rattle.live_report.specs.Observing.{AreItems, last_item}
use Rattle.trace_reading.specs.TextCuts.{HasCut, IsCounting}
use Rattle.trace_reading.specs.declared.text_cutter.RowCutter.{RowCutter}

-- ---- what rows say

-- what rows say, and that of a last line, if it is one
pub last_said : (i : Interface) (has : Bool) (rs : List Row) (last : Row) (row : ReadRow) → (has ≡ true → row ≡ read_row last) → items_of i (rs ++ last_row has last) ≡ items_of i rs ++ last_item i has row
last_said i false rs last row is = ap (items_of i) (append-nil rs) ∙ sym (append-nil (items_of i rs))
last_said i true rs last row is = sym (row_said i rs last row (is refl))

-- ---- what the cutter may be given

last_or-append : (d : ℕ) (ns ms : List ℕ) → last_or d (ns ++ ms) ≡ last_or (last_or d ns) ms
last_or-append d [] ms = refl
last_or-append d (n ∷ ns) ms = last_or-append n ns ms

rises_after : (b : ℕ) (xs ys : List ℕ) → RisesFrom b (xs ++ ys) → RisesFrom (last_or b xs) ys
rises_after b [] ys h = h
rises_after b (x ∷ xs) ys h = rises_after x xs ys h.1

all_behind : {X : Type 0} (P : X → Type 0) (xs ys : List X) → All P (xs ++ ys) → All P ys
all_behind P [] ys h = h
all_behind P (x ∷ xs) ys h = all_behind P xs ys (λ k y lt. h (suc k) y (omega arith))

said_behind : (i : Interface) (xs ys : List Item) → AreSaid i (xs ++ ys) → AreSaid i ys
said_behind i [] ys h = h
said_behind i (x ∷ xs) ys h = said_behind i xs ys h.1

-- the rows that come next in a trace may be given to the cutter
pub may_come : {A : Type 0} (before rs : List Item) (f : RowCutter A) → HasCut before f → AreItems f.interface (before ++ rs) → MayCome f.cutter rs
may_come before rs f cut sound =
    let rises : RisesFrom 0 (map (λ (x : Item). x.number) before ++ map (λ (x : Item). x.number) rs) =
    subst (RisesFrom 0) (map-append (λ (x : Item). x.number) before rs) (rises-from_index (0 ∷ map (λ (x : Item). x.number) (before ++ rs)) sound.rising) in
    let octets = cut.counting.octets in
    let few = sound.octets in
    record {
      rising = index-from_rises (f.cutter.last ∷ map (λ (x : Item). x.number) rs) (subst (λ n. RisesFrom n (map (λ (x : Item). x.number) rs)) (sym cut.counting.last) (rises_after 0 (map (λ (x : Item). x.number) before) (map (λ (x : Item). x.number) rs) rises));
      numbers = all_behind (λ x. x.number ≤ 999999999) before rs sound.numbers;
      octets = omega (arith, octets, few, sum_by-append (λ (x : Item). x.length) before rs);
      said = subst (λ i. AreSaid i rs) (sym cut.represented.interface) (said_behind f.interface before rs sound.said);
    }

-- a row that may be given to the cutter
pub record MayBeNext (c : Cutting) (r : Item) : Type 0 where
  pub said : IsSaid c.interface r
  pub rising : c.last < r.number
  pub number : r.number ≤ 999999999
  pub octets : c.octets + r.length ≤ 2 ^ 31

pub may_be_next : {A : Type 0} (before : List Item) (r item : Item) (f : RowCutter A) → HasCut before f → AreItems f.interface (before ++ r ∷ []) → item ≡ r → MayBeNext f.cutter item
may_be_next before r item f cut sound is =
    let come = may_come before (r ∷ []) f cut sound in
    let octets = come.octets in
    subst (MayBeNext f.cutter) (sym is) (record {
      said = come.said.0;
      rising = (rises-from_index (f.cutter.last ∷ r.number ∷ []) come.rising).0;
      number = come.numbers 0 r (omega arith);
      octets = omega (arith, octets, sum_by-cons (λ (x : Item). x.length) r []);
    })

-- ---- what was cut

counts_more : (rs more : List Item) (c d : Cutting) → IsCounting rs c → d.last ≡ last_or c.last (map (λ x. x.number) more) → d.octets ≡ c.octets + all_octets more → IsCounting (rs ++ more) d
counts_more rs more c d h last octets =
    let was = h.octets in
    record {
      last = last ∙ ap (λ n. last_or n (map (λ (x : Item). x.number) more)) h.last ∙ sym (ap (last_or 0) (map-append (λ (x : Item). x.number) rs more) ∙ last_or-append 0 (map (λ x. x.number) rs) (map (λ x. x.number) more));
      octets = omega (arith, was, octets, sum_by-append (λ (x : Item). x.length) rs more);
    }

-- a row was cut
pub cut_more : {A : Type 0} (f : RowCutter A) (next : Cutting) (before : List Item) (r : Item) → IsCounting before f.cutter → IsCutterOf f.interface (before ++ r ∷ []) next → IsCounted r f.cutter next → HasCut {A = A} (before ++ r ∷ []) (record { interface = f.interface; cutter = next })
cut_more f next before r counting represented counted = record {
  represented = represented;
  counting = counts_more before (r ∷ []) f.cutter next counting counted.last (omega (arith, counted.octets, sum_by-cons (λ (x : Item). x.length) r []));
}

-- several rows were cut
pub all_cut : {A : Type 0} (before rs : List Item) (f : RowCutter A) (next : Cutting) (out out_after : List Piece) → HasCut before f → HasTakenAll rs f.cutter next out out_after → HasCut {A = A} (before ++ rs) (record { interface = f.interface; cutter = next })
all_cut before rs f next out out_after cut taken = record {
  represented = taken.represented f.interface before cut.represented;
  counting = counts_more before rs f.cutter next cut.counting taken.last taken.octets;
}

-- ---- the pieces that are complete

-- nothing was appended
pub appended_none : (out known : List Piece) → HasAppended out out known known
appended_none out known = record { more = []; out_has = sym (append-nil out); known_has = sym (append-nil known) }

-- some pieces were appended, and then others
pub appended_next : (out now after known here then : List Piece) → HasAppended out now known here → HasAppended now after here then → HasAppended out after known then
appended_next out now after known here then a b = record {
  more = a.more ++ b.more;
  out_has = b.out_has ∙ ap (λ l. l ++ b.more) a.out_has ∙ append_assoc out a.more b.more;
  known_has = b.known_has ∙ ap (λ l. l ++ b.more) a.known_has ∙ append_assoc known a.more b.more;
}

-- all that was appended to no pieces
pub all_appended : (out out_after known known_after : List Piece) → out ≡ [] → HasAppended out out_after known known_after → known_after ≡ known ++ out_after
all_appended out out_after known known_after none h = h.known_has ∙ ap (λ l. known ++ l) (ap (λ l. l ++ h.more) (sym none) ∙ sym h.out_has)

-- as many pieces were fed as are known
pub all_fed : (len n m : ℕ) (known pieces known_after : List Piece) → len ≡ length pieces → n ≡ length known → known_after ≡ known ++ pieces → m ≡ n + len → m ≡ length known_after
all_fed len n m known pieces known_after l all more fed = fed ∙ ap₂ (λ a b. a + b) all l ∙ sym (ap (λ (ps : List Piece). length ps) more ∙ length-append known pieces)
