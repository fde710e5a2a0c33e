-- What a cutter keeps stays within its bounds.
use Rattle.std.proofs.Common.{◌≡◌, ◌∙◌, sym, ap, subst, refl, ℕ, ◌+◌, ◌<◌, ◌≤◌, ◌⊎◌, inl, inr, Bool, true, false, cond, eqb, List, [], ◌∷◌, ◌++◌, length, arith, length-append}
use Rattle.std.specs.Prelude.{is_some}
use Rattle.std.specs.BTreeSet.{insert_key}
use Rattle.std.specs.Ordering.{nat_cmp, match_ordering}
use Rattle.std.specs.declared.cmp.Ordering.{Ordering}
use Rattle.std.specs.declared.cmp.Ordering.TheVariants.{Less, Equal, Greater}
use Rattle.std.proofs.lemmas.Bool.{eqb-true, eqb-false}
use Rattle.std.proofs.lemmas.List.Sums.{sum_by_push}
use Rattle.line_model.specs.declared.interface.Interface.{Interface}
use Rattle.line_model.specs.basics.Records.{Item}
use Rattle.line_model.specs.declared.finding.Finding.{Finding}
use Rattle.line_model.specs.channels.GapRestart.{GapInterfaceState}
use Rattle.line_model.specs.observer.Report.{gaps_of}
use Rattle.line_model.specs.packets.Says.{gap_of}
use Rattle.line_model.specs.basics.Bounds.{IsItem, IsPiece}
use Rattle.restart_epochs.specs.OpenRows.{rows_of, with_channel, with_gap}
use Rattle.restart_epochs.specs.Cutting.{Cutting, items_out, IsCutting, IsChannelRows, IsCounted, IsKeptOn, IsStepped, IsLeft}
use Rattle.restart_epochs.proofs.GapRows.{all_more, gap_items_of, gap_length, gap_octets, last_pushed}

-- an open channel within larger bounds
wider : (i : Interface) (k n m a b u v : ℕ) (items : List Item) → IsChannelRows i k n a u items → n ≤ m → a ≤ b → u ≤ v → IsChannelRows i k m b v items
wider i k n m a b u v items h le le' le'' =
    let rows = h.few_rows in
    let octets = h.few_octets in
    let up = h.up_to in
    record { few_rows = omega (arith, rows, le); few_octets = omega (arith, octets, le'); up_to = omega (arith, up, le''); packets_of = h.packets_of }

inserted : (ks : List ℕ) (k : ℕ) → length (insert_key nat_cmp ks k) ≤ length ks + 1
inserted [] k = omega arith
inserted (j ∷ ks) k = at (nat_cmp k j) (inserted ks k)
  where
    at : (o : Ordering) → length (insert_key nat_cmp ks k) ≤ length ks + 1 → length (match_ordering o (k ∷ j ∷ ks) (j ∷ ks) (j ∷ insert_key nat_cmp ks k)) ≤ length (j ∷ ks) + 1
    at Less h = omega arith
    at Equal h = omega arith
    at Greater h = omega (arith, h)

one_channel : (items : List Item) (k : ℕ) (channels : List ℕ) → length (with_channel items k channels) ≤ length channels + 1
one_channel [] k channels = inserted channels k
one_channel (item ∷ items) k channels = omega arith

-- an open channel with the last gap of all channels and one more row
open_channel_more : (i : Interface) (k n a u gap : ℕ) (items : List Item) (item : Item) → IsChannelRows i k n a u items → (gap ≡ 0) ⊎ (i.gaps ≡ true) → IsItem i k item → IsChannelRows i k (n + 1) (a + item.length) item.number (with_gap gap items ++ item ∷ [])
open_channel_more i k n a u gap items item h recorded is =
    let all = with_gap gap items in
    record {
      few_rows = let rows = h.few_rows in omega (arith, rows, length-append all (item ∷ []), gap_length gap items);
      few_octets = let octets = h.few_octets in omega (arith, octets, sum_by_push (λ (x : Item). x.length) all item, gap_octets gap items);
      up_to = omega (arith, last_pushed all item);
      packets_of = all_more (IsItem i k) all item (gap_items_of i k gap items recorded h.packets_of) is;
    }

kept_open_channel : (c c' : Cutting) (k : ℕ) (item : Item) → IsCutting c → IsKeptOn k item c c' → IsItem c.interface k item → c.last < item.number → (j : ℕ) (b : Bool) → eqb j k ≡ b
    → IsChannelRows c.interface j (c.packets + 1) (c.octets + item.length) item.number (rows_of c'.open_rows j)
kept_open_channel c c' k item h kept is rising j true e =
    let same = eqb-true j k e in
    subst (λ m. IsChannelRows c.interface m (c.packets + 1) (c.octets + item.length) item.number (rows_of c'.open_rows m)) (sym same)
    (subst (IsChannelRows c.interface k (c.packets + 1) (c.octets + item.length) item.number) (sym kept.open_rows.row) (open_channel_more c.interface k c.packets c.octets c.last c.gap (rows_of c.open_rows k) item (h.open_channels k) h.recorded is))
kept_open_channel c c' k item h kept is rising j false e =
    subst (IsChannelRows c.interface j (c.packets + 1) (c.octets + item.length) item.number) (sym (kept.open_rows.others j (eqb-false j k e)))
    (wider c.interface j c.packets (c.packets + 1) c.octets (c.octets + item.length) c.last item.number (rows_of c.open_rows j) (h.open_channels j) (omega arith) (omega arith) (omega (arith, rising)))

open_channel_at_new : (c c' : Cutting) (r : Item) → IsCounted r c c' → (j : ℕ) (items : List Item) → IsChannelRows c.interface j (c.packets + 1) (c.octets + r.length) r.number items → IsChannelRows c'.interface j c'.packets c'.octets c'.last items
open_channel_at_new c c' r counted j items h = coe_open_channel (sym counted.interface) (sym counted.packets) (sym counted.octets) (sym counted.last) h
  where
    coe_open_channel : {i i' : Interface} {n n' a a' u u' : ℕ} → i ≡ i' → n ≡ n' → a ≡ a' → u ≡ u' → IsChannelRows i j n a u items → IsChannelRows i' j n' a' u' items
    coe_open_channel {i} {i'} {n} {n'} {a} {a'} {u} {u'} p q s t x =
        subst (λ (v : Interface). IsChannelRows v j n' a' u' items) p (subst (λ m. IsChannelRows i j m a' u' items) q (subst (λ m. IsChannelRows i j n m u' items) s (subst (λ m. IsChannelRows i j n a m items) t x)))

one_at_most : (r : Item) → gaps_of (r ∷ []) ≤ 1
one_at_most r = at (is_some (gap_of r.packet))
  where
    at : (b : Bool) → length (cond b (r ∷ []) []) ≤ 1
    at true = omega arith
    at false = omega arith

counted_gaps : (c c' : Cutting) (r : Item) → IsCounted r c c' → c.gaps ≤ c.packets → c'.gaps ≤ c'.packets
counted_gaps c c' r counted h = omega (arith, h, counted.gaps, counted.packets, one_at_most r)

-- where gaps are rows if there is one
recorded_at : (c c' : Cutting) (gap : ℕ) → c'.gap ≡ gap → c'.interface ≡ c.interface → (gap ≡ 0) ⊎ (c.interface.gaps ≡ true) → (c'.gap ≡ 0) ⊎ (c'.interface.gaps ≡ true)
recorded_at c c' gap at same (inl none) = inl (at ∙ none)
recorded_at c c' gap at same (inr are) = inr (ap (λ (i : Interface). i.gaps) same ∙ are)

pub kept_bounds : (c c' : Cutting) (k : ℕ) (item : Item) → IsCutting c → IsKeptOn k item c c' → IsItem c.interface k item → c.last < item.number → item.number ≤ 999999999 → c.octets + item.length ≤ 2147483648 → IsCutting c'
kept_bounds c c' k item h kept is rising number octets =
    let rows = h.rows in
    let epochs = h.epochs in
    let ids = h.ids in
    let one = one_channel (rows_of c.open_rows k) k c.open_rows.channels in
    let channels = ap (λ ks. length ks) kept.open_rows.channels in
    record {
      rows = omega (arith, rows, rising, kept.counted.packets, kept.counted.last);
      last = omega (arith, number, kept.counted.last);
      octets = omega (arith, octets, kept.counted.octets);
      epochs = omega (arith, epochs, kept.epoch, kept.counted.packets);
      ids = omega (arith, ids, one, channels, kept.given, kept.counted.packets);
      gaps = counted_gaps c c' item kept.counted h.gaps;
      gap = let up = h.gap in omega (arith, up, rising, kept.gap, kept.counted.last);
      recorded = recorded_at c c' c.gap kept.gap kept.counted.interface h.recorded;
      open_channels = λ j. open_channel_at_new c c' item kept.counted j (rows_of c'.open_rows j) (kept_open_channel c c' k item h kept is rising j (eqb j k) refl);
    }

counted_octets : (c c' : Cutting) (r : Item) → IsCounted r c c' → c.octets + r.length ≤ 2147483648 → c'.octets ≤ 2147483648
counted_octets c c' r counted h = omega (arith, h, counted.octets)

pub stepped_bounds : (c c' : Cutting) (r : Item) (machine : GapInterfaceState) (epoch gap : ℕ) (found : List Finding) → IsCutting c → IsStepped r machine epoch gap found c c' → gap ≤ r.number → (gap ≡ 0) ⊎ (c.interface.gaps ≡ true) → epoch ≤ c.epoch + 1 → c.last < r.number → r.number ≤ 999999999 → c.octets + r.length ≤ 2147483648 → IsCutting c'
stepped_bounds c c' r machine epoch gap found h step le recorded next rising number octets =
    let rows = h.rows in
    let epochs = h.epochs in
    let ids = h.ids in
    let channels = ap (λ ks. length ks) step.open_rows.channels in
    record {
      rows = omega (arith, rows, rising, step.counted.packets, step.counted.last);
      last = omega (arith, number, step.counted.last);
      octets = counted_octets c c' r step.counted octets;
      epochs = omega (arith, epochs, next, step.epoch, step.counted.packets);
      ids = omega (arith, ids, channels, step.given, step.counted.packets);
      gaps = counted_gaps c c' r step.counted h.gaps;
      gap = omega (arith, le, step.gap, step.counted.last);
      recorded = recorded_at c c' gap step.gap step.counted.interface recorded;
      open_channels = λ j. open_channel_at_new c c' r step.counted j (rows_of c'.open_rows j)
          (subst (IsChannelRows c.interface j (c.packets + 1) (c.octets + r.length) r.number) (sym (step.open_rows.rows j))
          (wider c.interface j c.packets (c.packets + 1) c.octets (c.octets + r.length) c.last r.number (rows_of c.open_rows j) (h.open_channels j) (omega arith) (omega arith) (omega (arith, rising))));
    }

pub no_items : (i : Interface) (k n a u : ℕ) → IsChannelRows i k n a u []
no_items i k n a u = record { few_rows = omega arith; few_octets = omega arith; up_to = omega arith; packets_of = λ m d lt. absurd (omega (arith, lt)) }

left_open_channel : (i : Interface) (k n a u : ℕ) (items was : List Item) (P : Type 0) → IsChannelRows i k n a u was → (items ≡ []) ⊎ ((items ≡ was) × P) → IsChannelRows i k n a u items
left_open_channel i k n a u items was P h (inl none) = subst (IsChannelRows i k n a u) (sym none) (no_items i k n a u)
left_open_channel i k n a u items was P h (inr same) = subst (IsChannelRows i k n a u) (sym same.0) h

pub left_bounds : (c c' : Cutting) (r : Item) (machine : GapInterfaceState) (epoch : ℕ) (found : List Finding) → IsCutting c → IsLeft r machine epoch found c c' → epoch ≤ c.epoch + 1 → c.last < r.number → r.number ≤ 999999999 → c.octets + r.length ≤ 2147483648 → IsCutting c'
left_bounds c c' r machine epoch found h left next rising number octets =
    let rows = h.rows in
    let epochs = h.epochs in
    let ids = h.ids in
    let none : length c'.open_rows.channels ≡ 0 = ap (λ ks. length ks) left.channels in
    record {
      rows = omega (arith, rows, rising, left.counted.packets, left.counted.last);
      last = omega (arith, number, left.counted.last);
      octets = counted_octets c c' r left.counted octets;
      epochs = omega (arith, epochs, next, left.epoch, left.counted.packets);
      ids = omega (arith, ids, none, left.given, left.counted.packets);
      gaps = counted_gaps c c' r left.counted h.gaps;
      gap = omega (arith, left.gap);
      recorded = inl left.gap;
      open_channels = λ j. open_channel_at_new c c' r left.counted j (rows_of c'.open_rows j)
          (left_open_channel c.interface j (c.packets + 1) (c.octets + r.length) r.number (rows_of c'.open_rows j) (rows_of c.open_rows j) _
          (wider c.interface j c.packets (c.packets + 1) c.octets (c.octets + r.length) c.last r.number (rows_of c.open_rows j) (h.open_channels j) (omega arith) (omega arith) (omega (arith, rising)))
          (left.emptied j));
    }

-- the rows of an open channel can be a piece
pub channel_piece : (c : Cutting) (k : ℕ) → IsCutting c → IsPiece c.interface k (items_out c.gap c.open_rows k)
channel_piece c k h =
    let open_channel = h.open_channels k in
    let rows = open_channel.few_rows in
    let octets = open_channel.few_octets in
    let packets = h.rows in
    let last = h.last in
    let all = h.octets in
    record {
      few_rows = omega (arith, rows, packets, last, gap_length c.gap (rows_of c.open_rows k));
      few_octets = omega (arith, octets, all, gap_octets c.gap (rows_of c.open_rows k));
      packets = gap_items_of c.interface k c.gap (rows_of c.open_rows k) h.recorded open_channel.packets_of;
    }
