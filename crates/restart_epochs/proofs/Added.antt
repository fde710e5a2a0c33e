-- Rows that are added channel by channel, and the channels that are listed then.
use Rattle.std.proofs.Common.{◌≡◌, ◌≢◌, ◌∙◌, sym, ap, subst, refl, ℕ, zero, suc, ◌+◌, ◌<◌, ◌≤◌, ◌⊎◌, inl, inr, Bool, true, false, true≢false, cond, eqb, List, [], ◌∷◌, ◌++◌, length, arith, append-nil}
use Rattle.std.specs.List.{AllByRecursion, filter, range_with_len}
use Rattle.std.specs.BTreeSet.{insert_key}
use Rattle.std.specs.Ordering.{nat_cmp}
use Rattle.std.proofs.lemmas.Bool.{eqb-true, eqb-false, eq-eqb, ne_eqb}
use Rattle.line_model.specs.declared.interface.Interface.{Interface}
use Rattle.line_model.specs.declared.route.Route.TheVariants.{ToChannel}
use Rattle.line_model.specs.basics.Bounds.{IsSaid}
use Rattle.line_model.specs.packets.Says.{packet_channel}
use Rattle.line_model.specs.basics.Records.{Item}
use Rattle.line_model.specs.channels.GapRestart.{GapInterfaceState, is_ready, routing}
use Rattle.line_model.specs.pieces.Pieces.{piece_rows, OccursOnce}
use Rattle.line_model.specs.pieces.Plan.{has_some}
use Rattle.line_model.proofs.Handed.{handed_in_range}
use Rattle.restart_epochs.specs.OpenRows.{OpenRows, rows_of, with_channel, with_gap, with_part, HasNoOthers}
use Rattle.restart_epochs.specs.Cutting.{Cutting, IsCutting, IsChannelRows, IsUnchanged, Represents, observer, places, rows_if, channels_if}
use Rattle.restart_epochs.specs.BlockCuts.{AreAdded, ChannelRows, HasAll, listed, parts_of, rows_on, with_rows}
use Rattle.restart_epochs.proofs.Cuts.{filter_each}
use Rattle.restart_epochs.proofs.Epochs.{some_taken}
use Rattle.restart_epochs.proofs.GapRows.{part_none, part_some}
use Rattle.restart_epochs.proofs.Listed.{insert_listed, none_listed}
use Rattle.restart_epochs.proofs.ListedRows.{all_but}
use Rattle.restart_epochs.proofs.Pushes.{served}
use Rattle.restart_epochs.proofs.Routes.{is_to_channel}
use Rattle.restart_epochs.proofs.Steps.{handed_at}

-- ---- parts of channels that occur once

-- no two parts are of one channel
abbrev pub AreOnce : List ChannelRows → Type 0
AreOnce [] = Unit {0}
AreOnce (p ∷ ps) = AllByRecursion (λ q. q.channel ≢ p.channel) ps × AreOnce ps

none_on : (k : ℕ) (ps : List ChannelRows) → AllByRecursion (λ q. q.channel ≢ k) ps → rows_on k ps ≡ []
none_on k [] h = refl
none_on k (p ∷ ps) h = ap (λ b. cond b (p.items ++ rows_on k ps) (rows_on k ps)) (ne_eqb p.channel k h.0) ∙ none_on k ps h.1

parts_other : (rows : ℕ → List Item) (f : ℕ → Bool) (a b n : ℕ) → a < b → AllByRecursion (λ (q : ChannelRows). q.channel ≢ a) (parts_of rows (filter f (range_with_len b n)))
parts_other rows f a b zero lt = tt
parts_other rows f a b (suc n) lt = at (f b) (parts_other rows f a (b + 1) n (omega (arith, lt)))
  where
    rest : List ℕ
    rest = filter f (range_with_len (b + 1) n)

    at : (v : Bool) → AllByRecursion (λ (q : ChannelRows). q.channel ≢ a) (parts_of rows rest) → AllByRecursion (λ (q : ChannelRows). q.channel ≢ a) (parts_of rows (cond v (b ∷ rest) rest))
    at true h = ((λ same. omega (arith, same, lt)), h)
    at false h = h

pub parts_once : (rows : ℕ → List Item) (f : ℕ → Bool) (b n : ℕ) → AreOnce (parts_of rows (filter f (range_with_len b n)))
parts_once rows f b zero = tt
parts_once rows f b (suc n) = at (f b) (parts_once rows f (b + 1) n)
  where
    rest : List ℕ
    rest = filter f (range_with_len (b + 1) n)

    at : (v : Bool) → AreOnce (parts_of rows rest) → AreOnce (parts_of rows (cond v (b ∷ rest) rest))
    at true h = (parts_other rows f b (b + 1) n (omega arith), h)
    at false h = h

-- ---- rows of parts

pub none_added : (gap : ℕ) (o : OpenRows) → AreAdded gap [] o o
none_added gap o = record { rows = λ k. refl; channels = refl }

added_at : (gap : ℕ) (p : ChannelRows) (ps : List ChannelRows) (before next : OpenRows) → HasAll gap p.channel p.items before next → AllByRecursion (λ q. q.channel ≢ p.channel) ps → (k : ℕ) (b : Bool) → eqb p.channel k ≡ b
    → with_part gap (rows_of next k) (rows_on k ps) ≡ with_part gap (rows_of before k) (cond b (p.items ++ rows_on k ps) (rows_on k ps))
added_at gap p ps before next h once k true e =
    let here = eqb-true p.channel k e in
    let none : rows_on k ps ≡ [] = ap (λ j. rows_on j ps) (sym here) ∙ none_on p.channel ps once in
    ap (with_part gap (rows_of next k)) none ∙ part_none gap (rows_of next k)
    ∙ ap (rows_of next) (sym here) ∙ h.rows ∙ ap (λ j. with_part gap (rows_of before j) p.items) here
    ∙ ap (with_part gap (rows_of before k)) (sym (ap (λ l. p.items ++ l) none ∙ append-nil p.items))
added_at gap p ps before next h once k false e =
    let ne = eqb-false p.channel k e in
    ap (λ l. with_part gap l (rows_on k ps)) (h.others k (λ q. ne (sym q)))

pub added_rows : (gap : ℕ) (ps : List ChannelRows) (before after : OpenRows) → AreAdded gap ps before after → AreOnce ps → (k : ℕ) → rows_of after k ≡ with_part gap (rows_of before k) (rows_on k ps)
added_rows gap [] before after h once k = h.rows k ∙ sym (part_none gap (rows_of before k))
added_rows gap (p ∷ ps) before after h once k = added_rows gap ps h.0 after h.2 once.1 k ∙ added_at gap p ps before h.0 h.1 once.0 k (eqb p.channel k) refl

-- a part with rows has a channel of 1 to `n`
abbrev pub AreWithin : ℕ → List ChannelRows → Type 0
AreWithin n [] = Unit {0}
AreWithin n (p ∷ ps) = (has_some p.items ≡ true → (1 ≤ p.channel) × (p.channel ≤ n)) × AreWithin n ps

pub some_behind : (xs ys : List Item) → has_some ys ≡ true → has_some (xs ++ ys) ≡ true
some_behind [] ys h = h
some_behind (x ∷ xs) ys h = refl

some_before : (xs ys : List Item) → has_some xs ≡ true → has_some (xs ++ ys) ≡ true
some_before [] ys h = absurd (true≢false (sym h))
some_before (x ∷ xs) ys h = refl

later_some : (b : Bool) (xs ys : List Item) → has_some ys ≡ true → has_some (cond b (xs ++ ys) ys) ≡ true
later_some true xs ys h = some_behind xs ys h
later_some false xs ys h = h

pub are_within : (n : ℕ) (ps : List ChannelRows) → ((k : ℕ) → has_some (rows_on k ps) ≡ true → (1 ≤ k) × (k ≤ n)) → AreWithin n ps
are_within n [] h = tt
are_within n (p ∷ ps) h = (
  λ some. h p.channel (ap (λ b. has_some (cond b (p.items ++ rows_on p.channel ps) (rows_on p.channel ps))) (eq-eqb p.channel p.channel refl) ∙ some_before p.items (rows_on p.channel ps) some),
  are_within n ps (λ k some. h k (later_some (eqb p.channel k) p.items (rows_on k ps) some)),
)

-- a channel has some of the rows that it had and of later ones
record HasSome (channel : ℕ) (items : List Item) (before next : OpenRows) : Type 0 where
  some : has_some (rows_of next channel) ≡ has_some (rows_of before channel ++ items)
  others : (k : ℕ) → k ≢ channel → rows_of next k ≡ rows_of before k
  channels : next.channels ≡ with_rows items (rows_of before channel) channel before.channels

-- a part lists its channel where it had no rows
part_listed : (n : ℕ) (p : ChannelRows) (before next : OpenRows) → HasSome p.channel p.items before next → (has_some p.items ≡ true → (1 ≤ p.channel) × (p.channel ≤ n)) → before.channels ≡ listed n (rows_of before) → next.channels ≡ listed n (rows_of next)
part_listed n p before next h within was = at p.items refl (rows_of before p.channel) refl
  where
    f : ℕ → Bool
    f k = has_some (rows_of before k)

    g : ℕ → Bool
    g k = has_some (rows_of next k)

    others : (k : ℕ) → k ≢ p.channel → g k ≡ f k
    others k ne = ap has_some (h.others k ne)

    each : (k : ℕ) (b : Bool) → eqb k p.channel ≡ b → g p.channel ≡ f p.channel → f k ≡ g k
    each k true e is = ap f (eqb-true k p.channel e) ∙ sym is ∙ ap g (sym (eqb-true k p.channel e))
    each k false e is = sym (others k (eqb-false k p.channel e))

    same : g p.channel ≡ f p.channel → listed n (rows_of before) ≡ listed n (rows_of next)
    same is = filter_each f g (λ k. each k (eqb k p.channel) refl is) (range_with_len 1 n)

    at : (items : List Item) → p.items ≡ items → (rows : List Item) → rows_of before p.channel ≡ rows → next.channels ≡ listed n (rows_of next)
    at [] e rows r = h.channels ∙ ap (λ l. with_rows l (rows_of before p.channel) p.channel before.channels) e ∙ was ∙ same (h.some ∙ ap has_some (ap (λ l. rows_of before p.channel ++ l) e ∙ append-nil (rows_of before p.channel)))
    at (item ∷ items) e (row ∷ rows) r = h.channels ∙ (λ j. with_rows (e j) (r j) p.channel before.channels) ∙ was
        ∙ same (h.some ∙ ap has_some (λ j. r j ++ e j) ∙ sym (ap has_some r))
    at (item ∷ items) e [] r =
        let in_range = within (ap has_some e) in
        h.channels ∙ (λ j. with_rows (e j) (r j) p.channel before.channels) ∙ ap (λ l. insert_key nat_cmp l p.channel) was
        ∙ sym (insert_listed f g p.channel 1 n in_range.0 (omega (arith, in_range.1)) (ap has_some r) (h.some ∙ ap has_some (λ j. r j ++ e j)) others)

all_some : (gap channel : ℕ) (items : List Item) (before next : OpenRows) → HasAll gap channel items before next → HasSome channel items before next
all_some gap channel items before next h = record { some = ap has_some h.rows ∙ part_some gap (rows_of before channel) items; others = h.others; channels = h.channels }

pub parts_listed : (n gap : ℕ) (ps : List ChannelRows) (before after : OpenRows) → AreAdded gap ps before after → AreWithin n ps → before.channels ≡ listed n (rows_of before) → after.channels ≡ listed n (rows_of after)
parts_listed n gap [] before after h within was = h.channels ∙ was ∙ filter_each (λ k. has_some (rows_of before k)) (λ k. has_some (rows_of after k)) (λ k. ap has_some (sym (h.rows k))) (range_with_len 1 n)
parts_listed n gap (p ∷ ps) before after h within was = parts_listed n gap ps h.0 after h.2 within.1 (part_listed n p before h.0 (all_some gap p.channel p.items before h.0 h.1) within.0 was)

-- a channel that has no rows is not listed, also once rows were added
others_all : (gap channel : ℕ) (items : List Item) (before after : OpenRows) → HasAll gap channel items before after → HasNoOthers before → HasNoOthers after
others_all gap channel items before after more none k all = at items refl (rows_of before channel) refl (subst (AllByRecursion (λ j. j ≢ k)) more.channels all)
  where
    none_here : AllByRecursion (λ j. j ≢ k) before.channels → (k ≡ channel → rows_of after k ≡ []) → rows_of after k ≡ []
    none_here left here = by (eqb k channel) refl
      where
        by : (b : Bool) → eqb k channel ≡ b → rows_of after k ≡ []
        by true e = here (eqb-true k channel e)
        by false e = more.others k (eqb-false k channel e) ∙ none k left

    at : (added : List Item) → items ≡ added → (was : List Item) → rows_of before channel ≡ was → AllByRecursion (λ j. j ≢ k) (with_rows added was channel before.channels) → rows_of after k ≡ []
    at [] e was is left = none_here left (λ same. ap (rows_of after) same ∙ more.rows ∙ (λ j. with_part gap (rows_of before (sym same j)) (e j)) ∙ part_none gap (rows_of before k) ∙ none k left)
    at (x ∷ xs) e [] is left =
        let not = all_but (λ j. j ≢ k) before.channels channel left in
        more.others k (λ same. not.0 (sym same)) ∙ none k not.1
    at (x ∷ xs) e (y ∷ ys) is left = none_here left (λ same. absurd (true≢false (sym (ap has_some is) ∙ ap (λ j. has_some (rows_of before j)) (sym same) ∙ ap has_some (none k left))))

pub others_added : (gap : ℕ) (ps : List ChannelRows) (before after : OpenRows) → AreAdded gap ps before after → HasNoOthers before → HasNoOthers after
others_added gap [] before after h none = λ k all. h.rows k ∙ none k (subst (AllByRecursion (λ j. j ≢ k)) h.channels all)
others_added gap (p ∷ ps) before after h none = others_added gap ps h.0 after h.2 (others_all gap p.channel p.items before h.0 h.1 none)

-- ---- one row more

-- a row lists its channel where it had no rows
pub listed_more : (n k : ℕ) (item : Item) (rows : List Item) (before after : OpenRows) → 1 ≤ k → k ≤ n → rows_of after k ≡ rows ++ item ∷ [] → ((j : ℕ) → j ≢ k → rows_of after j ≡ rows_of before j) → before.channels ≡ listed n (rows_of before)
    → listed n (rows_of after) ≡ with_channel (rows_of before k) k before.channels
listed_more n k item rows before after lo hi row others was =
    let next : OpenRows = record { open_channels = after.open_channels; channels = with_channel (rows_of before k) k before.channels } in
    let some : has_some (rows_of after k) ≡ has_some (rows_of before k ++ item ∷ []) = ap has_some row ∙ some_behind rows (item ∷ []) refl ∙ sym (some_behind (rows_of before k) (item ∷ []) refl) in
    sym (part_listed n (record { channel = k; items = item ∷ [] }) before next (record { some = some; others = others; channels = refl }) (λ h. (lo, hi)) was)

-- ---- of a cutter that represents some rows

listed_in : (i : Interface) (rs : List Item) (c : Cutting) → Represents i rs c → is_ready (observer i rs).level ≡ true → c.open_rows.channels ≡ listed i.svc (rows_of c.open_rows)
listed_in i rs c s ready =
    let n = (observer i rs).epoch in
    s.channels ∙ ap (λ b. channels_if b i (places i rs) n) ready
    ∙ filter_each (λ k. has_some (piece_rows n k (places i rs))) (λ k. has_some (rows_of c.open_rows k))
    (λ k. sym (ap has_some (s.rows k ∙ ap (λ b. rows_if b i (places i rs) n k) ready) ∙ some_taken i rs n k)) (range_with_len 1 i.svc)

-- it lists the channels that have rows
pub lists : (i : Interface) (rs : List Item) (c : Cutting) → Represents i rs c → c.open_rows.channels ≡ listed i.svc (rows_of c.open_rows)
lists i rs c s = at (is_ready (observer i rs).level) refl
  where
    at : (b : Bool) → is_ready (observer i rs).level ≡ b → c.open_rows.channels ≡ listed i.svc (rows_of c.open_rows)
    at true e = listed_in i rs c s e
    at false e = s.channels ∙ ap (λ b. channels_if b i (places i rs) (observer i rs).epoch) e
        ∙ sym (none_listed (λ k. has_some (rows_of c.open_rows k)) (range_with_len 1 i.svc) (λ k. ap has_some (s.rows k ∙ ap (λ b. rows_if b i (places i rs) (observer i rs).epoch k) e)))

once_within : (k a n : ℕ) → OccursOnce k (range_with_len a n) → (a ≤ k) × (k < a + n)
once_within k a zero once = absurd once
once_within k a (suc n) (inl w) = let here = w.0 in (omega (arith, here), omega (arith, here))
once_within k a (suc n) (inr w) = let rest = once_within k (a + 1) n w.1 in (omega (arith, rest.0), omega (arith, rest.1))

-- its rows are on channels of the interface
pub within_open : (i : Interface) (rs : List Item) (c : Cutting) → Represents i rs c → (k : ℕ) → has_some (rows_of c.open_rows k) ≡ true → (1 ≤ k) × (k ≤ i.svc)
within_open i rs c s k some = at (is_ready (observer i rs).level) refl
  where
    n : ℕ
    n = (observer i rs).epoch

    at : (b : Bool) → is_ready (observer i rs).level ≡ b → (1 ≤ k) × (k ≤ i.svc)
    at true e =
        let is = s.rows k ∙ ap (λ b. rows_if b i (places i rs) n k) e in
        let w = once_within k 1 i.svc (served i rs s.said n k (λ none. true≢false (sym some ∙ ap has_some is ∙ some_taken i rs n k ∙ ap has_some none))) in
        (w.0, omega (arith, w.1))
    at false e = absurd (true≢false (sym some ∙ ap has_some (s.rows k ∙ ap (λ b. rows_if b i (places i rs) n k) e)))

-- the interface is in r1, and the channels are the interface's
pub channel_within : (i : Interface) (l : GapInterfaceState) (item : Item) → (routing l item).route ≡ ToChannel → IsSaid i item → (1 ≤ packet_channel item.packet) × (packet_channel item.packet ≤ i.svc)
channel_within i l item to said =
    let h = ap is_to_channel to in
    handed_in_range i item (packet_channel item.packet) said (handed_at l item h)

-- ---- the same cutter

open_channel_same : (c c' : Cutting) (k : ℕ) → c.interface ≡ c'.interface → c.packets ≡ c'.packets → c.octets ≡ c'.octets → c.last ≡ c'.last → rows_of c.open_rows k ≡ rows_of c'.open_rows k
    → IsChannelRows c.interface k c.packets c.octets c.last (rows_of c.open_rows k) → IsChannelRows c'.interface k c'.packets c'.octets c'.last (rows_of c'.open_rows k)
open_channel_same c c' k interface packets octets last rows h =
    subst (λ (i : Interface). IsChannelRows i k c'.packets c'.octets c'.last (rows_of c'.open_rows k)) interface
    (subst (λ n. IsChannelRows c.interface k n c'.octets c'.last (rows_of c'.open_rows k)) packets
    (subst (λ n. IsChannelRows c.interface k c.packets n c'.last (rows_of c'.open_rows k)) octets
    (subst (λ n. IsChannelRows c.interface k c.packets c.octets n (rows_of c'.open_rows k)) last (subst (IsChannelRows c.interface k c.packets c.octets c.last) rows h))))

-- of one that has the same rows
pub same_bounds : (c after : Cutting) → IsUnchanged c after → IsCutting c → IsCutting after
same_bounds c after u h =
    let rows = h.rows in
    let last = h.last in
    let octets = h.octets in
    let epochs = h.epochs in
    let ids = h.ids in
    let channels = ap (λ (ks : List ℕ). length ks) u.open_rows.channels in
    record {
      rows = omega (arith, rows, u.packets, u.last);
      last = omega (arith, last, u.last);
      octets = omega (arith, octets, u.octets);
      epochs = omega (arith, epochs, u.epoch, u.packets);
      ids = omega (arith, ids, channels, u.given, u.packets);
      gaps = let gaps = h.gaps in omega (arith, gaps, u.gaps, u.packets);
      gap = let gap = h.gap in omega (arith, gap, u.gap, u.last);
      recorded = same_recorded h.recorded;
      open_channels = λ k. open_channel_same c after k (sym u.interface) (sym u.packets) (sym u.octets) (sym u.last) (sym (u.open_rows.rows k)) (h.open_channels k);
    }
  where
    same_recorded : (c.gap ≡ 0) ⊎ (c.interface.gaps ≡ true) → (after.gap ≡ 0) ⊎ (after.interface.gaps ≡ true)
    same_recorded (inl none) = inl (u.gap ∙ none)
    same_recorded (inr are) = inr (ap (λ (i : Interface). i.gaps) u.interface ∙ are)

pub same_represents : (i : Interface) (rs : List Item) (c after : Cutting) → IsUnchanged c after → Represents i rs c → Represents i rs after
same_represents i rs c after u s = record {
  said = s.said;
  interface = u.interface ∙ s.interface;
  level = u.level ∙ s.level;
  epoch = u.epoch ∙ s.epoch;
  start = u.start ∙ s.start;
  packets = u.packets ∙ s.packets;
  gaps = u.gaps ∙ s.gaps;
  findings = u.findings ∙ s.findings;
  given = u.given ∙ s.given;
  rows = λ k. u.open_rows.rows k ∙ s.rows k;
  items = λ k. (λ j. with_gap (u.gap j) (u.open_rows.rows k j)) ∙ s.items k;
  channels = u.open_rows.channels ∙ s.channels;
  epochs = s.epochs;
}
