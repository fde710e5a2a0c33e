-- What a batch keeps stays as it is where octets are appended.
use Rattle.std.proofs.Common.{◌≡◌, ◌∙◌, ap, refl, sym, ℕ, ◌+◌, ◌-◌, ◌<◌, ◌≤◌, List, [], ◌∷◌, ◌++◌, length, drop, take, map, arith, get_or}
use Rattle.std.proofs.lemmas.List.{at_drop_more, drop-append-le, drop-map, length-drop, map-append, take-append-le}
use Rattle.xot_circuits.specs.Items.{Item}
use Rattle.xot_circuits.specs.Items as item
use Rattle.capture_report.specs.CircuitBatches.{AreWithin, IsPacketWithin, IsWithin, items_kept, kept_view, packet_view}
use Rattle.capture_report.specs.declared.circuit_batch.Kept.{Kept}
use Rattle.capture_report.specs.declared.circuit_batch.Kept.TheVariants as kept
use Rattle.capture_report.specs.declared.circuit_batch.KeptPacket.{KeptPacket}

packet_stays : (octets more : List ℕ) (k : KeptPacket) → IsPacketWithin (length octets) k → packet_view (octets ++ more) k ≡ packet_view octets k
packet_stays octets more k h =
    let from : k.from ≤ length octets = omega (arith, h.0, h.1) in
    let to : k.to - k.from ≤ length (drop k.from octets) = omega (arith, h.0, h.1, length-drop k.from octets) in
    ap (λ xs. record { origin = k.origin; side = k.side; what = k.what; octets = take (k.to - k.from) xs }) (drop-append-le k.from octets more from)
    ∙ ap (λ xs. record { origin = k.origin; side = k.side; what = k.what; octets = xs }) (take-append-le (k.to - k.from) (drop k.from octets) more to)

item_stays : (octets more : List ℕ) (k : Kept) → IsWithin (length octets) k → kept_view (octets ++ more) k ≡ kept_view octets k
item_stays octets more (kept.Packet k) h = ap (λ s. item.Packet s) (packet_stays octets more k h)
item_stays octets more (kept.Gap g) h = refl
item_stays octets more (kept.LeftOut k) h = ap (λ s. item.LeftOut s) (packet_stays octets more k h)
item_stays octets more (kept.Ended e) h = refl

items_stay : (octets more : List ℕ) (ks : List Kept) → AreWithin (length octets) ks → items_kept (octets ++ more) ks ≡ items_kept octets ks
items_stay octets more [] h = refl
items_stay octets more (k ∷ ks) h =
    ap (λ x. x ∷ items_kept (octets ++ more) ks) (item_stays octets more k h.0) ∙ ap (λ xs. kept_view octets k ∷ xs) (items_stay octets more ks h.1)

is_within_more : (n m : ℕ) (k : Kept) → n ≤ m → IsWithin n k → IsWithin m k
is_within_more n m (kept.Packet k) few h = (h.0, omega (arith, few, h.1))
is_within_more n m (kept.Gap g) few h = h
is_within_more n m (kept.LeftOut k) few h = (h.0, omega (arith, few, h.1))
is_within_more n m (kept.Ended e) few h = h

pub are_within_more : (n m : ℕ) (ks : List Kept) → n ≤ m → AreWithin n ks → AreWithin m ks
are_within_more n m [] few h = h
are_within_more n m (k ∷ ks) few h = (is_within_more n m k few h.0, are_within_more n m ks few h.1)

pub are_within_with : (n : ℕ) (ks : List Kept) (k : Kept) → AreWithin n ks → IsWithin n k → AreWithin n (ks ++ k ∷ [])
are_within_with n [] k h own = (own, tt)
are_within_with n (x ∷ xs) k h own = (h.0, are_within_with n xs k h.1 own)

-- one more item
pub items_with : (octets more : List ℕ) (ks : List Kept) (k : Kept) (x : Item) → AreWithin (length octets) ks → kept_view (octets ++ more) k ≡ x
    → items_kept (octets ++ more) (ks ++ k ∷ []) ≡ items_kept octets ks ++ x ∷ []
items_with octets more ks k x h is =
    map-append (kept_view (octets ++ more)) ks (k ∷ [])
    ∙ ap (λ xs. xs ++ kept_view (octets ++ more) k ∷ []) (items_stay octets more ks h)
    ∙ ap (λ y. items_kept octets ks ++ y ∷ []) is

-- one of them
pub items_at : (octets : List ℕ) (ks : List Kept) (i : ℕ) (k : Kept) → i < length ks → k ≡ get_or ks i k
    → drop i (items_kept octets ks) ≡ kept_view octets k ∷ drop (i + 1) (items_kept octets ks)
items_at octets ks i k few is =
    drop-map (kept_view octets) i ks ∙ at_drop_more (map (kept_view octets)) ks i k few
    ∙ ap (λ x. kept_view octets x ∷ map (kept_view octets) (drop (i + 1) ks)) (sym is)
    ∙ ap (λ xs. kept_view octets k ∷ xs) (sym (drop-map (kept_view octets) (i + 1) ks))
