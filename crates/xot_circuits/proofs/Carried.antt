-- What octets are, packet by packet.
use Rattle.std.proofs.Common.{◌≡◌, ◌∙◌, sym, ap, ap₂, refl, ℕ, zero, suc, ◌+◌, ◌<◌, ◌≤◌, Bool, true, false, cond, List, [], ◌∷◌, ◌++◌, append_assoc, append-nil, arith, drop, flat_map, length, length-append, length-drop, nat_le, take}
use Rattle.std.proofs.lemmas.Bool.{le-leb, lt-leb}
use Rattle.std.proofs.Math.Seq.{drop-append_seam, take-append_seam}
use Rattle.xot_circuits.specs.Exchanges.{Contents, OtherVersion, Rest, Then, SplitIsRead, behind, contents_by, contents_of, direction_of, carried, packets_then, refused, sent}
use Rattle.xot_circuits.specs.Items.{Item}
use Rattle.xot_circuits.specs.Packets.{IsPartial, IsPartialBy, header, xot}
use Rattle.xot_circuits.specs.Streams.{IsNext, StreamView}
use Rattle.xot_circuits.specs.declared.exchange.Dialogue.{Dialogue}
use Rattle.xot_circuits.specs.declared.header.Header.{Header}
use Rattle.xot_circuits.specs.declared.header.Header.TheVariants as headers
use Rattle.xot_circuits.specs.declared.item.Origin.{Origin}
use Rattle.xot_circuits.specs.declared.stream.Found.TheVariants as found
use Rattle.xot_circuits.proofs.Splitting.{header_xot}

-- a packet at the front of octets, with a bound
then_by : (n m : ℕ) (octets p more : List ℕ) → 4 + m ≤ length octets → take m (drop 4 octets) ≡ p → drop (4 + m) octets ≡ more
    → contents_by (suc n) (headers.Length m) octets ≡ Then p (contents_by n (header more) more)
unfolding contents_by
then_by n m octets p more le p_is more_is =
    ap (λ b. cond b (Then (take m (drop 4 octets)) (contents_by n (header (drop (4 + m) octets)) (drop (4 + m) octets))) (Rest octets)) (le-leb (4 + m) (length octets) le)
    ∙ (ap (λ xs. Then xs (contents_by n (header (drop (4 + m) octets)) (drop (4 + m) octets))) p_is
    ∙ ap (λ xs. Then p (contents_by n (header xs) xs)) more_is)

rest_by : (n : ℕ) (h : Header) (xs : List ℕ) → IsPartialBy h (length xs) → contents_by n h xs ≡ Rest xs
unfolding contents_by
rest_by zero h xs p = refl
rest_by (suc n) headers.Cut xs p = refl
rest_by (suc n) (headers.OtherVersion v) xs p = absurd p
rest_by (suc n) (headers.Length m) xs p =
    ap (λ b. cond b (Then (take m (drop 4 xs)) (contents_by n (header (drop (4 + m) xs)) (drop (4 + m) xs))) (Rest xs)) (lt-leb (4 + m) (length xs) p)

-- a greater bound makes no difference
same_by : (m n : ℕ) (xs : List ℕ) → length xs ≤ suc m → length xs ≤ suc n
    → ((ys : List ℕ) → length ys ≤ m → length ys ≤ n → contents_by m (header ys) ys ≡ contents_by n (header ys) ys)
    → (h : Header) → contents_by (suc m) h xs ≡ contents_by (suc n) h xs
unfolding contents_by
same_by m n xs a b again headers.Cut = refl
same_by m n xs a b again (headers.OtherVersion v) = refl
same_by m n xs a b again (headers.Length k) =
    let size = length-drop (4 + k) xs in
    ap (λ c. cond (nat_le (4 + k) (length xs)) (Then (take k (drop 4 xs)) c) (Rest xs)) (again (drop (4 + k) xs) (omega (arith, size, a)) (omega (arith, size, b)))

contents_same : (m n : ℕ) (xs : List ℕ) → length xs ≤ m → length xs ≤ n → contents_by m (header xs) xs ≡ contents_by n (header xs) xs
unfolding contents_by
contents_same zero zero xs a b = refl
contents_same zero (suc n) [] a b = refl
contents_same zero (suc n) (x ∷ xs) a b = absurd (omega (arith, a))
contents_same (suc m) zero [] a b = refl
contents_same (suc m) zero (x ∷ xs) a b = absurd (omega (arith, b))
contents_same (suc m) (suc n) xs a b = same_by m n xs a b (contents_same m n) (header xs)

-- less than a whole packet
pub rest_is : (octets : List ℕ) → IsPartial octets → contents_of octets ≡ Rest octets
rest_is octets p = rest_by (length octets) (header octets) octets p

-- the header of another version
pub other_is : (octets : List ℕ) (v : ℕ) → header octets ≡ headers.OtherVersion v → contents_of octets ≡ OtherVersion
unfolding contents_by
other_is [] v h = absurd (cc h)
other_is (x ∷ xs) v h = ap (λ (k : Header). contents_by (suc (length xs)) k (x ∷ xs)) h

-- a packet, and what comes after it
pub then_is : (p more : List ℕ) → contents_of (xot p ++ more) ≡ Then p (contents_of more)
then_is p more =
    let size = length-append p more in
    let n = suc (suc (suc (length (p ++ more)))) in
    let steps : 4 + length p ≡ suc (suc (suc (suc (length p)))) = omega arith in
    ap (λ (h : Header). contents_by (suc n) h (xot p ++ more)) (header_xot p more)
    ∙ (then_by n (length p) (xot p ++ more) p more (omega (arith, size)) (take-append_seam p more) (ap (λ k. drop k (xot p ++ more)) steps ∙ drop-append_seam p more)
    ∙ ap (Then p) (contents_same n (length more) more (omega (arith, size)) (omega arith)))

-- less than a packet is kept
pub carried_rest : (o : Origin) (d : Dialogue) (items : List Item) (octets left : List ℕ) (s : StreamView) → IsNext octets found.Partial left s
    → behind items (carried o (contents_of octets) d) ≡ record { direction = direction_of s; after = d; items = items }
carried_rest o d items octets left s n =
    ap (λ (c : Contents). behind items (carried o c d)) (rest_is octets n.1)
    ∙ (ap (λ (xs : List Item). record { direction = record { rest = octets; is_sought = false }; after = d; items = xs }) (append-nil items)
    ∙ ap₂ (λ (r : List ℕ) (b : Bool). record { direction = record { rest = r; is_sought = b }; after = d; items = items }) (sym n.0) (sym n.3))

-- another version is refused
pub carried_other : (o : Origin) (d after : Dialogue) (items : List Item) (octets left : List ℕ) (v passed : ℕ) (s : StreamView) → IsNext octets (found.OtherVersion v passed) left s
    → after ≡ refused o d → behind items (carried o (contents_of octets) d) ≡ record { direction = direction_of s; after = after; items = items }
carried_other o d after items octets left v passed s n e =
    ap (λ (c : Contents). behind items (carried o c d)) (other_is octets v n.0)
    ∙ (ap (λ (xs : List Item). record { direction = record { rest = []; is_sought = true }; after = refused o d; items = xs }) (append-nil items)
    ∙ (ap₂ (λ (r : List ℕ) (b : Bool). record { direction = record { rest = r; is_sought = b }; after = refused o d; items = items }) (sym n.2) (sym n.4)
    ∙ ap (λ (a : Dialogue). record { direction = direction_of s; after = a; items = items }) (sym e)))

-- a packet is carried, and then what comes after it
pub carried_then : (o : Origin) (d after : Dialogue) (items more : List Item) (before piece p left : List ℕ) (s : StreamView)
    → (before ++ piece ≡ xot p ++ (s.rest ++ left)) × (s.is_sought ≡ false)
    → after ≡ (sent o p d).after → more ≡ items ++ (sent o p d).items
    → (behind items (carried o (contents_of (before ++ piece)) d) ≡ behind more (carried o (contents_of (s.rest ++ left)) after))
    × (length s.rest + length left < length before + length piece) × (s.is_sought ≡ false)
carried_then o d after items more before piece p left s n after_is more_is =
    let rest = carried o (contents_of (s.rest ++ left)) (sent o p d).after in
    let size = ap length n.0 in (
      ap (λ (xs : List ℕ). behind items (carried o (contents_of xs) d)) n.0
          ∙ (ap (λ (c : Contents). behind items (carried o c d)) (then_is p (s.rest ++ left))
          ∙ (ap (λ (xs : List Item). record { direction = rest.direction; after = rest.after; items = xs }) (sym (append_assoc items (sent o p d).items rest.items))
          ∙ ap₂ (λ (xs : List Item) (a : Dialogue). behind xs (carried o (contents_of (s.rest ++ left)) a)) (sym more_is) (sym after_is))),
      omega (arith, size, length-append before piece, length-append p (s.rest ++ left), length-append s.rest left),
      n.1,
    )

-- octets that are split into packets
split_by : (packets : List (List ℕ)) (rest : List ℕ) → IsPartial rest → contents_of (flat_map xot packets ++ rest) ≡ packets_then packets rest
split_by [] rest partial = rest_is rest partial
split_by (p ∷ ps) rest partial =
    ap contents_of (append_assoc (xot p) (flat_map xot ps) rest)
    ∙ (then_is p (flat_map xot ps ++ rest) ∙ ap (Then p) (split_by ps rest partial))

pub split_is_read : SplitIsRead
split_is_read octets packets rest s = ap contents_of s.whole ∙ split_by packets rest s.partial
