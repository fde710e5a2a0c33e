-- Vectors that are computed lane by lane, and the octets that 32 bytes write.
use Rattle.std.proofs.Common.{◌≡◌, ◌∙◌, w64, eqb, sym, ap, ap₂, refl, subst, ℕ, ◌+◌, ◌-◌, ◌*◌, ◌/◌, ◌%◌, ◌^◌, ◌<◌, ◌≤◌, Bool, true, false, cond, List, [], ◌∷◌, map, length, drop, take, get_or, replicate, ltb, leb, arith, w8, get_or-take, length-take-le, inl, inr}
use Rattle.std.specs.Prelude.{◌⊎◌, suc, zero, Option, Some, None, is_some, not}
use Rattle.std.specs.List.{AllPass}
use Rattle.std.proofs.lemmas.List.Elements.{All-get_or}
use Rattle.hex.specs.Hex.{hex_digit_value, is_hex_digit}
use Rattle.std.specs.List.{prefix_len, range_with_len}
use Rattle.std.proofs.lemmas.List.Sums.{prefix_len-le-length, prefix_len_passes}
use Rattle.std.proofs.lemmas.Bool.{eqb-false, eqb-true, not-true}
use Rattle.std.proofs.lemmas.Bool.Decides.{nat_tests}
use Rattle.std.proofs.lemmas.List.{get_or-map, length-map}
use Rattle.std.proofs.lemmas.List.FromFn.{get_or-map-range_with_len}
use Rattle.std.proofs.lemmas.Simd.{bit_mask_l, Each1-from_get_or, Each1-get_or, get_or_wider, leading_from_mask_l, map-map, mask_l-lt, mask_l-mod, tops_compared, trailing_mask_l, zip2-map, zip2_splat_left}
use lib.Count.{count_trailing_zeros}
use Rattle.std.specs.Int.{bit_at, trailing_ones}
use Rattle.std.proofs.lemmas.Nat.Bits.{bit_at-trailing_ones, bit_at_ones}
use lib.Lanes.{Each1, chunk, digits_l, number_l, zip2, mask_l, sel_l, top}
use Rattle.trace_text.specs.Digits.{AreDigitValues, AreOctets, HasDecoded, HasValues, IsDigitValue, octet_of}
use Rattle.trace_text.proofs.DigitLemmas.{octets-each, right_octet}
use Rattle.trace_text.proofs.DigitValueLemmas.{are_hits, are_values, table_hit, table_value}

-- what is computed of v, lane by lane
pub itself : (v : List ℕ) → v ≡ map (λ x. x) v
itself [] = refl
itself (x ∷ xs) = ap (λ r. x ∷ r) (itself xs)

pub splat_is : (v : List ℕ) (n y : ℕ) → length v ≡ n → replicate n y ≡ map (λ _. y) v
splat_is [] n y e = ap (λ k. replicate k y) (sym e)
splat_is (x ∷ xs) n y e = ap (λ k. replicate k y) (sym e) ∙ ap (λ r. y ∷ r) (splat_is xs (length xs) y refl)

pub joined : (h : ℕ → ℕ → ℕ) (f g : ℕ → ℕ) (v : List ℕ) {a b : List ℕ} → a ≡ map f v → b ≡ map g v → zip2 h a b ≡ map (λ x. h (f x) (g x)) v
joined h f g v p q = ap₂ (zip2 h) p q ∙ zip2-map h f g v

chosen : (p : ℕ → Bool) (f g : ℕ → ℕ) (v : List ℕ) → sel_l (map p v) (map f v) (map g v) ≡ map (λ x. cond (p x) (f x) (g x)) v
chosen p f g [] = refl
chosen p f g (x ∷ xs) = ap (λ r. cond (p x) (f x) (g x) ∷ r) (chosen p f g xs)

pub selected : (h f g : ℕ → ℕ) (v : List ℕ) {a b d : List ℕ} → a ≡ map h v → b ≡ map f v → d ≡ map g v → sel_l (map (top 7) a) b d ≡ map (λ x. cond (top 7 (h x)) (f x) (g x)) v
selected h f g v {a} {b} {d} p q r =
    ap (λ (xs : List ℕ). sel_l (map (top 7) xs) b d) p ∙ ap₂ (λ (ys zs : List ℕ). sel_l (map (top 7) (map h v)) ys zs) q r
    ∙ ap (λ (ms : List Bool). sel_l ms (map f v) (map g v)) (map-map (top 7) h v) ∙ chosen (λ x. top 7 (h x)) f g v

-- what holds of each byte and what the function gives for it holds lane by lane
all_lanes : (P : ℕ → ℕ → Type 0) (f : ℕ → ℕ) (v result : List ℕ) → Each1 (λ d. d < 256) v → result ≡ map f v → ((d : ℕ) → d < 256 → P d (get_or (map f (range_with_len 0 256)) d 0)) → (length result ≡ length v) × ((i : ℕ) → i < length v → P (get_or v i 0) (get_or result i 0))
all_lanes P f v result bytes e all = (
  ap (λ (xs : List ℕ). length xs) e ∙ length-map v f,
  λ i there.
      let byte : get_or v i 0 < 256 = Each1-get_or (λ d. d < 256) v i 0 there bytes in
      let at : get_or (map f (range_with_len 0 256)) (get_or v i 0) 0 ≡ f (get_or v i 0) = get_or-map-range_with_len f 0 256 (get_or v i 0) (get_or v i 0) 0 byte (omega arith) in
      let lane : get_or result i 0 ≡ f (get_or v i 0) = ap (λ (xs : List ℕ). get_or xs i 0) e ∙ get_or-map f v i 0 0 there in
      subst (P (get_or v i 0)) (at ∙ sym lane) (all (get_or v i 0) byte),
)

-- the values of digits, where the function gives those of all bytes
pub all_values : (f : ℕ → ℕ) (v result : List ℕ) → Each1 (λ d. d < 256) v → result ≡ map f v → are_values 0 (map f (range_with_len 0 256)) ≡ true → AreDigitValues v result
all_values f v result bytes e all = all_lanes IsDigitValue f v result bytes e (λ d byte. table_value (map f (range_with_len 0 256)) d all byte)

-- a digit has 128 or more, and no other byte
abbrev pub AreHits : List ℕ → List ℕ → Type 0
AreHits bytes hits = (length hits ≡ length bytes) × ((i : ℕ) → i < length bytes → not (ltb (get_or hits i 0) 128) ≡ is_hex_digit (get_or bytes i 0))

pub all_hits : (f : ℕ → ℕ) (v result : List ℕ) → Each1 (λ d. d < 256) v → result ≡ map f v → are_hits 0 (map f (range_with_len 0 256)) ≡ true → AreHits v result
all_hits f v result bytes e all = all_lanes (λ d m. not (ltb m 128) ≡ is_hex_digit d) f v result bytes e (λ d byte. table_hit (map f (range_with_len 0 256)) d all byte)

-- which lanes a limit compares with so, as a mask
abbrev pub mask_of : (ℕ → ℕ → Bool) → ℕ → ℕ → List ℕ → ℕ
mask_of t n limit v = mask_l (map (top 7) (zip2 (λ a b. cond (t a b) 255 0) (replicate n limit) v)) % 2 ^ 64

mask_is : (t : ℕ → ℕ → Bool) (n limit : ℕ) (v : List ℕ) → length v ≡ n → n ≤ 64 → mask_of t n limit v ≡ mask_l (map (t limit) v)
mask_is t n limit v long few =
    ap (λ (ms : List Bool). mask_l ms % 2 ^ 64) (tops_compared w8 t (replicate n limit) v ∙ zip2_splat_left t limit n v long) ∙ mask_l-mod (map (t limit) v) 64 (omega (arith, length-map v (t limit), long, few))

not_great : (most x : ℕ) → ltb most x ≡ false → x ≤ most
not_great most x k = grind (arith, nat_tests)

-- where a mask has no bit, no lane passes the test
pub none_passes : (p : ℕ → Bool) (v : List ℕ) (m n : ℕ) → length v ≡ n → m ≡ mask_l (map p v) → m ≡ 0 → (i : ℕ) → i < n → p (get_or v i 0) ≡ false
none_passes p v m n long mask none i h = not-true _ (prefix_len_passes (λ x. not (p x)) v i 0 (omega (arith, h, long, leading_from_mask_l p v (sym mask ∙ none))))

-- and no lane before the lowest bit
pub first_passes : (p : ℕ → Bool) (v : List ℕ) (m n : ℕ) → length v ≡ n → n ≤ 64 → m ≡ mask_l (map p v) → 0 < m → (count_trailing_zeros 64 m ≤ n) × ((i : ℕ) → i < count_trailing_zeros 64 m → p (get_or v i 0) ≡ false)
first_passes p v m n long few mask some =
    let count : count_trailing_zeros 64 m ≡ prefix_len (λ x. not (p x)) v =
    ap (count_trailing_zeros 64) mask ∙ trailing_mask_l p 64 v (omega (arith, long, few)) (omega (arith, mask, some)) in
    (omega (arith, count, long, prefix_len-le-length (λ x. not (p x)) v), λ i h. not-true _ (prefix_len_passes (λ x. not (p x)) v i 0 (omega (arith, h, count))))

is_set : (b : Bool) → ◌≡◌ {A = ℕ} (cond b 1 0) 1 → b ≡ true
is_set true h = refl
is_set false h = cc

lane_passes : (p : ℕ → Bool) (v : List ℕ) (m i : ℕ) → m ≡ mask_l (map p v) → i < length v → bit_at m i ≡ 1 → p (get_or v i 0) ≡ true
lane_passes p v m i mask there bit = sym (get_or-map p v i 0 false there) ∙ is_set (get_or (map p v) i false) (sym (bit_mask_l (map p v) i) ∙ ap (λ (n : ℕ). bit_at n i) (sym mask) ∙ bit)

not_less : (least x : ℕ) → leb least x ≡ true → not (ltb x least) ≡ true
not_less least x k = grind (arith, nat_tests, k)

-- each lane of 64 before the lowest bit that is not set is the limit or more
pub first_least : (least : ℕ) (v : List ℕ) → length v ≡ 64 →
    (trailing_ones w64 (mask_of leb 64 least v) ≤ 64) × ((i : ℕ) → i < trailing_ones w64 (mask_of leb 64 least v) → not (ltb (get_or v i 0) least) ≡ true)
unfolding count_trailing_zeros
first_least least v long = at (eqb m (2 ^ 64 - 1)) refl
  where
    m : ℕ
    m = mask_of leb 64 least v

    mask : m ≡ mask_l (map (leb least) v)
    mask = mask_is leb 64 least v long (omega arith)

    below : m < 2 ^ 64
    below = subst (λ (n : ℕ). n < 2 ^ 64) (sym mask) (subst (λ (k : ℕ). mask_l (map (leb least) v) < 2 ^ k) (length-map v (leb least) ∙ long) (mask_l-lt (map (leb least) v)))

    reaches : (i : ℕ) → i < 64 → bit_at m i ≡ 1 → not (ltb (get_or v i 0) least) ≡ true
    reaches i h bit = not_less least (get_or v i 0) (lane_passes (leb least) v m i mask (omega (arith, h, long)) bit)

    at : (all : Bool) → eqb m (2 ^ 64 - 1) ≡ all → (trailing_ones w64 m ≤ 64) × ((i : ℕ) → i < trailing_ones w64 m → not (ltb (get_or v i 0) least) ≡ true)
    at true e =
        let all : m ≡ 2 ^ 64 - 1 = eqb-true m (2 ^ 64 - 1) e in
        let count : trailing_ones w64 m ≡ 64 = ap (trailing_ones w64) all in
        (omega (arith, count), λ i h. let there : i < 64 = omega (arith, h, count) in reaches i there (ap (λ (n : ℕ). bit_at n i) all ∙ bit_at_ones 64 i there))
    at false e =
        let lowest = bit_at-trailing_ones w64 m (omega (arith, below, eqb-false m (2 ^ 64 - 1) e)) in
        (omega (arith, lowest.0), λ i h. reaches i (omega (arith, h, lowest.0)) (lowest.2 i h))

pub none_great : (n most : ℕ) (v : List ℕ) → length v ≡ n → n ≤ 64 → mask_of ltb n most v ≡ 0 → (i : ℕ) → i < n → get_or v i 0 ≤ most
none_great n most v long few none i h = not_great most (get_or v i 0) (none_passes (ltb most) v (mask_of ltb n most v) n long (mask_is ltb n most v long few) none i h)

pub first_great : (n most : ℕ) (v : List ℕ) → length v ≡ n → n ≤ 64 → 0 < mask_of ltb n most v → (count_trailing_zeros 64 (mask_of ltb n most v) ≤ n) × ((i : ℕ) → i < count_trailing_zeros 64 (mask_of ltb n most v) → get_or v i 0 ≤ most)
first_great n most v long few some =
    let first = first_passes (ltb most) v (mask_of ltb n most v) n long few (mask_is ltb n most v long few) some in
    (first.0, λ i h. not_great most (get_or v i 0) (first.1 i h))

-- the octets that pairs of values make: a pair is a + 256 * b, and its octet is the second byte of that times 4,097
abbrev pub pair_octets : List ℕ → List ℕ
pair_octets values = map (λ x. x * 4097 % 65536 / 256) (digits_l 65536 16 (number_l 256 values))

small_value : (digit value : ℕ) → IsDigitValue digit value → value < 256
small_value digit value (inl r) = omega (arith, r.0)
small_value digit value (inr w) = w.1

chunk_two : (xs : List ℕ) (m : ℕ) → suc m < length xs → chunk m 2 xs ≡ get_or xs m 0 ∷ get_or xs (suc m) 0 ∷ []
chunk_two [] m h = absurd (omega (arith, h))
chunk_two (x ∷ []) m h = absurd (omega (arith, h))
chunk_two (x ∷ y ∷ xs) zero h = refl
chunk_two (x ∷ y ∷ xs) (suc m) h = chunk_two (y ∷ xs) m (omega (arith, h))

one_octet : (bytes values : List ℕ) (n i : ℕ) → length values ≡ 32 → ((i : ℕ) → i < 32 → IsDigitValue (get_or bytes i 0) (get_or values i 0)) → ((i : ℕ) → i < n → get_or values i 0 < 16) → n ≤ 32 → 2 * i + 1 < n →
    octet_of (get_or bytes (2 * i) 0) (get_or bytes (2 * i + 1) 0) ≡ Some (get_or (pair_octets values) i 0)
one_octet bytes values n i size are small few h =
    let a : ℕ = get_or values (2 * i) 0 in
    let b : ℕ = get_or values (2 * i + 1) 0 in
    let ha : a < 16 = small (2 * i) (omega (arith, h)) in
    let hb : b < 16 = small (2 * i + 1) h in
    let bytes_are : Each1 (λ x. x < 256) values = Each1-from_get_or (λ x. x < 256) values 0 (λ k l. small_value (get_or bytes k 0) (get_or values k 0) (are k (omega (arith, l, size)))) in
    let next : suc (2 * i) ≡ 2 * i + 1 = omega arith in
    let pair : get_or (digits_l 65536 16 (number_l 256 values)) i 0 ≡ a + 256 * b =
    get_or_wider 256 2 65536 16 values i refl bytes_are (omega (arith, h, few))
    ∙ ap (number_l 256) (chunk_two values (2 * i) (omega (arith, h, few, size)) ∙ ap (λ (k : ℕ). get_or values (2 * i) 0 ∷ get_or values k 0 ∷ []) next) ∙ omega arith in
    let octet : get_or (pair_octets values) i 0 ≡ a * 16 + b =
    get_or-map (λ x. x * 4097 % 65536 / 256) (digits_l 65536 16 (number_l 256 values)) i 0 0 (omega (arith, h, few)) ∙ ap (λ (x : ℕ). x * 4097 % 65536 / 256) pair ∙ omega (arith, ha, hb) in
    right_octet (get_or bytes (2 * i) 0) (get_or bytes (2 * i + 1) 0) a b (get_or (pair_octets values) i 0) octet (are (2 * i) (omega (arith, h, few))) (are (2 * i + 1) (omega (arith, h, few))) ha hb

is_value : (o : Option ℕ) (value : ℕ) → is_some o ≡ true → ((value < 16) × (o ≡ Some value)) ⊎ ((15 < value) × (value < 256) × (o ≡ None)) → value < 16
is_value o value h (inl r) = r.0
is_value None value h (inr w) = cc
is_value (Some v) value h (inr w) = cc

-- the first pairs that are digits
block-octets : (bytes values : List ℕ) (k : ℕ) → 2 * k ≤ length bytes → length values ≡ 32 → ((i : ℕ) → i < 32 → IsDigitValue (get_or bytes i 0) (get_or values i 0)) → k ≤ 16 → AllPass is_hex_digit (take (2 * k) bytes) → AreOctets (take (2 * k) bytes) (take k (pair_octets values))
block-octets bytes values k there lanes are few hex =
    let octets : List ℕ = pair_octets values in
    let bytes_len : length (take (2 * k) bytes) ≡ 2 * k = length-take-le (2 * k) bytes there in
    let octets_len : length (take k octets) ≡ k = length-take-le k octets (omega (arith, few)) in
    let small = λ (i : ℕ) (l : i < 2 * k). is_value (hex_digit_value (get_or bytes i 0)) (get_or values i 0)
    (ap is_hex_digit (sym (get_or-take (2 * k) bytes i 0 l)) ∙ All-get_or (λ b. is_hex_digit b ≡ true) (take (2 * k) bytes) i 0 (omega (arith, l, bytes_len)) hex) (are i (omega (arith, l, few))) in
    octets-each (take (2 * k) bytes) (take k octets) (omega (arith, bytes_len, octets_len)) (λ i l.
    let less : i < k = omega (arith, l, octets_len) in
    let high : get_or (take (2 * k) bytes) (2 * i) 0 ≡ get_or bytes (2 * i) 0 = get_or-take (2 * k) bytes (2 * i) 0 (omega (arith, less)) in
    let low : get_or (take (2 * k) bytes) (2 * i + 1) 0 ≡ get_or bytes (2 * i + 1) 0 = get_or-take (2 * k) bytes (2 * i + 1) 0 (omega (arith, less)) in
    let octet : get_or (take k octets) i 0 ≡ get_or octets i 0 = get_or-take k octets i 0 less in
    rw (high, low, octet) (one_octet bytes values (2 * k) i lanes are small (omega (arith, few)) (omega (arith, less))))

pub decodes-values : (text values : List ℕ) → HasValues text values → HasDecoded text (pair_octets values) (drop 32 text)
decodes-values text values has = record {
  left = let all : 32 ≡ 2 * length (pair_octets values) = omega arith in ap (λ (n : ℕ). drop n text) all;
  octets_are = λ k few there hex. block-octets text values k there has.0 has.1 (omega (arith, few)) hex;
}
