-- Headers, and the packets after them.
use Rattle.std.proofs.Common.{◌≡◌, ◌∙◌, sym, ap, refl, subst, ℕ, ◌+◌, ◌*◌, ◌/◌, ◌%◌, ◌<◌, ◌≤◌, ◌==◌, Bool, true, false, cond, List, [], ◌∷◌, ◌++◌, ◌⊎◌, inl, inr, ap₂, arith, drop, get_or, length, length-take-le, take, take-append-drop}
use Rattle.std.proofs.lemmas.Bool.{cases_lt, eqb-true}
use Rattle.std.proofs.lemmas.Nat.{div-mul-add, mod-mul-add}
use Rattle.xot_circuits.specs.Packets.{header, xot}
use Rattle.xot_circuits.specs.Streams.{IsWithinBy}
use Rattle.xot_circuits.specs.declared.header.Header.{Header}
use Rattle.xot_circuits.specs.declared.header.Header.TheVariants.{Cut, OtherVersion, Length}

zero_of : (a b m n : ℕ) (t : Bool) → cond t (Length m) (OtherVersion (a * 256 + b)) ≡ Length n → t ≡ (a * 256 + b == 0) → (a ≡ 0) × (b ≡ 0) × (m ≡ n)
zero_of a b m n false h e = absurd (cc h)
zero_of a b m n true h e =
    let none : a * 256 + b ≡ 0 = eqb-true (a * 256 + b) 0 (sym e) in
    let same : m ≡ n = cc h in
    (omega (arith, none), omega (arith, none), same)

-- octets of the length that their header says are a packet on the stream
whole_is : (xs : List ℕ) (n : ℕ) → get_or xs 3 0 < 256 → header xs ≡ Length n → length xs ≡ 4 + n → xs ≡ xot (drop 4 xs)
whole_is [] n small h l = absurd (cc h)
whole_is (a ∷ []) n small h l = absurd (cc h)
whole_is (a ∷ b ∷ []) n small h l = absurd (cc h)
whole_is (a ∷ b ∷ c ∷ []) n small h l = absurd (cc h)
whole_is (a ∷ b ∷ c ∷ d ∷ xs) n small h l =
    let z = zero_of a b (c * 256 + d) n (a * 256 + b == 0) h refl in
    let size : length xs ≡ c * 256 + d = omega (arith, l, z.2) in
    let c_is : c ≡ length xs / 256 = sym (ap (λ m. m / 256) size ∙ div-mul-add c 256 d small) in
    let d_is : d ≡ length xs % 256 = sym (ap (λ m. m % 256) size ∙ mod-mul-add c 256 d small) in
    cc (z.0, z.1, c_is, d_is)

-- more octets do not change a whole header
header_front : (xs ys : List ℕ) → 4 ≤ length xs → header (xs ++ ys) ≡ header xs
header_front [] ys le = absurd (omega (arith, le))
header_front (a ∷ []) ys le = absurd (omega (arith, le))
header_front (a ∷ b ∷ []) ys le = absurd (omega (arith, le))
header_front (a ∷ b ∷ c ∷ []) ys le = absurd (omega (arith, le))
header_front (a ∷ b ∷ c ∷ d ∷ xs) ys le = refl

header_long : (xs : List ℕ) (n : ℕ) → header xs ≡ Length n → 4 ≤ length xs
header_long [] n h = absurd (cc h)
header_long (a ∷ []) n h = absurd (cc h)
header_long (a ∷ b ∷ []) n h = absurd (cc h)
header_long (a ∷ b ∷ c ∷ []) n h = absurd (cc h)
header_long (a ∷ b ∷ c ∷ d ∷ xs) n h = omega arith

fourth_front : (xs ys : List ℕ) → 4 ≤ length xs → get_or (xs ++ ys) 3 0 ≡ get_or xs 3 0
fourth_front [] ys le = absurd (omega (arith, le))
fourth_front (a ∷ []) ys le = absurd (omega (arith, le))
fourth_front (a ∷ b ∷ []) ys le = absurd (omega (arith, le))
fourth_front (a ∷ b ∷ c ∷ []) ys le = absurd (omega (arith, le))
fourth_front (a ∷ b ∷ c ∷ d ∷ xs) ys le = refl

-- a packet in the piece
pub lent : (octets front back rest p : List ℕ) (n size : ℕ) → get_or octets 3 0 < 256 → header octets ≡ Length n → size ≡ 4 + n → size ≤ length octets
    → front ≡ take size octets → back ≡ drop size octets → rest ≡ [] → p ≡ drop 4 front → octets ≡ xot p ++ (rest ++ back)
lent octets front back rest p n size small h size_is le front_is back_is rest_is p_is =
    let parts : front ++ back ≡ octets = ap₂ (λ xs ys. xs ++ ys) front_is back_is ∙ take-append-drop size octets in
    let many : length front ≡ size = ap length front_is ∙ length-take-le size octets le in
    let four : 4 ≤ length front = omega (arith, many, size_is) in
    let head : header front ≡ Length n = sym (header_front front back four) ∙ (ap header parts ∙ h) in
    let same : get_or octets 3 0 ≡ get_or front 3 0 = ap (λ xs. get_or xs 3 0) (sym parts) ∙ fourth_front front back four in
    let whole : front ≡ xot (drop 4 front) = whole_is front n (subst (λ (m : ℕ). m < 256) same small) head (many ∙ size_is) in
    sym parts ∙ (ap (λ xs. xs ++ back) whole ∙ (ap (λ q. xot q ++ back) (sym p_is) ∙ ap (λ r. xot p ++ (r ++ back)) (sym rest_is)))

within_front : (h : Header) (before n : ℕ) → IsWithinBy h before → h ≡ Length n → before ≤ 4 + n
within_front Cut before n w e = absurd (cc e)
within_front (OtherVersion v) before n w e = absurd (cc e)
within_front (Length m) before n w e =
    let same : m ≡ n = cc e in
    omega (arith, w, same)

-- what was kept is no longer than the packet
pub bounded : (before rest more : List ℕ) (n : ℕ) → rest ≡ before ++ more → IsWithinBy (header before) (length before) → header rest ≡ Length n → length before ≤ 4 + n
bounded before rest more n is w h = by (cases_lt (length before) 4) where
  by : (length before < 4) ⊎ (4 ≤ length before) → length before ≤ 4 + n
  by (inl lt) = omega (arith, lt)
  by (inr le) = within_front (header before) (length before) n w (sym (header_front before more le) ∙ (ap header (sym is) ∙ h))

-- a packet that came in several pieces
pub kept : (before piece rest left rest_2 left_2 more p rest_3 : List ℕ) (n : ℕ) → rest ++ left ≡ before ++ piece → rest_2 ++ left_2 ≡ rest ++ left → rest_2 ≡ rest ++ more
    → header rest ≡ Length n → length rest_2 ≡ 4 + n → get_or rest 3 0 < 256 → p ≡ drop 4 rest_2 → rest_3 ≡ [] → before ++ piece ≡ xot p ++ (rest_3 ++ left_2)
kept before piece rest left rest_2 left_2 more p rest_3 n first second more_is h size small p_is none =
    let four = header_long rest n h in
    let head : header rest_2 ≡ Length n = ap header more_is ∙ (header_front rest more four ∙ h) in
    let low : get_or rest_2 3 0 ≡ get_or rest 3 0 = ap (λ xs. get_or xs 3 0) more_is ∙ fourth_front rest more four in
    let whole : rest_2 ≡ xot (drop 4 rest_2) = whole_is rest_2 n (omega (arith, low, small)) head size in
    sym first ∙ (sym second ∙ (ap (λ xs. xs ++ left_2) whole ∙ (ap (λ q. xot q ++ left_2) (sym p_is) ∙ ap (λ r. xot p ++ (r ++ left_2)) (sym none))))
