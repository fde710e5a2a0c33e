-- A word keeps all of its bits.
use Rattle.std.proofs.Common.{◌≡◌, ◌<◌, ◌/◌, ◌%◌, ◌^◌, ◌*◌, ◌+◌, ◌∙◌, ◌==◌, ℕ, Bool, true, false, refl, sym, ap, arith}
use Rattle.std.specs.Prelude.{cond}
use Rattle.std.proofs.lemmas.Nat.{shr-shr, shr_split, mod_below}
use Rattle.data_transfer.specs.FlowResidues.{bit}
use Rattle.data_transfer.specs.Packed.{bit_at, packed_in, packed_word}

-- the bits from bit k up are n bits and those above them
pub cut : (w k n : ℕ) → w / 2 ^ k ≡ w / 2 ^ (k + n) * 2 ^ n + w / 2 ^ k % 2 ^ n
cut w k n = sym (ap (λ q. q * 2 ^ n + w / 2 ^ k % 2 ^ n) (sym (shr-shr w k n)) ∙ shr_split (w / 2 ^ k) n)

-- the number of a bit that was read
pub bit_read : (n : ℕ) → n < 2 → bit (n == 1) ≡ n
bit_read n l = grind (arith, l)

-- the bit that shows the modulus
modulus_bit : (b : Bool) → bit (cond b 128 8 == 128) ≡ bit b
modulus_bit true = refl
modulus_bit false = refl

-- a word is that of what it keeps
pub packed_word-packed_in : (w : ℕ) → packed_word (packed_in w) ≡ w
packed_word-packed_in w =
    let b0 = modulus_bit (bit_at w 0) ∙ bit_read (w / 2 ^ 0 % 2) (mod_below _ 2 (omega arith)) in
    let b43 = bit_read (w / 2 ^ 43 % 2) (mod_below _ 2 (omega arith)) in
    let b44 = bit_read (w / 2 ^ 44 % 2) (mod_below _ 2 (omega arith)) in
    let c0 = cut w 0 1 in
    let c1 = cut w 1 7 in
    let c8 = cut w 8 7 in
    let c15 = cut w 15 7 in
    let c22 = cut w 22 7 in
    let c29 = cut w 29 7 in
    let c36 = cut w 36 7 in
    let c43 = cut w 43 1 in
    let c44 = cut w 44 1 in
    omega arith
