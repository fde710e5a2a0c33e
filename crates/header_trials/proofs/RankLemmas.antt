-- The order of pairs of numbers, as that of one number.
use Rattle.std.proofs.Common.{◌≡◌, ap, sym, ℕ, suc, ◌+◌, ◌*◌, ◌<◌, ◌≤◌, arith}
use Rattle.std.proofs.Math.Nat.{mul-le-mul_right, suc-mul}
use Rattle.std.specs.Cmp.{nat_cmp_is, ranks}
use Rattle.std.proofs.Common.{Ordering, Less, Equal, Greater, nat_cmp}
use Rattle.std.specs.Ordering.{MatchOrdering, ordering_then}

sums : (x y z c d m : ℕ) → z ≤ y → z ≡ x + m → c < m → x + c < y + d
sums x y z c d m le is low = omega (arith, le, is, low)

above : (m a b c d : ℕ) → c < m → a < b → a * m + c < b * m + d
above m a b c d low less = sums (a * m) (b * m) (suc a * m) c d m (mul-le-mul_right m (omega (arith, less))) (suc-mul a m) low

same_above : (x y c d : ℕ) → x ≡ y → c < d → x + c < y + d
same_above x y c d same less = omega (arith, same, less)

-- the second numbers are less than m
pub pair_cmp : (m a b c d : ℕ) → c < m → d < m → ordering_then (nat_cmp a b) (nat_cmp c d) ≡ nat_cmp (a * m + c) (b * m + d)
pair_cmp m a b c d first second = nat_cmp_is (a * m + c) (b * m + d) (ordering_then (nat_cmp a b) (nat_cmp c d)) (at (nat_cmp a b) (nat_cmp c d) (ranks a b) (ranks c d))
  where
    at : (p q : Ordering) → MatchOrdering p (a < b) (a ≡ b) (b < a) → MatchOrdering q (c < d) (c ≡ d) (d < c) → MatchOrdering (ordering_then p q) (a * m + c < b * m + d) (a * m + c ≡ b * m + d) (b * m + d < a * m + c)
    at Less q h k = above m a b c d first h
    at Greater q h k = above m b a d c second h
    at Equal Less h k = same_above (a * m) (b * m) c d (ap (λ n. n * m) h) k
    at Equal Equal h k = λ j. h j * m + k j
    at Equal Greater h k = same_above (b * m) (a * m) d c (sym (ap (λ n. n * m) h)) k
