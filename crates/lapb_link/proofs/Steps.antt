-- Four steps of the division, as a multiple.
use Rattle.std.proofs.Common.{◌≡◌, refl, sym, ap, ℕ, zero, suc, ◌*◌, ◌/◌, ◌<◌, ◌%◌, arith}
use Rattle.std.specs.Int.Bits.{bit_xor}
use Rattle.lapb_link.specs.Checks.{divided, steps}

under_16 : (n : ℕ) → n < 16 → steps 4 n ≡ n * 4225
under_16 zero h = refl
under_16 (suc zero) h = refl
under_16 (suc (suc zero)) h = refl
under_16 (suc (suc (suc zero))) h = refl
under_16 (suc (suc (suc (suc zero)))) h = refl
under_16 (suc (suc (suc (suc (suc zero))))) h = refl
under_16 (suc (suc (suc (suc (suc (suc zero)))))) h = refl
under_16 (suc (suc (suc (suc (suc (suc (suc zero))))))) h = refl
under_16 (suc (suc (suc (suc (suc (suc (suc (suc zero)))))))) h = refl
under_16 (suc (suc (suc (suc (suc (suc (suc (suc (suc zero))))))))) h = refl
under_16 (suc (suc (suc (suc (suc (suc (suc (suc (suc (suc zero)))))))))) h = refl
under_16 (suc (suc (suc (suc (suc (suc (suc (suc (suc (suc (suc zero))))))))))) h = refl
under_16 (suc (suc (suc (suc (suc (suc (suc (suc (suc (suc (suc (suc zero)))))))))))) h = refl
under_16 (suc (suc (suc (suc (suc (suc (suc (suc (suc (suc (suc (suc (suc zero))))))))))))) h = refl
under_16 (suc (suc (suc (suc (suc (suc (suc (suc (suc (suc (suc (suc (suc (suc zero)))))))))))))) h = refl
under_16 (suc (suc (suc (suc (suc (suc (suc (suc (suc (suc (suc (suc (suc (suc (suc zero))))))))))))))) h = refl
under_16 (suc (suc (suc (suc (suc (suc (suc (suc (suc (suc (suc (suc (suc (suc (suc (suc n)))))))))))))))) h = omega (arith, h)

four_is : (n : ℕ) → steps 4 (n % 16) ≡ n % 16 * 4225
four_is n = under_16 (n % 16) (omega arith)

pub divided_is : (rest bits : ℕ) → bit_xor (rest / 16) (bit_xor rest bits % 16 * 4225) ≡ divided rest bits
unfolding divided
divided_is rest bits = ap (λ x. bit_xor (rest / 16) x) (sym (four_is (bit_xor rest bits)))
