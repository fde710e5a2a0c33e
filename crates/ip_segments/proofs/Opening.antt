-- Each case of a carrier.
use Rattle.std.proofs.Common.{◌≡◌, ap, refl, ℕ, zero, suc, ◌-◌, ◌<◌, Ok, Err, arith}
use Rattle.capture_model.specs.Views.{Payload}
use Rattle.ip_segments.specs.Carriers.{Ethernet, Internet, Neither, opened, types}
use Rattle.ip_segments.specs.declared.carriers.CarrierFault.{CarrierFault}
use Rattle.ip_segments.specs.declared.carriers.CarrierFault.TheVariants as fault

pub opened_found : (n : ℕ) (p : Payload) → opened n (Internet p) ≡ Ok (record { payload = p; left = n })
unfolding opened
opened_found zero p = refl
opened_found (suc n) p = refl

pub opened_neither : (n : ℕ) (x : CarrierFault) → opened n (Neither x) ≡ Err x
unfolding opened
opened_neither zero x = refl
opened_neither (suc n) x = refl

pub opened_deep : (n : ℕ) (p : Payload) → n ≡ 0 → opened n (Ethernet p) ≡ Err fault.TooDeep
unfolding opened
opened_deep zero p h = refl
opened_deep (suc n) p h = absurd (omega (arith, h))

pub opened_on : (n : ℕ) (p : Payload) → 0 < n → opened n (Ethernet p) ≡ opened (n - 1) (types p)
unfolding opened
opened_on zero p h = absurd (omega (arith, h))
opened_on (suc n) p h = let one : n ≡ suc n - 1 = omega arith in ap (λ m. opened m (types p)) one
