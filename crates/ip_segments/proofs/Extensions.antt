-- Each case of the extension headers.
use Rattle.std.proofs.Common.{◌≡◌, ◌∙◌, ap, sym, ℕ, zero, suc, ◌-◌, ◌<◌, ◌≤◌, ◌⊎◌, inl, inr, true, false, nat_lt, length, slice_index, take, drop, Result, Err, if◌then◌else◌, arith}
use Rattle.std.specs.Result.{result_map_both}
use Rattle.std.proofs.lemmas.Bool.{cond-true, cond-false, le-ltb, lt-ltb}
use Rattle.capture_model.specs.Views.{Payload}
use Rattle.ip_segments.specs.Numbers.{after}
use Rattle.ip_segments.specs.Datagrams.{Upper, above_6, extension_size, is_extension, is_fragment, opened, part, upper, version_6, with_ends}
use Rattle.ip_segments.specs.declared.fault.HeaderFault.{HeaderFault}
use Rattle.ip_segments.specs.declared.fault.HeaderFault.TheVariants as fault

pub opened_upper : (n next : ℕ) (p : Payload) → is_extension next ≡ false → opened n next p ≡ upper next p
unfolding opened
opened_upper zero next p h = cond-false (is_extension next) _ _ h
opened_upper (suc n) next p h = cond-false (is_extension next) _ _ h

pub opened_cut : (n next : ℕ) (p : Payload) → is_extension next ≡ true → (n ≡ 0) ⊎ (length p.octets < 8) → opened n next p ≡ Err fault.ExtensionsCut
unfolding opened
opened_cut zero next p h _ = cond-true (is_extension next) _ _ h
opened_cut (suc n) next p h (inl e) = absurd (omega (arith, e))
opened_cut (suc n) next p h (inr few) = cond-true (is_extension next) _ _ h ∙ cond-true (nat_lt (length p.octets) 8) _ _ (lt-ltb (length p.octets) 8 few)

pub opened_part : (n next : ℕ) (p : Payload) → is_extension next ≡ true → 0 < n → 8 ≤ length p.octets → is_fragment next p.octets ≡ true → opened n next p ≡ part p
unfolding opened
opened_part zero next p h more _ _ = absurd (omega (arith, more))
opened_part (suc n) next p h more enough f = cond-true (is_extension next) _ _ h ∙ cond-false (nat_lt (length p.octets) 8) _ _ (le-ltb (length p.octets) 8 enough) ∙ cond-true (is_fragment next p.octets) _ _ f

pub opened_on : (n next : ℕ) (p : Payload) → is_extension next ≡ true → 0 < n → 8 ≤ length p.octets → is_fragment next p.octets ≡ false
    → opened n next p ≡ opened (n - 1) (slice_index p.octets 0) (after (extension_size next (slice_index p.octets 1)) p)
unfolding opened
opened_on zero next p h more _ _ = absurd (omega (arith, more))
opened_on (suc n) next p h more enough f =
    let one : n ≡ suc n - 1 = omega arith in
    let on : Result Upper HeaderFault = opened n (slice_index p.octets 0) (after (extension_size next (slice_index p.octets 1)) p) in
    let known : Result Upper HeaderFault = if is_fragment next p.octets then part p else on in
    let long : Result Upper HeaderFault = if nat_lt (length p.octets) 8 then Err fault.ExtensionsCut else known in
    cond-true (is_extension next) long (upper next p) h ∙ cond-false (nat_lt (length p.octets) 8) (Err fault.ExtensionsCut) known (le-ltb (length p.octets) 8 enough) ∙ cond-false (is_fragment next p.octets) (part p) on f ∙ ap (λ m. opened m (slice_index p.octets 0) (after (extension_size next (slice_index p.octets 1)) p)) one

-- an IPv6 datagram whose first header is whole
pub version_upper : (p : Payload) (r : Result Upper HeaderFault) → 40 ≤ length p.octets → r ≡ above_6 p → result_map_both (with_ends (take 16 (drop 8 p.octets)) (take 16 (drop 24 p.octets))) (λ f. f) r ≡ version_6 p
unfolding version_6
version_upper p r enough e = ap (result_map_both (with_ends (take 16 (drop 8 p.octets)) (take 16 (drop 24 p.octets))) (λ f. f)) e ∙ sym (cond-false (nat_lt (length p.octets) 40) (Err fault.InternetCut) (result_map_both (with_ends (take 16 (drop 8 p.octets)) (take 16 (drop 24 p.octets))) (λ f. f) (above_6 p)) (le-ltb (length p.octets) 40 enough))
