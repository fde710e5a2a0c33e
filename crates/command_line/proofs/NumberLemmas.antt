-- The number that a text writes.
use Rattle.std.proofs.Common.{◌≡◌, ◌∙◌, ap, refl, ℕ, ◌-◌, ◌^◌, ◌<◌, ◌≤◌, Bool, false, true, cond, pos, negsuc, Some, None, Result, Ok, Err, arith}
use Rattle.std.specs.Prelude.{◌||◌, int_lt, nat_lt, if◌then◌else◌}
use Rattle.std.specs.Int.{int_max, int_min}
use Rattle.std.proofs.lemmas.Bool.{le-ltb, ltb-false}
use Rattle.std.specs.Result.{result_ok}
use Rattle.std.specs.Str.Parse.{ParsesUnsigned}
use Rattle.clap.specs.ValueTests.{accepts}
use Rattle.clap.specs.Words.{Text}
use Rattle.clap.specs.Values.{signed_between}
use Rattle.clap.specs.declared.builder.value_parser.ValueParser.TheVariants.{Signed, Unsigned}
use Rattle.clap.proofs.ValueTestLemmas.{Accepts-accepts, accepts-Accepts}
use Rattle.command_line.specs.Numbers.{number_of}

-- what is parsed of a text is the number that it writes
pub number_read : {E : Type 0} (bits : ℕ) (text : Text) (r : Result ℕ E) → 0 < 2 ^ bits → 2 ^ bits ≤ 2 ^ 64 → ParsesUnsigned bits 10 text r → result_ok r ≡ number_of bits (Some text)
number_read bits text (Ok n) some few h =
    rw (Accepts-accepts false (Unsigned 0 (2 ^ bits - 1)) text (h.0.0, omega (arith, few, h.0.1), omega arith, omega (arith, h.0.1))) (ap Some h.1)
number_read bits text (Err e) some few h = go (accepts false (Unsigned 0 (2 ^ bits - 1)) text) refl
  where
    go : (b : Bool) → accepts false (Unsigned 0 (2 ^ bits - 1)) text ≡ b → None ≡ number_of bits (Some text)
    go false t = rw t refl
    go true t =
        let a = accepts-Accepts false (Unsigned 0 (2 ^ bits - 1)) text t in
        absurd (h (a.0, omega (arith, some, a.3)))

-- the numbers of 32 bits between two of them
pub narrowed : (first last : ℕ) → last ≤ 4294967295 → first ≤ 4294967295 → signed_between (int_max (pos 0) (pos first)) (int_min (pos 4294967295) (pos last)) ≡ Signed (pos first) (pos last)
narrowed first last few small =
    ap (λ b. signed_between (cond b (pos 0) (pos first)) (int_min (pos 4294967295) (pos last))) (le-ltb first 0 (omega arith))
    ∙ ap (λ z. signed_between (pos first) z) (least (nat_lt last 4294967295) refl)
    ∙ ap (λ b. if b || int_lt (pos last) (negsuc 9223372036854775807) then Signed (pos 1) (pos 0) else Signed (pos first) (pos last)) (le-ltb 9223372036854775807 first (omega (arith, small)))
  where
    least : (b : Bool) → nat_lt last 4294967295 ≡ b → cond b (pos last) (pos 4294967295) ≡ pos last
    least true e = refl
    least false e = ap pos (let most = ltb-false last 4294967295 e in omega (arith, few, most))
