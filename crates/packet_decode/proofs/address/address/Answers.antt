use Rattle.std.proofs.Common.{arith, ◌≡◌, ◌+◌, ◌-◌, ◌∷◌, ℕ, [], ap, sym, ◌∙◌, ◌++◌, append_assoc, length, length-append, nat_lt, false, List}
use Rattle.std.specs.Prelude.{map, ◌||◌}
use Rattle.std.specs.List.{list_any}
use Rattle.line_model.specs.basics.Octets.{half_octet, half_octets}
use Rattle.packet_decode.proofs.OctetLemmas.{half_octets_until}
use Rattle.packet_decode.proofs.address.address.Goals as goal

pub loop-k-preserved : goal.loop-k-preserved
loop-k-preserved c =
    let xs : List ℕ = c.args.octets.now in
    let rest : List ℕ = half_octets (c.loop-k.k + 1) (c.args.from + c.args.count - (c.loop-k.k + 1)) xs in
    let e : half_octets c.loop-k.k (c.args.from + c.args.count - c.loop-k.k) xs ≡ half_octet c.loop-k.k xs ∷ rest =
    half_octets_until c.loop-k.k (c.args.from + c.args.count) xs (omega (arith, c.loop-k-test.true)) in
    let f : ℕ → ℕ = λ d. 48 + d in
    let small : nat_lt 9 (half_octet c.loop-k.k xs) ≡ false = rw (← c.half_octet-digit.ensures) (grind (arith, c.if-digit-gt9.false)) in
    let digit : c.push.new.self ≡ c.loop-k.address ++ f (half_octet c.loop-k.k xs) ∷ [] = c.push.ensures ∙ ap (λ d. c.loop-k.address ++ f d ∷ []) c.half_octet-digit.ensures in
    record {
      digits = ap (λ b. b || list_any (λ d. nat_lt 9 d) rest) (sym small)
          ∙ ap (λ l. list_any (λ d. nat_lt 9 d) l) (sym e) ∙ c.loop-k.invariant.digits;
      written = ap (λ l. l ++ map f rest) digit ∙ append_assoc c.loop-k.address _ _
          ∙ ap (λ l. c.loop-k.address ++ map f l) (sym e) ∙ c.loop-k.invariant.written;
      room = omega (arith, ap length digit, length-append c.loop-k.address (f (half_octet c.loop-k.k xs) ∷ []), c.loop-k.invariant.room);
    }
