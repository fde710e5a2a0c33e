use Rattle.std.proofs.Common.{◌∙◌, ap, ap₂, arith, length, length-take-le, refl, subst, sym, take, take_all, ℕ, List, ◌++◌}
use Rattle.std.specs.List.{AllPass}
use Rattle.std.proofs.lemmas.List.{take-append-drop}
use Rattle.hex.specs.Hex.{is_hex_digit}
use Rattle.trace_text.proofs.DigitCounts.{HasCounted, counted, counted-first, counted-last, counts-block, digits-first}
use Rattle.trace_text.proofs.LaneLemmas.{first_great, none_great}
use Rattle.trace_text.proofs.digits.count_digits.Goals as goal

pub returns-then-others-ne0-clause-few : goal.returns-then-others-ne0-clause-few
returns-then-others-ne0-clause-few c =
    let first = first_great 32 15 c.args.values c.requires.0 (omega arith) (omega (arith, c.if-others-ne0.true)) in
    (digits-first c.args.text.now c.args.values _ c.requires first.0 (λ i h. omega (arith, first.1 i h))).0

pub returns-then-others-ne0-clause-digits : goal.returns-then-others-ne0-clause-digits
returns-then-others-ne0-clause-digits c =
    let first = first_great 32 15 c.args.values c.requires.0 (omega arith) (omega (arith, c.if-others-ne0.true)) in
    (digits-first c.args.text.now c.args.values _ c.requires first.0 (λ i h. omega (arith, first.1 i h))).1

pub split_at-requires : goal.split_at-requires
split_at-requires c =
    let low = none_great 32 15 c.args.values c.requires.0 (omega arith) (omega (arith, c.if-others-ne0.false)) in
    (digits-first c.args.text.now c.args.values 32 c.requires (omega arith) (λ i h. omega (arith, low i h))).0

pub loop-bytes-init : goal.loop-bytes-init
loop-bytes-init c =
    let low = none_great 32 15 c.args.values c.requires.0 (omega arith) (omega (arith, c.if-others-ne0.false)) in
    subst (HasCounted c.args.text.now) (sym c.split_at.ensures.back) (counted-first c.args.text.now (digits-first c.args.text.now c.args.values 32 c.requires (omega arith) (λ i h. omega (arith, low i h))))

pub returns-then-count-ne-WIDE_BLOCK-clause-digits : goal.returns-then-count-ne-WIDE_BLOCK-clause-digits
returns-then-count-ne-WIDE_BLOCK-clause-digits c =
    let found = c.leading_digits-count in
    counted c.args.text.now c.loop-bytes.rest.now c.in-Some.bytes.now found.result _ c.loop-bytes.invariant c.in-Some.ensures.cases.1 found.ensures.few found.ensures.digits refl

pub loop-bytes-preserved : goal.loop-bytes-preserved
loop-bytes-preserved c =
    let cut = c.in-Some.ensures.cases in
    let bytes = c.in-Some.bytes.now in
    let parts = sym (take-append-drop 64 c.loop-bytes.rest.now) ∙ ap₂ (λ (xs ys : List ℕ). xs ++ ys) (sym cut.1) (sym cut.2) in
    let long = ap (λ (xs : List ℕ). length xs) cut.1 ∙ length-take-le 64 c.loop-bytes.rest.now (omega (arith, cut.0)) in
    let all = ap (λ (n : ℕ). take n bytes) c.if-count-ne-WIDE_BLOCK.false ∙ take_all 64 bytes (omega (arith, long)) in
    counts-block c.args.text.now c.loop-bytes.rest.now bytes c.in-Some.more.now c.loop-bytes.invariant parts (subst (AllPass is_hex_digit) all c.leading_digits-count.ensures.digits)

pub returns-clause-digits : goal.returns-clause-digits
returns-clause-digits c = counted-last c.args.text.now c.loop-bytes.rest.now c.count_last.result _ c.loop-bytes.invariant c.count_last.ensures.digits refl
