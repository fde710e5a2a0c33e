-- Each option comes before the later ones.
use Rattle.std.proofs.Common.{◌≡◌, ◌∙◌, ℕ, List, ◌+◌, ◌-◌, ◌^◌, ap, arith, drop, min, sym, take}
use Rattle.std.specs.Option.{option_or}
use Rattle.capture_files.specs.Options.{BlockOption, direction_by, drops_if, drops_in, first_option, flags_if, flags_in, options_in}
use Rattle.capture_files.proofs.OptionLemmas.{drops_last, drops_next, flags_last, flags_next}
use Rattle.capture_files.proofs.options.frame_options.Goals as goal

pub loop-place-preserved : goal.loop-place-preserved
loop-place-preserved c =
    let big = c.args.is_big in
    let block = c.args.block.now in
    let at = c.loop-place.at in
    let place = c.in-Some.place in
    let its = c.in-Some.ensures in
    let value = take (place.to - place.from) (drop place.from block) in
    let here : BlockOption = record { code = place.code; value = value } in
    let option : BlockOption = first_option big (drop at block) in
    let same : here ≡ option = ap (λ (k : ℕ). record { code = k; value = value }) its.code ∙ ap (λ (v : List ℕ). record { code = option.code; value = v }) its.value in
    let later = options_in big (drop place.next block) in
    let drops : c.drops_of.result ≡ drops_if big option = c.drops_of.ensures ∙ ap (drops_if big) same in
    record {
      flags =
          ap (λ o. option_or o (flags_in big later)) (c.or-flags.ensures ∙ ap (option_or c.loop-place.flags) (c.flags_of.ensures ∙ ap (flags_if big) same))
          ∙ flags_next big block at place.next c.loop-place.flags its.some its.next
          ∙ c.loop-place.invariant.flags;
      few = omega (arith, c.saturating_add-dropped.ensures);
      dropped =
          let all : min (c.saturating_add-dropped.result + drops_in big later) (2 ^ 64 - 1) ≡ min (c.loop-place.dropped + (drops_if big option + drops_in big later)) (2 ^ 64 - 1) = omega (arith, c.saturating_add-dropped.ensures, drops) in
          all
          ∙ ap (λ k. min (c.loop-place.dropped + k) (2 ^ 64 - 1)) (sym (drops_next big block at place.next its.some its.next))
          ∙ c.loop-place.invariant.dropped;
    }

pub returns-clause-direction : goal.returns-clause-direction
returns-clause-direction c = c.direction_of.ensures ∙ ap direction_by (sym (flags_last c.args.is_big c.args.block.now c.loop-place.at c.loop-place.flags c.in_default.ensures.none) ∙ c.loop-place.invariant.flags)

pub returns-clause-dropped : goal.returns-clause-dropped
returns-clause-dropped c =
    let rest : drops_in c.args.is_big (options_in c.args.is_big (drop c.loop-place.at c.args.block.now)) ≡ 0 = drops_last c.args.is_big c.args.block.now c.loop-place.at c.in_default.ensures.none in
    let all : c.loop-place.dropped ≡ min (c.loop-place.dropped + drops_in c.args.is_big (options_in c.args.is_big (drop c.loop-place.at c.args.block.now))) (2 ^ 64 - 1) = omega (arith, rest, c.loop-place.invariant.few) in
    all ∙ c.loop-place.invariant.dropped
