-- A later option of the code that has a value takes the place of an earlier one.
use Rattle.std.proofs.Common.{◌≡◌, ◌∙◌, ◌-◌, ◌<◌, ◌≤◌, ap, arith, drop, inl, inr, length, length-drop, length-take-le, sym, take}
use Rattle.capture_files.specs.Options.{first_option, or_value, value_if}
use Rattle.capture_files.proofs.OptionLemmas.{found_before, found_from, found_here, found_last, found_next}
use Rattle.capture_files.proofs.options.last_option.Goals as goal
use Rattle.capture_files.proofs.options.last_option.Goals.{else-place-code-via-then-place-code+else-place, else-place-code-via-else-place-code}

pub loop-place-preserved-then-place : goal.loop-place-preserved-then-place
loop-place-preserved-then-place c =
    let big = c.args.is_big in
    let block = c.args.block.now in
    let code = c.args.code in
    let at = c.loop-place.at in
    let place = c.in-Some.place in
    let found = c.loop-place.found.now in
    let its = c.in-Some.ensures in
    let count = place.to - place.from in
    let there : count ≤ length (drop place.from block) = omega (arith, length-drop place.from block, its.within.1) in
    let size : length (take count (drop place.from block)) ≡ count = length-take-le count (drop place.from block) there in
    let some : 0 < length (first_option big (drop at block)).value = omega (arith, size, ap length its.value, c.if-place.true) in
    let value = its.value ∙ sym (found_here code (first_option big (drop at block)) found (sym its.code ∙ c.if-place-code.true) some) in
    ap (found_from code big block place.next) value ∙ found_next code big block at place.next found its.some its.next ∙ c.loop-place.invariant

pub loop-place-preserved : goal.loop-place-preserved
loop-place-preserved c =
    let big = c.args.is_big in
    let block = c.args.block.now in
    let code = c.args.code in
    let at = c.loop-place.at in
    let place = c.in-Some.place in
    let found = c.loop-place.found.now in
    let its = c.in-Some.ensures in
    let count = place.to - place.from in
    let there : count ≤ length (drop place.from block) = omega (arith, length-drop place.from block, its.within.1) in
    let size : length (take count (drop place.from block)) ≡ count = length-take-le count (drop place.from block) there in
    let value : or_value (value_if code (first_option big (drop at block))) found ≡ found = elim c.else-place-code.branch [
      | else-place-code-via-then-place-code+else-place w ↦ found_before code (first_option big (drop at block)) found (inr (omega (arith, size, ap length its.value, w.if-place.false)))
      | else-place-code-via-else-place-code w ↦ found_before code (first_option big (drop at block)) found (inl (λ is. w.if-place-code.false (its.code ∙ is)))
    ] in
    ap (found_from code big block place.next) (sym value) ∙ found_next code big block at place.next found its.some its.next ∙ c.loop-place.invariant

pub returns : goal.returns
returns c = sym (found_last c.args.code c.args.is_big c.args.block.now c.loop-place.at c.loop-place.found.now c.in_default.ensures.none) ∙ c.loop-place.invariant
