-- The value and the next option, as far as the block has them.
use Rattle.std.proofs.Common.{◌≡◌, ◌∙◌, ◌+◌, ◌≤◌, ap, arith, drop, length, refl, sym}
use Rattle.std.proofs.lemmas.List.{drop-drop}
use Rattle.capture_files.specs.Numbers.{short_number}
use Rattle.capture_files.specs.Options.{value_size}
use Rattle.capture_files.proofs.OptionLemmas.{value_there}
use Rattle.capture_files.proofs.options.option_at.Goals as goal

pub returns-clause-value : goal.returns-clause-value
returns-clause-value c =
    let block = c.args.block.now in
    let at = c.args.at in
    let size : c.from-size.result ≡ value_size c.args.is_big (drop at block) = c.from-size.ensures ∙ c.read_two.ensures ∙ ap (short_number c.args.is_big) (sym (drop-drop 2 at block)) in
    let there : at + 4 ≤ length block = omega (arith, c.if-block-lt4.false, c.if-block-at.false) in
    value_there block at (at + 4) c.min.result (value_size c.args.is_big (drop at block)) refl (omega (arith, c.min.ensures, size)) there

pub returns-clause-next : goal.returns-clause-next
returns-clause-next c =
    let block = c.args.block.now in
    let at = c.args.at in
    let size : c.from-size.result ≡ value_size c.args.is_big (drop at block) = c.from-size.ensures ∙ c.read_two.ensures ∙ ap (short_number c.args.is_big) (sym (drop-drop 2 at block)) in
    omega (arith, size)
