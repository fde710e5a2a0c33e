use Rattle.std.proofs.Common.{arith}
use Rattle.data_transfer.proofs.WordLemmas.{field_within, replaced_by_shifts, replaced_below}
use Rattle.data_transfer.proofs.word.with_field.Goals as goal

pub overflow_add-result : goal.overflow_add-result
overflow_add-result c =
    let r = c.requires in
    rw (replaced_by_shifts _ _ _ _ r.inside r.width r.fits)
    (record { fits = replaced_below c.args.word c.args.from c.args.width c.args.value r.inside r.fits (omega arith) })

pub returns : goal.returns
returns c =
    let r = c.requires in
    rw (replaced_by_shifts _ _ _ _ r.inside r.width r.fits) (omega (arith, field_within c.args.word c.args.from c.args.width))
