use Rattle.std.proofs.Common.{◌≡◌, ◌∙◌, ℕ, List, Bool, false, length, slice_index_or, sym, ap, arith}
use Rattle.std.proofs.lemmas.Result.{err_from_is_err_and}
use Rattle.report_merge.specs.Seen.{is_among}
use Rattle.report_merge.proofs.Doubles.{refused_from, missing_from, whole_from}
use Rattle.report_merge.proofs.judge.judge.Goals as goal

-- a mark says whether its place is among the ids
marks : (read items : List Bool) (ids : List ℕ) → read ≡ items → ((k : ℕ) → slice_index_or items k false ≡ is_among k ids) → (k : ℕ) → is_among k ids ≡ slice_index_or read k false
marks read items ids same seen k = sym (ap (λ l. slice_index_or l k false) same ∙ seen k)

pub returns-in_err-seen-clause-refused : goal.returns-in_err-seen-clause-refused
returns-in_err-seen-clause-refused g c =
    let exit = err_from_is_err_and c.from_residual.result c.from_residual.ensures.1 in
    rw (exit.1, exit.2)
    (refused_from c.in_err-seen.field-0.0 c.args.pieces c.args.ids.now c.requires.known c.in_err-seen.ensures.refused)

pub returns-in-Some-clause-refused : goal.returns-in-Some-clause-refused
returns-in-Some-clause-refused g c =
    let w = c.in-Some.ensures in
    let mark = marks c.as_slice.result.now c.in_ok-seen.seen.items c.args.ids.now c.as_slice.ensures.value c.in_ok-seen.ensures.seen in
    let within : length c.as_slice.result.now ≡ c.args.pieces = ap length c.as_slice.ensures.value ∙ sym c.in_ok-seen.seen.ok.0 ∙ c.in_ok-seen.ensures.len in
    missing_from c.in-Some.id c.args.pieces c.args.ids.now c.requires.known c.in_ok-seen.ensures.once
    (omega (arith, w.0, within)) (mark c.in-Some.id ∙ w.1) (λ k lt. mark k ∙ w.2 k lt)

pub returns-clause-whole : goal.returns-clause-whole
returns-clause-whole g c =
    let mark = marks c.as_slice.result.now c.in_ok-seen.seen.items c.args.ids.now c.as_slice.ensures.value c.in_ok-seen.ensures.seen in
    let within : length c.as_slice.result.now ≡ c.args.pieces = ap length c.as_slice.ensures.value ∙ sym c.in_ok-seen.seen.ok.0 ∙ c.in_ok-seen.ensures.len in
    whole_from c.args.pieces c.args.ids.now c.requires.known c.in_ok-seen.ensures.once
    (λ k lt. mark k ∙ c.in-None.ensures k (omega (arith, lt, within)))
