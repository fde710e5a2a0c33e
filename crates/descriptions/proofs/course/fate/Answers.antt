use Rattle.std.proofs.Common.{◌∙◌, subst}
use Rattle.std.specs.Prelude.{◌≡◌, None, IfSome, true}
use Rattle.live_report.specs.Uncounted.{counts_data}
use Rattle.descriptions.specs.Facts.{reason_in}
use Rattle.descriptions.proofs.FactLemmas.{counted_reason}
use Rattle.descriptions.proofs.course.fate.Goals as goal

pub returns-in-Some-clause-reason : goal.returns-in-Some-clause-reason
returns-in-Some-clause-reason c i earlier r l untaken =
    let counted = subst (λ o. IfSome o (λ fate. (reason_in fate ≡ None) × (counts_data c.args.events.now ≡ true))) c.in-Some.is c.counted_in.ensures.counted in
    counted.0 ∙ counted_reason i earlier r c.args.last.now c.args.events.now l untaken counted.1
