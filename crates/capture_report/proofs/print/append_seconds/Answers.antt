-- The sign comes before the number.
use Rattle.std.specs.Int.{is_negative, w128}
use Rattle.std.specs.Int.RustNames.{unsigned_abs}
use Rattle.std.proofs.Common.{◌∙◌, ap, append_assoc, ◌++◌, rules}
use Rattle.std.proofs.lemmas.Int.{to_z-of_z}
use Rattle.std.proofs.lemmas.Result.{on_ok_weaker}
use Rattle.capture_report.specs.Texts.{nanos_text, sign_text}
use Rattle.capture_report.proofs.print.append_seconds.Goals as goal

pub returns : goal.returns
returns c =
    let before = c.args.out.now.items in
    let same = to_z-of_z w128 c.args.count (search rules) in
    on_ok_weaker c.append_nanos.result (λ e.
    e
    ∙ (ap (λ xs. xs ++ nanos_text c.unsigned_abs.result) c.in_ok-append_sign.ensures
    ∙ (append_assoc before (sign_text c.is_negative.result) (nanos_text c.unsigned_abs.result)
    ∙ (ap (λ n. before ++ (sign_text n ++ nanos_text c.unsigned_abs.result)) (c.is_negative.ensures ∙ ap is_negative same)
    ∙ ap (λ u. before ++ (sign_text (is_negative c.args.count) ++ nanos_text u)) (c.unsigned_abs.ensures.value ∙ ap unsigned_abs same))))) c.append_nanos.ensures
