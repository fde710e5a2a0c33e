-- The objects of a report, and those after them, as a sink accepted them.
use Rattle.std.proofs.Common.{◌≡◌, ◌∙◌, sym, ap, refl, ℕ, List, ◌++◌, length, Option, Result, Ok, Err, OnOk, OnErr, append_assoc}
use Rattle.line_model.specs.basics.Device.{with_more}
use Rattle.line_model.specs.basics.Records.{Report}
use Rattle.line_model.specs.basics.Written.{HasFront}
use Rattle.line_model.specs.observer.Report.{text_of}
use Rattle.line_model.proofs.DeviceLemmas.{with_more-append}
use Rattle.json_lines.specs.Json.{json_text}
use Rattle.annotated_trace.specs.Printed.{HasTaken, HasTakenFirst}
use Rattle.descriptions.specs.Closing.{AreClosingObjects}
use Rattle.descriptions.specs.RowObjects.{IsClosing}
use Rattle.descriptions.proofs.ClosingLemmas.{some_closing}

closes : (report : Report) (before mid after : Option (List ℕ)) → mid ≡ with_more before (json_text (text_of report)) → HasTaken (AreClosingObjects (length report.calls)) mid after → HasTaken (IsClosing report) before after
closes report before mid after e t = record {
  bytes = json_text (text_of report) ++ t.bytes;
  taken = t.taken ∙ ap (λ m. with_more m t.bytes) e ∙ with_more-append before (json_text (text_of report)) t.bytes;
  formed = record { rest = t.bytes; objects = t.formed; written = refl };
}

pub all_closes : {T E : Type 0} (r : Result T E) (report : Report) (before mid after : Option (List ℕ)) → mid ≡ with_more before (json_text (text_of report)) → OnOk r (HasTaken (AreClosingObjects (length report.calls)) mid after) → OnOk r (HasTaken (IsClosing report) before after)
all_closes (Ok x) report before mid after e t = closes report before mid after e t
all_closes (Err x) report before mid after e t = tt

pub first_closes : {T E : Type 0} (r : Result T E) (report : Report) (before mid after : Option (List ℕ)) → mid ≡ with_more before (json_text (text_of report)) → OnErr r (HasTakenFirst (AreClosingObjects (length report.calls)) mid after)
    → OnErr r (HasTakenFirst (IsClosing report) before after)
first_closes (Ok x) report before mid after e t = tt
first_closes (Err x) report before mid after e t = record {
  bytes = json_text (text_of report) ++ t.bytes;
  front = json_text (text_of report) ++ t.front;
  left = t.left;
  whole = ap (λ xs. json_text (text_of report) ++ xs) t.whole ∙ sym (append_assoc (json_text (text_of report)) t.front t.left);
  taken = t.taken ∙ ap (λ m. with_more m t.front) e ∙ with_more-append before (json_text (text_of report)) t.front;
  formed = record { rest = t.bytes; objects = t.formed; written = refl };
}

pub first_of_report : (report : Report) (before after : Option (List ℕ)) → HasFront before after (json_text (text_of report)) → HasTakenFirst (IsClosing report) before after
first_of_report report before after h =
    let some = some_closing (length report.calls) in
    record {
      bytes = json_text (text_of report) ++ some.0;
      front = h.0;
      left = h.1 ++ some.0;
      whole = ap (λ xs. xs ++ some.0) h.2 ∙ append_assoc h.0 h.1 some.0;
      taken = h.3;
      formed = record { rest = some.0; objects = some.1; written = refl };
    }
