use Rattle.std.proofs.Common.{List, ℕ, None, Some, ap}
use Rattle.trace_text.specs.Progress.{Progress}
use Rattle.trace_text.proofs.Headings.{at_rows}
use Rattle.trace_text.proofs.lines.Lines.at_rows.Goals as goal

pub returns : goal.returns
returns g c =
    let before : List ℕ → Progress = λ begun. record { ended = 2; start = 200; interface = Some c.args.interface.now; last = 0; begun = begun; refused = None } in
    at_rows c.args.interface.now _ (ap before c.new.ensures.items)
