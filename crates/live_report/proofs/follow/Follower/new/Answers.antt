use Rattle.std.proofs.Common.{◌≡◌, List, sym, ap, refl, length, [], arith}
use Rattle.line_model.proofs.TextLemmas.{early_rows-nothing}
use Rattle.line_model.specs.declared.finding.Finding.{Finding}
use Rattle.live_report.specs.Found.{found}
use Rattle.live_report.proofs.FoundLemmas.{nothing_found}
use Rattle.live_report.proofs.follow.Follower.new.Goals as goal

none_written : 0 ≡ length (found [])
none_written = ap (λ (xs : List Finding). length xs) (sym (nothing_found [] early_rows-nothing))

pub returns-clause-represented : goal.returns-clause-represented
returns-clause-represented g c = record { live = c.new.ensures.represented; running = refl; findings_written = none_written; few = omega arith }

pub returns-clause-fed : goal.returns-clause-fed
returns-clause-fed g c = record { fed = λ h. ([], record { live = c.new.ensures.represented; running = refl; findings_written = none_written; few = omega arith }); kinds = tt }
