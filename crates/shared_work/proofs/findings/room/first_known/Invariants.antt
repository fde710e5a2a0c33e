use Rattle.std.proofs.Common.{◌≡◌, ℕ, ◌<◌, take, false}
use Rattle.line_model.specs.work.Book.{times}
use Rattle.shared_work.specs.findings.Sums.{is_known}
use Rattle.shared_work.proofs.findings.room.first_known.Given as goal

abbrev pub invariant-loop-id : goal.invariant-loop-id
invariant-loop-id g l = (x : ℕ) → 0 < times x (take l.id-index l.ids) → is_known l.known x ≡ false
