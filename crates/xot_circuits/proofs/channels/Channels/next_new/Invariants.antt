-- No channel so far is new.
use Rattle.std.proofs.Common.{◌≡◌, ℕ, ◌<◌, false}
use Rattle.xot_circuits.specs.Plans.{is_new}
use Rattle.xot_circuits.proofs.channels.Channels.next_new.Given as goal

abbrev pub invariant-loop-channel : goal.invariant-loop-channel
invariant-loop-channel l = (j : ℕ) → j < l.channel → is_new l.self l.purpose j ≡ false
