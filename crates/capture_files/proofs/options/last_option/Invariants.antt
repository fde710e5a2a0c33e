-- What was found so far, and what comes later. Each option begins after the one before.
use Rattle.std.proofs.Common.{◌≡◌, ◌-◌, drop, length}
use Rattle.capture_files.specs.Options.{last_value, options_in}
use Rattle.capture_files.proofs.OptionLemmas.{found_from}
use Rattle.capture_files.proofs.options.last_option.Given as goal

abbrev pub invariant-loop-place : goal.invariant-loop-place
invariant-loop-place l = found_from l.code l.is_big l.block l.at l.found ≡ last_value l.code (options_in l.is_big (drop l.from l.block))

abbrev pub decreases-loop-place : goal.decreases-loop-place
decreases-loop-place l = length l.block - l.at
