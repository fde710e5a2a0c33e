-- What the options so far say, and the later ones. Each option begins after the one before.
use Rattle.std.proofs.Common.{◌≡◌, ◌+◌, ◌-◌, ◌^◌, ◌≤◌, drop, length, min}
use Rattle.std.specs.Option.{option_or}
use Rattle.capture_files.specs.Options.{drop_count, drops_in, flags_in, options_in}
use Rattle.capture_files.proofs.options.frame_options.Given as goal

abbrev pub invariant-loop-place : goal.invariant-loop-place
invariant-loop-place l = record {
  flags : option_or l.flags (flags_in l.is_big (options_in l.is_big (drop l.at l.block))) ≡ flags_in l.is_big (options_in l.is_big (drop l.from l.block));
  few : l.dropped ≤ 2 ^ 64 - 1;
  dropped : min (l.dropped + drops_in l.is_big (options_in l.is_big (drop l.at l.block))) (2 ^ 64 - 1) ≡ drop_count l.is_big (options_in l.is_big (drop l.from l.block));
}

abbrev pub decreases-loop-place : goal.decreases-loop-place
decreases-loop-place l = length l.block - l.at
