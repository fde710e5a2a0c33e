-- The channels so far and those that are left are all of them.
use Rattle.std.proofs.Common.{◌≡◌, ℕ, drop}
use Rattle.std.specs.Option.{option_or}
use Rattle.xot_circuits.specs.Plans.{AreWithin}
use Rattle.capture_report.specs.CircuitChannels.{AreChannels, channel_of}
use Rattle.capture_report.specs.Circuits.{channel_by}
use Rattle.capture_report.proofs.circuits.CircuitChannels.new.Given as goal

abbrev pub invariant-loop-index : goal.invariant-loop-index
invariant-loop-index l = record {
  all : (n : ℕ) → option_or (channel_by (drop l.index l.circuits) (drop l.index l.given.items) n) (channel_of l.channels.entries n) ≡ channel_by l.circuits l.given.items n;
  within : AreWithin l.fn.header (drop l.index l.given.items);
  kept : AreChannels l.channels.entries;
}
