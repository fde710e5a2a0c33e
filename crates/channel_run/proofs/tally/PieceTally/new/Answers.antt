use Rattle.std.proofs.Common.{refl}
use Rattle.channel_run.proofs.tally.PieceTally.new.Goals as goal

pub returns-clause-none : goal.returns-clause-none
returns-clause-none g c = λ epoch channel. record {
  findings = c.new.ensures.items;
  calls = c.new-2.ensures epoch channel;
  octets = refl;
  segments = refl;
}
