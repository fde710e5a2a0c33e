-- One more octet.
use Rattle.std.proofs.Common.{rules}
use Rattle.capture_report.proofs.SegmentLemmas.{address_more}
use Rattle.capture_report.proofs.xot_frames.address_of.Goals as goal

pub loop-octet-preserved : goal.loop-octet-preserved
loop-octet-preserved c = address_more c.args.octets.now c.loop-octet.octet-index c.loop-octet.address c.from.result c.loop-octet-test.true c.loop-octet.invariant c.from.ensures (search rules)
