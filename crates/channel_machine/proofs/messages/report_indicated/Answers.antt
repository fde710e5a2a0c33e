use Rattle.std.proofs.Common.{arith, ap, length}
use Rattle.pad.specs.Pairs.{shown}
use Rattle.pad.specs.Effects.{indicated_one}
use Rattle.channel_machine.proofs.Reporting.{reported_one}
use Rattle.channel_machine.proofs.messages.report_indicated.Goals as goal

pub loop-pair-preserved : goal.loop-pair-preserved
loop-pair-preserved g c = record {
  reported = reported_one c.args.origin (indicated_one c.args.pad) c.args.events.now.items c.loop-pair.events.items _ (shown c.in-Some.pair) c.loop-pair.pair-iterator c.next.new.self c.args.pairs
      c.loop-pair.invariant.reported c.in-Some.ensures.steps c.report_indicated_one.ensures.reports;
  room = omega (arith, c.loop-pair.invariant.room, ap (λ l. length l) c.in-Some.ensures.steps, c.report_indicated_one.ensures.len, c.report_indicated_one.ensures.capacity);
}
