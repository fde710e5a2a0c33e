use Rattle.std.proofs.Common.{◌+◌, ◌-◌, ◌≤◌}
use Rattle.trace_text.proofs.SourceLemmas.{Reached}
use Rattle.trace_text.proofs.consumer.feed_all.Given as goal

abbrev pub invariant-loop-source : goal.invariant-loop-source
invariant-loop-source g l = record {
  calls : g.S.Source.calls l.source ≤ g.S.Source.calls l.fn.source + g.T.Consumer.size l.consumer;
  room : g.T.Consumer.size l.consumer ≤ 1073741824;
  failures : g.S.Source.failures l.fn.source ≤ g.S.Source.failures l.source;
  least : g.S.Source.calls l.fn.source ≤ g.S.Source.calls l.source;
  reached : Reached (g.S.Source.left l.fn.source) (g.S.Source.left l.source) (g.T.Consumer.was_fed l.fn.consumer l.fn.out l.consumer l.out);
}

abbrev pub decreases-loop-source : goal.decreases-loop-source
decreases-loop-source g l = 1073741824 - g.T.Consumer.size l.consumer
