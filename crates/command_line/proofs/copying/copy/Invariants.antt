use Rattle.std.proofs.Common.{◌+◌, ◌≤◌}
use Rattle.command_line.proofs.CopyLemmas.{Copied}
use Rattle.command_line.proofs.copying.copy.Given as goal

abbrev pub invariant-loop-source : goal.invariant-loop-source
invariant-loop-source g l = record {
  calls : g.S.Source.calls l.source + l.room ≤ g.S.Source.calls l.fn.source + 1073741824;
  failures : g.S.Source.failures l.fn.source ≤ g.S.Source.failures l.source;
  written : g.K.Sink.failures l.fn.sink ≤ g.K.Sink.failures l.sink;
  copied : Copied (g.S.Source.left l.fn.source) (g.S.Source.left l.source) (g.K.Sink.taken l.fn.sink) (g.K.Sink.taken l.sink) l.room;
}

abbrev pub decreases-loop-source : goal.decreases-loop-source
decreases-loop-source g l = l.room
