use Rattle.std.specs.Prelude.{◌≡◌, ◌+◌}
use Rattle.workers.proofs.piece_feeding.feed_ends.Given as goal

abbrev pub invariant-loop-end : goal.invariant-loop-end
invariant-loop-end g l = record {
  queue : l.pass.queue ≡ l.initial.pass.queue;
  fed : l.pass.record_of.fed ≡ l.initial.pass.record_of.fed;
  ends : l.pass.record_of.ends ≡ l.initial.pass.record_of.ends + l._end;
  pending : l.pass.record_of.pending ≡ l.initial.pass.record_of.pending;
  done : l.pass.record_of.done ≡ l.initial.pass.record_of.done;
  pieces : l.pass.pieces ≡ l.initial.pass.pieces;
  taken : l.pass.record_of.taken ≡ l.initial.pass.record_of.taken;
}
