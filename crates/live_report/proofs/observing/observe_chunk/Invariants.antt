use Rattle.std.proofs.Common.{◌≡◌, ℕ, ◌+◌, ◌≤◌, ◌^◌, List, length}
use Rattle.line_model.specs.declared.interface.Interface.{Interface}
use Rattle.trace_text.specs.Progress.{bytes_fed}
use Rattle.live_report.specs.Lives.{IsObserving}
use Rattle.live_report.proofs.ChunkLemmas.{Course}
use Rattle.live_report.proofs.observing.observe_chunk.Given as goal

abbrev pub invariant-loop-rest : goal.invariant-loop-rest
invariant-loop-rest g l = record {
  few : length l.found.items + length l.rest ≤ length l.fn.found.items + length l.chunk;
  size : bytes_fed l.lines + length l.rest ≡ bytes_fed l.fn.lines + length l.chunk;
  limit : bytes_fed l.lines ≤ 2 ^ 30;
  keeps : l.observer.keeps_rows ≡ l.fn.observer.keeps_rows;
  course : (i : Interface) (text : List ℕ) → IsObserving g.C.Channel.interface_of g.C.Channel.number_of g.C.Channel.represents i text l.fn.lines l.fn.observer
      → Course g.C.Channel.interface_of g.C.Channel.number_of g.C.Channel.represents i text l.chunk l.lines l.observer l.rest l.fn.found.items l.found.items l.fn.rows.last l.rows.last;
}

abbrev pub decreases-loop-rest : goal.decreases-loop-rest
decreases-loop-rest g l = length l.rest
