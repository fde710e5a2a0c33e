use Rattle.std.specs.Prelude.{◌≡◌, All}
use Rattle.line_model.specs.basics.Bounds.{IsItem}
use Rattle.line_model.specs.channels.Gaps.{GapChannel}
use Rattle.tests_reports.proofs.channels.step_through.Given as goal

abbrev pub invariant-loop-item : goal.invariant-loop-item
invariant-loop-item g l = record {
  interface : g.C.Channel.interface_of l.channel ≡ l.piece.interface;
  number : g.C.Channel.number_of l.channel ≡ l.piece.channel;
  represented : (c : GapChannel) × g.C.Channel.represents l.channel c;
  left : All (IsItem l.piece.interface l.piece.channel) l.item-iterator;
}
