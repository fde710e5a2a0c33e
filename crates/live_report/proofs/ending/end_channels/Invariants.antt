use Rattle.std.proofs.Common.{◌≡◌, ◌+◌, ◌<◌, List, length}
use Rattle.line_model.specs.basics.Records.{PieceReport}
use Rattle.restart_epochs.specs.OpenRows.{OpenRows, IsListing}
use Rattle.report_merge.specs.Gathered.{gathered}
use Rattle.live_report.specs.AddedPieces.{ArePieces}
use Rattle.live_report.specs.OpenChannels.{OpenChannelsFor, OpenEpoch}
use Rattle.live_report.proofs.EndingLemmas.{Ending}
use Rattle.live_report.proofs.ending.end_channels.Given as goal

abbrev pub invariant-loop-channel : goal.invariant-loop-channel
invariant-loop-channel g l = record {
  pieces : l.out.pieces + length l.open_channels.table.channels < 4294967296;
  gap : l.open_channels.gap ≡ l.fn.open_channels.gap;
  ending : (e : OpenEpoch) (rows : OpenRows) (first : List PieceReport)
      → OpenChannelsFor g.C.Channel.interface_of g.C.Channel.number_of g.C.Channel.represents e rows l.fn.open_channels.table → ArePieces e l.fn.open_channels.gap rows → IsListing rows → l.fn.out ≡ gathered first
      → (out : List PieceReport) × Ending g.C.Channel.interface_of g.C.Channel.number_of g.C.Channel.represents e l.fn.open_channels.gap l.end rows first l.open_channels.table out × (l.out ≡ gathered out);
}

abbrev pub decreases-loop-channel : goal.decreases-loop-channel
decreases-loop-channel g l = length l.open_channels.table.channels
