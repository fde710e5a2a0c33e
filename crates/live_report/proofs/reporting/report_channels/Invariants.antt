use Rattle.std.proofs.Common.{◌≡◌, ◌+◌, ◌<◌, List, length}
use Rattle.line_model.specs.basics.Records.{PieceReport}
use Rattle.restart_epochs.specs.OpenRows.{OpenRows, IsListing}
use Rattle.report_merge.specs.Gathered.{gathered}
use Rattle.live_report.specs.OpenChannels.{OpenChannelsFor, OpenEpoch}
use Rattle.live_report.proofs.ReportingLemmas.{Reporting}
use Rattle.live_report.proofs.reporting.report_channels.Given as goal

abbrev pub invariant-loop-channel : goal.invariant-loop-channel
invariant-loop-channel g l = record {
  pieces : l.out.pieces + length l.channel-iterator < 4294967296;
  reporting : (e : OpenEpoch) (rows : OpenRows) (first : List PieceReport)
      → OpenChannelsFor g.C.Channel.interface_of g.C.Channel.number_of g.C.Channel.represents e rows l.open_channels.table → IsListing rows → l.fn.out ≡ gathered first
      → (out : List PieceReport) × Reporting e l.open_channels.gap rows first out l.channel-iterator × (l.out ≡ gathered out);
}
