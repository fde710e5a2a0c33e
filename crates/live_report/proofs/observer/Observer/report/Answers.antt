use Rattle.std.proofs.Common.{◌∙◌, ap, arith, length, map, sym}
use Rattle.line_model.specs.pieces.Plans.{result_of}
use Rattle.line_model.proofs.Posts.{length-values}
use Rattle.restart_epochs.specs.Cutting.{given_of}
use Rattle.restart_epochs.proofs.Listings.{listing}
use Rattle.live_report.specs.Observing.{epoch_at}
use Rattle.live_report.proofs.TakeLemmas.{pieces_here}
use Rattle.live_report.proofs.WholeLemmas.{few_gaps, of_walk}
use Rattle.std.proofs.lemmas.Result.{IfOk-from_err}
use Rattle.live_report.proofs.observer.Observer.report.Goals as goal

pub report_channels-requires-clause-room : goal.report_channels-requires-clause-room
report_channels-requires-clause-room g c =
    let room = c.requires.room in
    let s = room.2 in (
      epoch_at s.cutting,
      s.cutting.open_rows,
      map result_of (given_of room.0 room.1),
      s.holds.open_channels,
      pieces_here g.C.Channel.interface_of g.C.Channel.number_of g.C.Channel.represents s.cutting _ _ s.holds s.bounds,
      listing room.0 room.1 s.cutting s.cut,
      c.in_ok-parts.ensures.same ∙ s.holds.ended,
    )

pub returns-clause-report : goal.returns-clause-report
returns-clause-report g c i rs s =
    c.finish.ensures.report i rs _
    (c.in_ok-report_channels.ensures.values (epoch_at s.cutting) s.cutting.open_rows (map result_of (given_of i rs)) s.holds.open_channels
    (pieces_here g.C.Channel.interface_of g.C.Channel.number_of g.C.Channel.represents s.cutting _ _ s.holds s.bounds) (listing i rs s.cutting s.cut) (c.in_ok-parts.ensures.same ∙ s.holds.ended))
    (of_walk g.C.Channel.interface_of g.C.Channel.number_of g.C.Channel.represents i rs c.args.self.now s c.in_ok-findings.findings.items c.row_counts.result (c.in_ok-findings.ensures.items ∙ c.as_slice.ensures.value) c.row_counts.ensures.packets c.row_counts.ensures.gaps)

pub report_channels-requires-clause-pieces : goal.report_channels-requires-clause-pieces
report_channels-requires-clause-pieces g c =
    let s = c.requires.room.2 in
    let pieces = ap (λ e. e.pieces) (c.in_ok-parts.ensures.same ∙ s.holds.ended) ∙ length-values (given_of c.requires.room.0 c.requires.room.1) ∙ sym s.cut.given in
    let channels = ap (λ l. length l) s.holds.open_channels.channels in
    omega (arith, pieces, channels, s.bounds.ids, s.bounds.rows, s.bounds.last)

pub row_counts-requires : goal.row_counts-requires
row_counts-requires g c = few_gaps g.C.Channel.interface_of g.C.Channel.number_of g.C.Channel.represents c.requires.room.0 c.requires.room.1 _ c.requires.room.2

pub returns-in_err-parts-clause-report : goal.returns-in_err-parts-clause-report
returns-in_err-parts-clause-report g c i rs s = IfOk-from_err _ _ c.from_residual-in_err-parts.ensures.0

pub returns-in_err-report_channels-clause-report : goal.returns-in_err-report_channels-clause-report
returns-in_err-report_channels-clause-report g c i rs s = IfOk-from_err _ _ c.from_residual-in_err-report_channels.ensures.0

pub returns-in_err-findings-clause-report : goal.returns-in_err-findings-clause-report
returns-in_err-findings-clause-report g c i rs s = IfOk-from_err _ _ c.from_residual.ensures.0
