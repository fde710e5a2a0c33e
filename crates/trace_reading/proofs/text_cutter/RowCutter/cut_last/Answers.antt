use Rattle.std.proofs.Common.{◌++◌, subst, sym}
use Rattle.std.specs.Prelude.{OnOk}
use Rattle.restart_epochs.specs.Cutting.{HasAppended, given_of}
use Rattle.live_report.specs.Observing.{last_item}
use Rattle.trace_reading.specs.TextCuts.{HasCut}
use Rattle.trace_reading.proofs.text_cutter.RowCutter.cut_last.Goals as goal

pub returns-then-has_row-clause-pieces : goal.returns-then-has_row-clause-pieces
returns-then-has_row-clause-pieces g c before cut =
    let i = c.args.self.now.interface in
    subst (λ has. OnOk c.cut.result (HasAppended c.args.pieces.now.items c.cut.new.pieces.items (given_of i before) (given_of i (before ++ last_item i has c.args.row.now)))) (sym c.if-has_row.true) (c.cut.ensures.pieces before cut)

pub returns-then-has_row-clause-cut : goal.returns-then-has_row-clause-cut
returns-then-has_row-clause-cut g c before cut =
    let i = c.args.self.now.interface in
    subst (λ has. OnOk c.cut.result (HasCut (before ++ last_item i has c.args.row.now) c.cut.new.self)) (sym c.if-has_row.true) (c.cut.ensures.cut before cut)
