use Rattle.std.proofs.Common.{◌++◌, ◌∷◌, [], subst}
use Rattle.std.specs.Prelude.{OnOk}
use Rattle.line_model.specs.packets.Says.{item_read}
use Rattle.restart_epochs.specs.Cutting.{HasAppended, IsCounted, Represents, given_of}
use Rattle.restart_epochs.proofs.Taken.{on_ok_both}
use Rattle.trace_reading.proofs.Rows.{cut_more, may_be_next}
use Rattle.trace_reading.proofs.text_cutter.RowCutter.cut.Goals as goal

pub push-requires-clause-said : goal.push-requires-clause-said
push-requires-clause-said g c = let next = c.requires.next in (may_be_next next.0 (item_read c.args.self.now.interface c.args.row.now) c.item_of_row-item.result c.args.self.now next.1 next.2 c.item_of_row-item.ensures.item).said

pub push-requires-clause-rising : goal.push-requires-clause-rising
push-requires-clause-rising g c = let next = c.requires.next in (may_be_next next.0 (item_read c.args.self.now.interface c.args.row.now) c.item_of_row-item.result c.args.self.now next.1 next.2 c.item_of_row-item.ensures.item).rising

pub push-requires-clause-number : goal.push-requires-clause-number
push-requires-clause-number g c = let next = c.requires.next in (may_be_next next.0 (item_read c.args.self.now.interface c.args.row.now) c.item_of_row-item.result c.args.self.now next.1 next.2 c.item_of_row-item.ensures.item).number

pub push-requires-clause-octets : goal.push-requires-clause-octets
push-requires-clause-octets g c = let next = c.requires.next in (may_be_next next.0 (item_read c.args.self.now.interface c.args.row.now) c.item_of_row-item.result c.args.self.now next.1 next.2 c.item_of_row-item.ensures.item).octets

pub returns-clause-cut : goal.returns-clause-cut
returns-clause-cut g c before h =
    let i = c.args.self.now.interface in
    let is = c.item_of_row-item.ensures.item in
    on_ok_both c.push.result _ _ _ (c.push.ensures.represented i before h.represented) c.push.ensures.counted
    (λ represented counted. cut_more c.args.self.now c.push.new.self before (item_read i c.args.row.now) h.counting (subst (λ r. Represents i (before ++ r ∷ []) c.push.new.self) is represented) (subst (λ r. IsCounted r c.args.self.now.cutter c.push.new.self) is counted))

pub returns-clause-pieces : goal.returns-clause-pieces
returns-clause-pieces g c before h =
    let i = c.args.self.now.interface in
    subst (λ r. OnOk c.push.result (HasAppended c.args.pieces.now.items c.push.new.out.items (given_of i before) (given_of i (before ++ r ∷ [])))) c.item_of_row-item.ensures.item (c.push.ensures.appended i before h.represented)
