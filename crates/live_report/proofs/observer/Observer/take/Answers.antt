use Rattle.std.proofs.Common.{◌≡◌, ◌∙◌, ap, subst, sym, [], ◌∷◌, ◌++◌, option_to_list}
use Rattle.std.specs.Prelude.{IfOk, OnOk}
use Rattle.line_model.specs.basics.Records.{ReadRow}
use Rattle.line_model.specs.observer.Report.{report_of}
use Rattle.line_model.specs.packets.Says.{item_read}
use Rattle.live_report.specs.Observing.{AreItems, HasWalked}
use Rattle.live_report.proofs.observer.Observer.take.Goals as goal

pub take_row-requires : goal.take_row-requires
take_row-requires g c =
    let room = c.requires.room in
    let read : ReadRow = record { number = c.row.inside.number; side = c.row.inside.side; length = c.row.inside.length; octets = c.as_slice.result.now; gap = c.row.inside.gap } in
    let row : read ≡ c.args.row.now = ap (λ os. record { number = read.number; side = read.side; length = read.length; octets = os; gap = read.gap }) c.as_slice.ensures.value ∙ c.row.view_is in
    record { room = (room.0, room.1, room.2, subst (λ r. AreItems room.0 (room.1 ++ item_read room.0 r ∷ [])) (sym row) room.3) }

pub returns-clause-represented : goal.returns-clause-represented
returns-clause-represented g c i rs s sound =
    let read : ReadRow = record { number = c.row.inside.number; side = c.row.inside.side; length = c.row.inside.length; octets = c.as_slice.result.now; gap = c.row.inside.gap } in
    let row : read ≡ c.args.row.now = ap (λ os. record { number = read.number; side = read.side; length = read.length; octets = os; gap = read.gap }) c.as_slice.ensures.value ∙ c.row.view_is in
    subst (λ r. OnOk c.take_row.result (HasWalked g.C.Channel i (rs ++ item_read i r ∷ []) c.take_row.new.self)) row
    (c.take_row.ensures.represented i rs s (subst (λ r. AreItems i (rs ++ item_read i r ∷ [])) (sym row) sound))

pub returns-clause-finding : goal.returns-clause-finding
returns-clause-finding g c i rs s =
    let read : ReadRow = record { number = c.row.inside.number; side = c.row.inside.side; length = c.row.inside.length; octets = c.as_slice.result.now; gap = c.row.inside.gap } in
    let row : read ≡ c.args.row.now = ap (λ os. record { number = read.number; side = read.side; length = read.length; octets = os; gap = read.gap }) c.as_slice.ensures.value ∙ c.row.view_is in
    subst (λ r. IfOk c.take_row.result (λ found. (report_of i (rs ++ item_read i r ∷ [])).findings ≡ (report_of i rs).findings ++ option_to_list found)) row
    (c.take_row.ensures.finding i rs s)
