use Rattle.std.proofs.Common.{◌≡◌, ◌∙◌, ◌++◌, ◌∷◌, [], ap, option_map, subst, sym}
use Rattle.std.specs.Prelude.{IfSome}
use Rattle.std.specs.Option.{option_to_list}
use Rattle.line_model.specs.packets.Says.{item_of, items_of}
use Rattle.line_model.specs.text.Text.{rows_in}
use Rattle.trace_text.proofs.FeedLemmas.{rows-sound}
use Rattle.live_report.specs.JudgedRows.{IsJudgedRow}
use Rattle.restart_epochs.specs.ChannelTables.{value_at}
use Rattle.descriptions.specs.RowCalls.{number_at}
use Rattle.descriptions.specs.RowObjects.{circuit_recorded}
use Rattle.descriptions.proofs.FewCalls.{few_walked}
use Rattle.descriptions.proofs.ChoiceLemmas.{rows_written, written_row}
use Rattle.descriptions.proofs.ObjectLemmas.{last_kept}
use Rattle.descriptions.proofs.LineLemmas.{lent_kept, lent_object, unrecorded}
use Rattle.descriptions.proofs.row_objects.PastRows.common_object.Goals as goal

pub returns-clause-object : goal.returns-clause-object
returns-clause-object g c i before line r text s lines head row is kept =
    let observer = c.in-Some.observer.now in
    let rs = items_of i (rows_in before) in
    let rows = rows-sound text s.0.reads.sound ∙ ap rows_in lines ∙ rows_written before line ∙ ap (λ o. rows_in before ++ option_to_list o) row in
    let walked = last_kept g.C.Channel c.args.trace.now observer i before line r text s lines head row (sym c.observer.ensures ∙ ap (option_map (λ o. o.now)) c.in-Some.is) in
    let last = subst (λ es. IsJudgedRow i rs (item_of i r) c.in-Some-last_row.row.now es) (sym c.events.ensures) (c.in-Some-last_row.ensures i rs (item_of i r) walked) in
    let digits = c.in-Some-last_digits.ensures line r is (written_row before line r row) (ap (λ v. v.length) c.behind-trace.view_is ∙ ap (λ v. v.length) (c.row.ensures.last text s (rows_in before) r rows)) in
    lent_object (λ object. object.now) c.common_object.result c.args.is_picked (circuit_recorded c.args.self.now.recorded) i rs (item_of i r) c.in-Some-last_row.row.now c.epoch.result c.call_on.result c.events.result.now c.in-Some-last_digits.digits.now c.args.self.now.origins
    c.if-not-is_picked.false (unrecorded c.args.self.now.recorded c.is_some.result c.is_some.ensures c.if-is_some.false) last (c.epoch.ensures.walked i (rs ++ item_of i r ∷ []) walked.0) kept
    (subst (λ q. IfSome q (λ k. c.call_on.result ≡ number_at c.args.self.now.origins.epoch (value_at c.args.self.now.origins.calls.table k))) (sym c.in-Some-channel.is ∙ c.channel.ensures) c.call_on.ensures)
    (few_walked i _ observer walked.0) digits c.common_object.ensures

pub returns-clause-kept : goal.returns-clause-kept
returns-clause-kept g c i before line r text s lines head row is =
    let observer = c.in-Some.observer.now in
    let rs = items_of i (rows_in before) in
    let rows = rows-sound text s.0.reads.sound ∙ ap rows_in lines ∙ rows_written before line ∙ ap (λ o. rows_in before ++ option_to_list o) row in
    let walked = last_kept g.C.Channel c.args.trace.now observer i before line r text s lines head row (sym c.observer.ensures ∙ ap (option_map (λ o. o.now)) c.in-Some.is) in
    let last = subst (λ es. IsJudgedRow i rs (item_of i r) c.in-Some-last_row.row.now es) (sym c.events.ensures) (c.in-Some-last_row.ensures i rs (item_of i r) walked) in
    let digits = c.in-Some-last_digits.ensures line r is (written_row before line r row) (ap (λ v. v.length) c.behind-trace.view_is ∙ ap (λ v. v.length) (c.row.ensures.last text s (rows_in before) r rows)) in
    lent_kept (λ object. object.now) c.common_object.result i rs (item_of i r) c.in-Some-last_row.row.now c.epoch.result c.call_on.result c.events.result.now c.in-Some-last_digits.digits.now c.args.self.now.origins last digits c.common_object.ensures
