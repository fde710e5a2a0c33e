use Rattle.std.proofs.Common.{◌∙◌, ◌++◌, ◌∷◌, [], ap, append-nil, arith, length-append, option_map, refl, subst, sym}
use Rattle.std.specs.Prelude.{OnOk}
use Rattle.line_model.specs.packets.Says.{item_of, items_of}
use Rattle.line_model.specs.text.Text.{rows_in}
use Rattle.live_report.specs.JudgedRows.{IsJudgedRow}
use Rattle.annotated_trace.specs.Printed.{HasAppended}
use Rattle.descriptions.specs.RowObjects.{IsObjectWhere, IsRowObject, circuit_recorded}
use Rattle.descriptions.proofs.ChoiceLemmas.{none_mapped, some_one}
use Rattle.descriptions.proofs.FewCalls.{few_rows, few_walked}
use Rattle.descriptions.proofs.LineLemmas.{object_appended, on_any}
use Rattle.descriptions.proofs.ObjectLemmas.{last_kept, not_seen}
use Rattle.descriptions.proofs.row_objects.PastRows.append_row.Goals as goal

pub returns-in_default-clause-object : goal.returns-in_default-clause-object
returns-in_default-clause-object g c i before line r text s lines head row is kept =
    absurd (not_seen g.C.Channel c.args.trace.now before line r text s lines row (sym c.observer.ensures ∙ none_mapped (λ o. o.now) c.observer.result c.in_default.not-Some))

pub returns-in_default-clause-kept : goal.returns-in_default-clause-kept
returns-in_default-clause-kept g c i before line r text s lines head row is kept =
    absurd (not_seen g.C.Channel c.args.trace.now before line r text s lines row (sym c.observer.ensures ∙ none_mapped (λ o. o.now) c.observer.result c.in_default.not-Some))

pub returns-in_default-clause-added : goal.returns-in_default-clause-added
returns-in_default-clause-added g c i before line r text s lines head row is kept =
    absurd (not_seen g.C.Channel c.args.trace.now before line r text s lines row (sym c.observer.ensures ∙ none_mapped (λ o. o.now) c.observer.result c.in_default.not-Some))

pub returns-in_default-last_row-clause-object : goal.returns-in_default-last_row-clause-object
returns-in_default-last_row-clause-object g c i before line r text s lines head row is kept =
    let last = last_kept g.C.Channel c.args.trace.now c.in-Some.observer.now i before line r text s lines head row (sym c.observer.ensures ∙ ap (option_map (λ o. o.now)) c.in-Some.is) in
    absurd (some_one c.last_row.result _ (c.last_row.ensures i (items_of i (rows_in before)) (item_of i r) last) c.in_default-last_row.not-Some)

pub returns-in_default-last_row-clause-kept : goal.returns-in_default-last_row-clause-kept
returns-in_default-last_row-clause-kept g c i before line r text s lines head row is kept =
    let last = last_kept g.C.Channel c.args.trace.now c.in-Some.observer.now i before line r text s lines head row (sym c.observer.ensures ∙ ap (option_map (λ o. o.now)) c.in-Some.is) in
    absurd (some_one c.last_row.result _ (c.last_row.ensures i (items_of i (rows_in before)) (item_of i r) last) c.in_default-last_row.not-Some)

pub returns-in_default-last_row-clause-added : goal.returns-in_default-last_row-clause-added
returns-in_default-last_row-clause-added g c i before line r text s lines head row is kept =
    let last = last_kept g.C.Channel c.args.trace.now c.in-Some.observer.now i before line r text s lines head row (sym c.observer.ensures ∙ ap (option_map (λ o. o.now)) c.in-Some.is) in
    absurd (some_one c.last_row.result _ (c.last_row.ensures i (items_of i (rows_in before)) (item_of i r) last) c.in_default-last_row.not-Some)

pub returns-clause-object : goal.returns-clause-object
returns-clause-object g c i before line r text s lines head row is kept =
    let rs = items_of i (rows_in before) in
    let last = last_kept g.C.Channel c.args.trace.now c.in-Some.observer.now i before line r text s lines head row (sym c.observer.ensures ∙ ap (option_map (λ o. o.now)) c.in-Some.is) in
    let judged = c.in-Some-last_row.ensures i rs (item_of i r) last in
    let taken = subst (IsJudgedRow i rs (item_of i r) c.in-Some-last_row.last.now) (sym c.events.ensures) judged in
    let facts = c.facts-facts.ensures.facts i rs (item_of i r) judged (c.in_ok-earlier.ensures.epoch i rs kept) (c.in_ok-earlier.ensures.follows i rs (item_of i r) kept taken)
    (c.in_ok-earlier.ensures.call i rs (item_of i r) kept taken (few_walked i _ c.in-Some.observer.now last.0)) in
    let object = c.write_object.ensures i rs (item_of i r) facts in
    let circuit = c.take_recorded-recorded.result.circuit in
    subst (λ q. OnOk c.extend_from_slice.result (HasAppended (IsObjectWhere c.args.picked q i rs (item_of i r)) c.args.out.now.items c.extend_from_slice.new.self.items)) c.take_recorded-recorded.ensures.circuit
    (subst (λ b. OnOk c.extend_from_slice.result (HasAppended (IsObjectWhere b circuit i rs (item_of i r)) c.args.out.now.items c.extend_from_slice.new.self.items)) (sym c.if-not-picked.false)
    (object_appended c.extend_from_slice.result (IsRowObject circuit i rs (item_of i r)) _ c.args.out.now.items c.extend_from_slice.new.self.items c.extend_from_slice.ensures.items (subst (IsRowObject circuit i rs (item_of i r)) (sym (c.in_ok-written.ensures object.bytes object.put)) object.formed)))

pub returns-clause-kept : goal.returns-clause-kept
returns-clause-kept g c i before line r text s lines head row is kept =
    let rs = items_of i (rows_in before) in
    let last = last_kept g.C.Channel c.args.trace.now c.in-Some.observer.now i before line r text s lines head row (sym c.observer.ensures ∙ ap (option_map (λ o. o.now)) c.in-Some.is) in
    let taken = subst (IsJudgedRow i rs (item_of i r) c.in-Some-last_row.last.now) (sym c.events.ensures) (c.in-Some-last_row.ensures i rs (item_of i r) last) in
    on_any c.extend_from_slice.result (c.in_ok-earlier.ensures.kept i rs (item_of i r) kept taken (c.epoch.ensures.walked i (rs ++ item_of i r ∷ []) last.0))

pub returns-clause-added : goal.returns-clause-added
returns-clause-added g c i before line r text s lines head row is kept =
    let rs = items_of i (rows_in before) in
    let last = last_kept g.C.Channel c.args.trace.now c.in-Some.observer.now i before line r text s lines head row (sym c.observer.ensures ∙ ap (option_map (λ o. o.now)) c.in-Some.is) in
    let judged = c.in-Some-last_row.ensures i rs (item_of i r) last in
    let taken = subst (IsJudgedRow i rs (item_of i r) c.in-Some-last_row.last.now) (sym c.events.ensures) judged in
    let facts = c.facts-facts.ensures.facts i rs (item_of i r) judged (c.in_ok-earlier.ensures.epoch i rs kept) (c.in_ok-earlier.ensures.follows i rs (item_of i r) kept taken)
    (c.in_ok-earlier.ensures.call i rs (item_of i r) kept taken (few_walked i _ c.in-Some.observer.now last.0)) in
    on_any c.extend_from_slice.result (c.of-self.ensures i rs (item_of i r) facts, omega (arith, few_rows i _ c.in-Some.observer.now last.0, length-append rs (item_of i r ∷ [])))

pub returns-then-not-picked-clause-object : goal.returns-then-not-picked-clause-object
returns-then-not-picked-clause-object g c i before line r text s lines head row is kept =
    subst (λ b. HasAppended (IsObjectWhere b (circuit_recorded c.args.self.now.recorded) i (items_of i (rows_in before)) (item_of i r)) c.args.out.now.items c.args.out.now.items) (sym c.if-not-picked.true)
    (record { bytes = []; appended = sym (append-nil c.args.out.now.items); formed = refl })

pub returns-then-not-picked-clause-kept : goal.returns-then-not-picked-clause-kept
returns-then-not-picked-clause-kept g c i before line r text s lines head row is kept =
    let rs = items_of i (rows_in before) in
    let last = last_kept g.C.Channel c.args.trace.now c.in-Some.observer.now i before line r text s lines head row (sym c.observer.ensures ∙ ap (option_map (λ o. o.now)) c.in-Some.is) in
    let taken = subst (IsJudgedRow i rs (item_of i r) c.in-Some-last_row.last.now) (sym c.events.ensures) (c.in-Some-last_row.ensures i rs (item_of i r) last) in
    c.in_ok-earlier.ensures.kept i rs (item_of i r) kept taken (c.epoch.ensures.walked i (rs ++ item_of i r ∷ []) last.0)

pub returns-then-not-picked-clause-added : goal.returns-then-not-picked-clause-added
returns-then-not-picked-clause-added g c i before line r text s lines head row is kept =
    let rs = items_of i (rows_in before) in
    let last = last_kept g.C.Channel c.args.trace.now c.in-Some.observer.now i before line r text s lines head row (sym c.observer.ensures ∙ ap (option_map (λ o. o.now)) c.in-Some.is) in
    let judged = c.in-Some-last_row.ensures i rs (item_of i r) last in
    let taken = subst (IsJudgedRow i rs (item_of i r) c.in-Some-last_row.last.now) (sym c.events.ensures) judged in
    let facts = c.facts-facts.ensures.facts i rs (item_of i r) judged (c.in_ok-earlier.ensures.epoch i rs kept) (c.in_ok-earlier.ensures.follows i rs (item_of i r) kept taken)
    (c.in_ok-earlier.ensures.call i rs (item_of i r) kept taken (few_walked i _ c.in-Some.observer.now last.0)) in
    (c.of-self.ensures i rs (item_of i r) facts, omega (arith, few_rows i _ c.in-Some.observer.now last.0, length-append rs (item_of i r ∷ [])))
