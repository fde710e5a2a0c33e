use Rattle.std.proofs.Common.{◌≡◌, ◌≢◌, ◌∙◌, ◌++◌, ◌∷◌, [], ap, length, option_map, subst, sym, Some}
use Rattle.std.specs.Option.{option_to_list}
use Rattle.line_model.specs.packets.Says.{item_of, items_of}
use Rattle.line_model.proofs.Saying.{said_count}
use Rattle.line_model.specs.text.Text.{early_rows, head_of, rows_in}
use Rattle.trace_text.proofs.FeedLemmas.{rows-sound}
use Rattle.live_report.proofs.LiveLemmas.{keeps_rows, nothing_seen, observing_of}
use Rattle.annotated_trace.specs.Rows.{asked_call, row_written}
use Rattle.descriptions.specs.CallRows.{Follows}
use Rattle.live_report.specs.Observing.{Represents}
use Rattle.descriptions.proofs.ChoiceLemmas.{items_written, chosen_same, head_is, headed_row, no_rows_written, none_mapped, none_written, one_written, rows_written, same_head, some_is, picked_none, picked_some}
use Rattle.descriptions.proofs.chosen.Chosen.judge_line.Goals as goal

pub returns-in_default-clause-picked : goal.returns-in_default-clause-picked
returns-in_default-clause-picked g c before line text h s lines =
    let none = nothing_seen g.C.Channel.interface_of g.C.Channel.number_of g.C.Channel.represents c.args.trace.now text s.0 (sym c.observer.ensures ∙ none_mapped (λ o. o.now) c.observer.result c.in_default.not-Some) in
    let rows = sym (rows_written before line) ∙ ap rows_in (sym lines) ∙ sym (rows-sound text s.0.reads.sound) ∙ none in
    picked_none c.args.self.now.rows (head_of before) (rows_in before) (row_written before line) (no_rows_written (rows_in before) (row_written before line) rows)

pub returns-in_default-clause-chosen : goal.returns-in_default-clause-chosen
returns-in_default-clause-chosen g c before line text h s lines =
    let none = nothing_seen g.C.Channel.interface_of g.C.Channel.number_of g.C.Channel.represents c.args.trace.now text s.0 (sym c.observer.ensures ∙ none_mapped (λ o. o.now) c.observer.result c.in_default.not-Some) in
    let rows = sym (rows_written before line) ∙ ap rows_in (sym lines) ∙ sym (rows-sound text s.0.reads.sound) ∙ none in
    chosen_same before line c.args.self.now h (no_rows_written (rows_in before) (row_written before line) rows)

pub returns-then-packets-self-clause-picked : goal.returns-then-packets-self-clause-picked
returns-then-packets-self-clause-picked g c before line text h s lines =
    let w = observing_of g.C.Channel.interface_of g.C.Channel.number_of g.C.Channel.represents c.args.trace.now text c.in-Some.observer.now s.0 (sym c.observer.ensures ∙ ap (option_map (λ o. o.now)) c.in-Some.is) in
    let rows = rows-sound text s.0.reads.sound ∙ ap rows_in lines ∙ rows_written before line in
    let count = ap (λ l. length l) (sym rows) ∙ sym (c.packets.ensures.walked w.0 (items_of w.0 (early_rows text)) w.1.observes ∙ said_count w.0 (early_rows text)) ∙ c.if-packets-self.true ∙ h.packets in
    picked_none c.args.self.now.rows (head_of before) (rows_in before) (row_written before line) (none_written (rows_in before) (row_written before line) count)

pub returns-then-packets-self-clause-chosen : goal.returns-then-packets-self-clause-chosen
returns-then-packets-self-clause-chosen g c before line text h s lines =
    let w = observing_of g.C.Channel.interface_of g.C.Channel.number_of g.C.Channel.represents c.args.trace.now text c.in-Some.observer.now s.0 (sym c.observer.ensures ∙ ap (option_map (λ o. o.now)) c.in-Some.is) in
    let rows = rows-sound text s.0.reads.sound ∙ ap rows_in lines ∙ rows_written before line in
    let count = ap (λ l. length l) (sym rows) ∙ sym (c.packets.ensures.walked w.0 (items_of w.0 (early_rows text)) w.1.observes ∙ said_count w.0 (early_rows text)) ∙ c.if-packets-self.true ∙ h.packets in
    chosen_same before line c.args.self.now h (none_written (rows_in before) (row_written before line) count)

pub returns-clause-picked : goal.returns-clause-picked
returns-clause-picked g c before line text h s lines =
    let w = observing_of g.C.Channel.interface_of g.C.Channel.number_of g.C.Channel.represents c.args.trace.now text c.in-Some.observer.now s.0 (sym c.observer.ensures ∙ ap (option_map (λ o. o.now)) c.in-Some.is) in
    let rows = rows-sound text s.0.reads.sound ∙ ap rows_in lines ∙ rows_written before line in
    let other : length (rows_in before ++ option_to_list (row_written before line)) ≢ length (rows_in before) = λ same. c.if-packets-self.false (c.packets.ensures.walked w.0 (items_of w.0 (early_rows text)) w.1.observes ∙ said_count w.0 (early_rows text) ∙ ap (λ l. length l) rows ∙ same ∙ sym h.packets) in
    let one = one_written (rows_in before) (row_written before line) other in
    let row = rows ∙ ap (λ o. rows_in before ++ option_to_list o) one.1 in
    let head = sym (headed_row before line one.0 one.1) ∙ ap head_of (sym lines) ∙ sym s.0.reads.interface ∙ w.1.header in
    picked_some c.args.self.now.rows (head_of before) w.0 (rows_in before) (row_written before line) one.0 c.judge-picked.result head one.1
    (c.judge-picked.ensures.picked w.0 (items_of w.0 (rows_in before)) (item_of w.0 one.0) (h.call w.0 (head_is (head_of before) w.0 head)) h.number
    (subst (λ rs. Represents g.C.Channel.interface_of g.C.Channel.number_of g.C.Channel.represents w.0 rs c.in-Some.observer.now) (items_written w.0 (early_rows text) (rows_in before) one.0 row) w.1.observes, keeps_rows g.C.Channel.interface_of g.C.Channel.number_of g.C.Channel.represents c.args.trace.now text c.in-Some.observer.now s.0 s.1 (sym c.observer.ensures ∙ ap (option_map (λ o. o.now)) c.in-Some.is)))

pub returns-clause-chosen : goal.returns-clause-chosen
returns-clause-chosen g c before line text h s lines =
    let w = observing_of g.C.Channel.interface_of g.C.Channel.number_of g.C.Channel.represents c.args.trace.now text c.in-Some.observer.now s.0 (sym c.observer.ensures ∙ ap (option_map (λ o. o.now)) c.in-Some.is) in
    let rows = rows-sound text s.0.reads.sound ∙ ap rows_in lines ∙ rows_written before line in
    let other : length (rows_in before ++ option_to_list (row_written before line)) ≢ length (rows_in before) = λ same. c.if-packets-self.false (c.packets.ensures.walked w.0 (items_of w.0 (early_rows text)) w.1.observes ∙ said_count w.0 (early_rows text) ∙ ap (λ l. length l) rows ∙ same ∙ sym h.packets) in
    let one = one_written (rows_in before) (row_written before line) other in
    let row = rows ∙ ap (λ o. rows_in before ++ option_to_list o) one.1 in
    let head = sym (headed_row before line one.0 one.1) ∙ ap head_of (sym lines) ∙ sym s.0.reads.interface ∙ w.1.header in
    let last : head_of (before ++ line ∷ []) ≡ Some w.0 = ap head_of (sym lines) ∙ sym s.0.reads.interface ∙ w.1.header in
    let all : rows_in (before ++ line ∷ []) ≡ rows_in before ++ one.0 ∷ [] = rows_written before line ∙ ap (λ o. rows_in before ++ option_to_list o) one.1 in
    let follows = c.judge-picked.ensures.follows w.0 (items_of w.0 (rows_in before)) (item_of w.0 one.0) (h.call w.0 (head_is (head_of before) w.0 head))
    (subst (λ rs. Represents g.C.Channel.interface_of g.C.Channel.number_of g.C.Channel.represents w.0 rs c.in-Some.observer.now) (items_written w.0 (early_rows text) (rows_in before) one.0 row) w.1.observes, keeps_rows g.C.Channel.interface_of g.C.Channel.number_of g.C.Channel.represents c.args.trace.now text c.in-Some.observer.now s.0 s.1 (sym c.observer.ensures ∙ ap (option_map (λ o. o.now)) c.in-Some.is)) in
    record {
      packets = c.judge-picked.ensures.packets ∙ c.packets-self.ensures.walked w.0 (items_of w.0 (early_rows text)) w.1.observes ∙ said_count w.0 (early_rows text) ∙ ap (λ l. length l) (row ∙ sym all);
      number = c.judge-picked.ensures.number ∙ h.number ∙ ap asked_call (sym c.judge-picked.ensures.rows);
      call = λ j headed. subst (λ x. Follows x (items_of x (rows_in (before ++ line ∷ []))) c.judge-picked.new.self.call) (same_head (head_of (before ++ line ∷ [])) w.0 j last headed) (subst (λ items. Follows w.0 items c.judge-picked.new.self.call) (sym (items_written w.0 (rows_in (before ++ line ∷ [])) (rows_in before) one.0 all)) follows);
    }

pub returns-clause-headed : goal.returns-clause-headed
returns-clause-headed g c before line text h s lines =
    let w = observing_of g.C.Channel.interface_of g.C.Channel.number_of g.C.Channel.represents c.args.trace.now text c.in-Some.observer.now s.0 (sym c.observer.ensures ∙ ap (option_map (λ o. o.now)) c.in-Some.is) in
    let rows = rows-sound text s.0.reads.sound ∙ ap rows_in lines ∙ rows_written before line in
    let other : length (rows_in before ++ option_to_list (row_written before line)) ≢ length (rows_in before) = λ same. c.if-packets-self.false (c.packets.ensures.walked w.0 (items_of w.0 (early_rows text)) w.1.observes ∙ said_count w.0 (early_rows text) ∙ ap (λ l. length l) rows ∙ same ∙ sym h.packets) in
    let one = one_written (rows_in before) (row_written before line) other in
    let row = rows ∙ ap (λ o. rows_in before ++ option_to_list o) one.1 in
    let head = sym (headed_row before line one.0 one.1) ∙ ap head_of (sym lines) ∙ sym s.0.reads.interface ∙ w.1.header in
    some_is (head_of before) w.0 head
