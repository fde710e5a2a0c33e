-- The objects of rows, as they are appended.
use Rattle.std.proofs.Common.{◌≡◌, ◌∙◌, sym, ap, subst, refl, ℕ, ◌+◌, Bool, false, List, [], ◌∷◌, ◌++◌, Option, Some, None, Result, Ok, Err, OnOk, append-nil}
use Rattle.std.specs.Prelude.{codes}
use Rattle.std.specs.Option.{option_to_list}
use Rattle.line_model.specs.basics.Records.{Item, Row}
use Rattle.line_model.specs.declared.interface.Interface.{Interface}
use Rattle.line_model.specs.channels.Gaps.{GapChannel}
use Rattle.line_model.specs.channels.RestartMachine.{restart_name}
use Rattle.line_model.specs.channels.GapRestart.{GapInterfaceState}
use Rattle.line_model.specs.observer.Machine.{Observer, routed}
use Rattle.line_model.specs.observer.Observer.{x25}
use Rattle.line_model.specs.observer.Calls.{all_lengths}
use Rattle.line_model.specs.observer.Report.{state_word}
use Rattle.line_model.specs.packets.Says.{gap_of, item_of, items_of}
use Rattle.line_model.specs.text.Text.{Line, early_rows, ended_lines, head_of, rows_in}
use Rattle.trace_text.proofs.FeedLemmas.{rows-sound}
use Rattle.channel_run.specs.declared.run.Channel.{Ghosts as Machine}
use Rattle.restart_epochs.specs.Cutting.{observer}
use Rattle.live_report.proofs.LiveLemmas.{keeps_rows, nothing_seen, observing_of}
use Rattle.live_report.specs.JudgedRows.{IsJudge}
use Rattle.live_report.specs.Lives.{KeepsRowsOf}
use Rattle.live_report.specs.Observing.{HasKept, HasWalked}
use Rattle.live_report.specs.declared.live.Live.{Live}
use Rattle.live_report.specs.declared.observer.Observer.{Observer as Observing}
use Rattle.live_report.specs.declared.judged_row.Judge.{Judge}
use Rattle.live_report.specs.declared.judged_row.Judge.TheVariants as judge
use Rattle.annotated_trace.specs.Printed.{HasAppended}
use Rattle.annotated_trace.specs.Rows.{is_chosen, is_chosen_if, row_written}
use Rattle.annotated_trace.specs.declared.rows.Rows.{Rows}
use Rattle.descriptions.specs.CallTable.{maybe_number}
use Rattle.descriptions.specs.Choosing.{picked_where}
use Rattle.descriptions.specs.Circuits.{Circuit}
use Rattle.descriptions.specs.Facts.{AreFactsOf}
use Rattle.descriptions.specs.RowCalls.{call_of, row_call}
use Rattle.descriptions.specs.RowObjects.{IsObjectIn, IsObjectWhere, IsRest, IsRowObject, circuit_line, counted_word, events_at, finding_word, gap_head, head_by, known_word, named_channel, number_word, owed_after, owed_at, packet_head, place_members, row_head, state_at, state_members, word_after, word_before}
use Rattle.descriptions.specs.Writing.{Adds, These}
use Rattle.descriptions.specs.declared.call_columns.TableForm.TheVariants.{Objects}
use Rattle.descriptions.specs.declared.facts.RowFacts.{RowFacts}
use Rattle.descriptions.proofs.ChoiceLemmas.{headed_row, items_written, no_rows_written, rows_written}
use Rattle.descriptions.proofs.MemberLemmas.{both_put}
use Rattle.descriptions.proofs.OneLine.{rest_one}
use Rattle.descriptions.proofs.ValueLemmas.{these_same, these_then}

-- ---- the states before and after a row

pub words_are : (i : Interface) (taker : Option ℕ) (o more : Observer GapInterfaceState GapChannel) (j : Judge) → IsJudge i taker o more j → (word_before j ≡ state_at taker o) × (word_after j ≡ state_at taker more)
words_are i None o more (judge.Restart before after) h = (ap (λ x. state_word (restart_name x)) h.0, ap (λ x. state_word (restart_name x)) h.1)
words_are i None o more (judge.Channel k before after accepted) h = absurd h
words_are i (Some n) o more (judge.Restart before after) h = absurd h
words_are i (Some n) o more (judge.Channel k before after accepted) h = ((λ t. known_word (h.1.adrift t) (h.1.state t)), (λ t. known_word (h.2.adrift t) (h.2.state t)))

pub owed_is : (i : Interface) (taker : Option ℕ) (o more : Observer GapInterfaceState GapChannel) (j : Judge) → IsJudge i taker o more j → owed_after j ≡ owed_at taker more
owed_is i None o more (judge.Restart before after) h = refl
owed_is i None o more (judge.Channel k before after accepted) h = absurd h
owed_is i (Some n) o more (judge.Restart before after) h = absurd h
owed_is i (Some n) o more (judge.Channel k before after accepted) h = h.2.owed

-- ---- the beginning of an object

pub number_same : (n : Option ℕ) → maybe_number Objects n ≡ number_word n
number_same None = refl
number_same (Some n) = refl

pub head_put : {O : Type 0} {has : O → List ℕ → Type 0} {a b c d e : O} (i : Interface) (earlier : List Item) (r : Item) (facts : RowFacts) → AreFactsOf i earlier r facts
    → Adds has (These (state_members facts.last.now.number facts.last.now.side (named_channel facts.last.now.packet) (word_before facts.last.now.judge) (word_after facts.last.now.judge))) a b
    → Adds has (These (counted_word (all_lengths (events_at i (routed (x25 i) (observer i earlier).level r) (observer i earlier) r)))) b c
    → Adds has (These (place_members facts.earlier.epoch (owed_after facts.last.now.judge))) c d → Adds has (These (finding_word facts.last.now.finding facts.earlier.follows)) d e
    → Adds has (These (packet_head i earlier r facts.last.now.finding)) a e
head_put i earlier r facts h states counted place found =
    let taker : Option ℕ = routed (x25 i) (observer i earlier).level r in
    let more : Observer GapInterfaceState GapChannel = observer i (earlier ++ r ∷ []) in
    let words = words_are i taker (observer i earlier) more facts.last.now.judge h.judge in
    these_then (these_same (λ t. state_members (h.number t) (h.side t) (named_channel (h.packet t)) (words.0 t) (words.1 t)) states)
    (these_then counted (these_then (these_same (λ t. place_members (h.epoch t) (owed_is i taker (observer i earlier) more facts.last.now.judge h.judge t)) place)
    (these_same (λ t. finding_word facts.last.now.finding (h.follows t)) found)))

-- the beginning of a gap's, or of a packet's
pub gap_is : (i : Interface) (earlier : List Item) (r : Item) (facts : RowFacts) (channel : Option ℕ) → AreFactsOf i earlier r facts → gap_of facts.last.now.packet ≡ Some channel
    → gap_head facts.last.now.number channel ≡ row_head i earlier r facts.last.now.finding
gap_is i earlier r facts channel h gap =
    (λ t. gap_head (h.number t) channel) ∙ sym (ap (λ g. head_by g i earlier r facts.last.now.finding) (sym (ap gap_of h.packet) ∙ gap))

pub packet_is : (i : Interface) (earlier : List Item) (r : Item) (facts : RowFacts) → AreFactsOf i earlier r facts → gap_of facts.last.now.packet ≡ None
    → packet_head i earlier r facts.last.now.finding ≡ row_head i earlier r facts.last.now.finding
packet_is i earlier r facts h none = sym (ap (λ g. head_by g i earlier r facts.last.now.finding) (sym (ap gap_of h.packet) ∙ none))

-- ---- an object

pub object_put : {O : Type 0} {has : O → List ℕ → Type 0} {a b c d : O} (circuit : Option ℕ) (i : Interface) (earlier : List Item) (r : Item) (facts : RowFacts) → AreFactsOf i earlier r facts
    → Adds has (These (row_head i earlier r facts.last.now.finding)) a b → Adds has (IsRest (gap_of facts.last.now.packet) facts.last.now.finding circuit (row_call facts.calls)) b c → Adds has (These (codes "}\n")) c d
    → Adds has (IsRowObject circuit i earlier r) a d
object_put circuit i earlier r facts h head rest end =
    both_put {Q = λ bytes. (own : List ℕ) × (bytes ≡ own ++ codes "}\n") × IsRest (gap_of facts.last.now.packet) facts.last.now.finding circuit (row_call facts.calls) own}
    (λ x y e m. record {
      found = facts.last.now.finding;
      came = h.finding;
      rest = m.0;
      one = rest_one (gap_of facts.last.now.packet) facts.last.now.finding circuit (row_call facts.calls) m.0 m.2;
      members = subst (λ packet. IsRest (gap_of packet) facts.last.now.finding circuit (call_of i earlier r) m.0) h.packet (subst (λ call. IsRest (gap_of facts.last.now.packet) facts.last.now.finding circuit call m.0) h.call m.2);
      written = λ t. e t ++ m.1 t;
    })
    head (both_put (λ x y is e. (x, (λ t. x ++ e t), is)) rest end)

-- ---- which lines have one

same_choice : (a b : Bool) → Some a ≡ Some b → a ≡ b
same_choice a b e = cc

-- a line without a row
pub circuit_appended : {T E : Type 0} (result : Result T E) (rows : Rows) (head : Option Interface) (earlier : List Row) (o : Option Row) (named : Option Circuit) (out after : List ℕ) → None ≡ picked_where rows head earlier o → OnOk result (after ≡ out ++ circuit_line named)
    → OnOk result (HasAppended (IsObjectIn rows head earlier o named) out after)
circuit_appended (Err x) rows head earlier o named out after e put = tt
circuit_appended (Ok x) rows head earlier None named out after e put = record { bytes = circuit_line named; appended = put; formed = refl }
circuit_appended (Ok x) rows head earlier (Some r) named out after e put = absurd (let bad : None ≡ Some (is_chosen_if rows head earlier (Some r)) = e in cc)

-- a row
pub row_put : {T E : Type 0} (result : Result T E) (rows : Rows) (head : Option Interface) (earlier : List Row) (o : Option Row) (named : Option Circuit) (circuit : Option ℕ) (picked : Bool) (out after : List ℕ) → Some picked ≡ picked_where rows head earlier o
    → (picked ≡ false → after ≡ out) → ((i : Interface) (r : Row) → head ≡ Some i → o ≡ Some r → OnOk result (HasAppended (IsObjectWhere picked circuit i (items_of i earlier) (item_of i r)) out after))
    → OnOk result (HasAppended (IsObjectIn rows head earlier o named) out after)
row_put result rows head earlier None named circuit picked out after e unpicked object = absurd (let bad : Some picked ≡ None = e in cc)
row_put (Err x) rows head earlier (Some r) named circuit picked out after e unpicked object = tt
row_put (Ok x) rows None earlier (Some r) named circuit picked out after e unpicked object =
    record { bytes = []; appended = unpicked (same_choice picked false e) ∙ sym (append-nil out); formed = refl }
row_put (Ok x) rows (Some i) earlier (Some r) named circuit picked out after e unpicked object =
    let h = object i r refl refl in
    record { bytes = h.bytes; appended = h.appended; formed = (circuit, subst (λ b. IsObjectWhere b circuit i (items_of i earlier) (item_of i r) h.bytes) (same_choice picked (is_chosen rows i (items_of i earlier) (item_of i r)) e) h.formed) }

-- ---- a row that was received

pub no_row : (o : Option Row) (r : Row) → o ≡ None → o ≡ Some r → ⊥
no_row None r e f = cc
no_row (Some x) r e f = cc

pub same_interface : (o : Option Interface) (i j : Interface) → o ≡ Some i → o ≡ Some j → i ≡ j
same_interface o i j e f = inner i j (sym e ∙ f)
  where
    inner : (a b : Interface) → Some a ≡ Some b → a ≡ b
    inner a b h = cc

-- the observer has walked the last row of a text, and keeps it
pub last_kept : {A C : Type 0} (m : Machine C A) (live : Live A C) (o : Observing A C) (i : Interface) (before : List Line) (l : Line) (r : Row) (text : List ℕ) → KeepsRowsOf m text live → ended_lines text ≡ before ++ l ∷ [] → head_of before ≡ Some i → row_written before l ≡ Some r → live.observer ≡ Some o
    → HasKept m i (items_of i (rows_in before) ++ item_of i r ∷ []) o
last_kept m live o i before l r text s lines head row is =
    let w = observing_of m.interface_of m.number_of m.represents live text o s.0 is in
    let rows : early_rows text ≡ rows_in before ++ r ∷ [] = rows-sound text s.0.reads.sound ∙ ap rows_in lines ∙ rows_written before l ∙ ap (λ q. rows_in before ++ option_to_list q) row in
    let same : w.0 ≡ i = same_interface (head_of before) w.0 i (sym (headed_row before l r row) ∙ ap head_of (sym lines) ∙ sym s.0.reads.interface ∙ w.1.header) head in
    let walked : HasWalked m w.0 (items_of w.0 (rows_in before) ++ item_of w.0 r ∷ []) o = subst (λ rs. HasWalked m w.0 rs o) (items_written w.0 (early_rows text) (rows_in before) r rows) w.1.observes in
    (subst (λ j. HasWalked m j (items_of j (rows_in before) ++ item_of j r ∷ []) o) same walked, keeps_rows m.interface_of m.number_of m.represents live text o s.0 s.1 is)

pub not_seen : {A C : Type 0} (m : Machine C A) (live : Live A C) (before : List Line) (l : Line) (r : Row) (text : List ℕ) → KeepsRowsOf m text live → ended_lines text ≡ before ++ l ∷ [] → row_written before l ≡ Some r → live.observer ≡ None → ⊥
not_seen m live before l r text s lines row is =
    let none = nothing_seen m.interface_of m.number_of m.represents live text s.0 is in
    no_row (row_written before l) r (no_rows_written (rows_in before) (row_written before l) (sym (rows_written before l) ∙ ap rows_in (sym lines) ∙ sym (rows-sound text s.0.reads.sound) ∙ none)) row
