-- What a reader reads: the rows of what comes next, and those of the rest behind them.
use Rattle.std.proofs.Common.{◌≡◌, ◌∙◌, sym, ap, ℕ, List, [], ◌∷◌, ◌++◌, Option, Result, Ok, Err, OnOk, append_assoc, map, refl, subst}
use Rattle.capture_rows.specs.declared.line.Line.{Line as LineState}
use Rattle.xot_circuits.specs.Items.{Item}
use Rattle.capture_report.specs.CircuitChannels.{channel_of}
use Rattle.capture_report.specs.CircuitRows.{PrintedRows, circuit_row_of, item_rows, printed, rows_of_item}
use Rattle.capture_report.specs.Circuits.{Of, Step, dropped_steps, frame_steps, reader_after, rows_of_steps, step_rows, steps_from}
use Rattle.capture_report.specs.Records.{Record}
use Rattle.capture_report.specs.Rows.{after_record, record_rows, rows_from}
use Rattle.capture_report.specs.Segments.{XotReader, finish_items, reader_of}
use Rattle.capture_report.specs.Texts.{Page}
use Rattle.capture_report.specs.Traces.{circuit_rows_next, rows_next, rows_of, rows_on}
use Rattle.capture_report.specs.declared.circuit_row.CircuitRule.{CircuitRule}
use Rattle.capture_report.specs.declared.reader.CircuitReader.{CircuitReader}
use Rattle.capture_report.specs.declared.reader.LineReader.{LineReader}
use Rattle.capture_report.specs.declared.reader.Order.{Order}
use Rattle.capture_report.specs.declared.reader.Reader.{Reader}
use Rattle.capture_report.specs.declared.reader.Reader.TheVariants.{Circuits, Line}
use Rattle.capture_report.proofs.TextLemmas.{with_rows_append}

steps_append : (rule : CircuitRule) (channel : ℕ → Option ℕ) (xs ys : List Step) → rows_of_steps rule channel (xs ++ ys) ≡ rows_of_steps rule channel xs ++ rows_of_steps rule channel ys
steps_append rule channel [] ys = refl
steps_append rule channel (x ∷ xs) ys = ap (λ rs. step_rows rule channel x ++ rs) (steps_append rule channel xs ys) ∙ sym (append_assoc (step_rows rule channel x) (rows_of_steps rule channel xs) (rows_of_steps rule channel ys))

steps_of_items : (rule : CircuitRule) (channel : ℕ → Option ℕ) (xs : List Item) → rows_of_steps rule channel (map (λ i. Of i) xs) ≡ item_rows rule channel xs
steps_of_items rule channel [] = refl
steps_of_items rule channel (x ∷ xs) = ap (λ rs. rows_of_item channel (circuit_row_of rule x) ++ rs) (steps_of_items rule channel xs)

-- the rows of items are those of a batch that has them alone
pub printed_items : (old new : PrintedRows) (none batch items : List Item) → none ≡ [] → batch ≡ none ++ items → new ≡ printed (item_rows old.rule (channel_of old.channels) batch) old → new ≡ printed (rows_on old (map (λ i. Of i) items)) old
printed_items old new none batch items empty taken is =
    is
    ∙ ap (λ xs. printed (item_rows old.rule (channel_of old.channels) xs) old) (taken ∙ ap (λ xs. xs ++ items) empty)
    ∙ ap (λ rs. printed rs old) (sym (steps_of_items old.rule (channel_of old.channels) items))

-- a gap of dropped frames, and what a frame completes behind it
pub printed_next : (old middle new : PrintedRows) (first second : List Step) → middle ≡ printed (rows_on old first) old → new ≡ printed (rows_on middle second) middle → new ≡ printed (rows_on old (first ++ second)) old
printed_next old middle new first second behind is =
    is
    ∙ ap (λ (p : PrintedRows). printed (rows_on p second) p) behind
    ∙ ap (λ (p : Page). let q : PrintedRows = record old { page = p } in q) (sym (with_rows_append old.page (rows_on old first) (rows_on old second)))
    ∙ ap (λ rs. printed rs old) (sym (steps_append old.rule (channel_of old.channels) first second))

-- the rows of what comes next, and those of the rest
pub line_goes_on : {T E : Type 0} (result : Result T E) (reader : Reader) (old new : LineReader) (next : Record) → reader ≡ Line old → OnOk result (new.line ≡ after_record next old.line) → OnOk result (new.order ≡ old.order)
    → OnOk result ((rest : List Record) → rows_of reader (next ∷ rest) ≡ rows_next next reader ++ rows_of (Line new) rest)
line_goes_on (Err e) reader old new next is line order = tt
line_goes_on (Ok x) reader old new next is line order = λ rest.
    let rows = record_rows old.order next old.line in
    subst (λ (r : Reader). rows_of r (next ∷ rest) ≡ rows_next next r ++ rows_of (Line new) rest) (sym is)
    (ap (λ (l : LineState). rows ++ rows_from old.order l rest) (sym line)
    ∙ ap (λ (o : Order). rows ++ rows_from o new.line rest) (sym order))

circuits_next : (old new : CircuitReader) (next : Record) (rest : List Record) → reader_of new.frames ≡ reader_after next.frame (reader_of old.frames) → new.page ≡ printed (circuit_rows_next next old) old.page
    → rows_of (Circuits old) (next ∷ rest) ≡ rows_next next (Circuits old) ++ rows_of (Circuits new) rest
circuits_next old new next rest frames page =
    let x = reader_of old.frames in
    let first = dropped_steps next.dropped x in
    let second = frame_steps next.frame x in
    let behind = steps_from (reader_after next.frame x) rest in
    ap (rows_on old.page) (sym (append_assoc first second behind))
    ∙ steps_append old.page.rule (channel_of old.page.channels) (first ++ second) behind
    ∙ ap (λ (y : XotReader). rows_on old.page (first ++ second) ++ rows_on old.page (steps_from y rest)) (sym frames)
    ∙ ap (λ (p : PrintedRows). rows_on old.page (first ++ second) ++ rows_on p (steps_from (reader_of new.frames) rest)) (sym page)

pub circuits_go_on : {T E : Type 0} (result : Result T E) (reader : Reader) (old new : CircuitReader) (next : Record) → reader ≡ Circuits old → OnOk result (reader_of new.frames ≡ reader_after next.frame (reader_of old.frames))
    → OnOk result (new.page ≡ printed (circuit_rows_next next old) old.page) → OnOk result ((rest : List Record) → rows_of reader (next ∷ rest) ≡ rows_next next reader ++ rows_of (Circuits new) rest)
circuits_go_on (Err e) reader old new next is frames page = tt
circuits_go_on (Ok x) reader old new next is frames page = λ rest. subst (λ (r : Reader). rows_of r (next ∷ rest) ≡ rows_next next r ++ rows_of (Circuits new) rest) (sym is) (circuits_next old new next rest frames page)

-- nothing comes at the end
pub circuits_end : (r : CircuitReader) → finish_items (reader_of r.frames) ≡ [] → rows_of (Circuits r) [] ≡ []
circuits_end r none = ap (λ xs. rows_on r.page (map (λ i. Of i) xs)) none
