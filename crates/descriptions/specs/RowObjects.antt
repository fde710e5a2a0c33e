-- The object of a row: its first members say what the definitions' walk does; others come after them.
use Rattle.std.specs.Prelude.{◌≡◌, ℕ, Bool, true, false, List, [], ◌∷◌, ◌++◌, Option, None, Some, IfSome, OnOk, Result, option_to_list, codes, decimal, flat_map, length}
use Rattle.json_lines.specs.Json.{json_text}
use Rattle.line_model.specs.basics.Records.{Item, Report, Row}
use Rattle.line_model.specs.channels.Gaps.{GapChannel}
use Rattle.line_model.specs.channels.ChannelStep.{setup_name, transfer_name}
use Rattle.line_model.specs.channels.RestartMachine.{restart_name}
use Rattle.line_model.specs.channels.GapRestart.{GapInterfaceState}
use Rattle.line_model.specs.declared.event.Event.{Event}
use Rattle.line_model.specs.declared.finding.Finding.{Finding}
use Rattle.line_model.specs.declared.interface.Interface.{Interface}
use Rattle.line_model.specs.declared.packet.Packet.{Packet}
use Rattle.line_model.specs.declared.packet.Packet.TheVariants as packet
use Rattle.line_model.specs.declared.state.Side.{Side}
use Rattle.line_model.specs.declared.state.ChannelState.{ChannelState}
use Rattle.line_model.specs.declared.state.ChannelState.TheVariants.{Setup, Transfer, Unknown}
use Rattle.line_model.specs.observer.Calls.{all_lengths, segments_of}
use Rattle.line_model.specs.observer.Machine.{Observer, routed}
use Rattle.line_model.specs.observer.Observer.{x25}
use Rattle.line_model.specs.observer.Report.{code_word, report_of, side_word, state_word, text_of}
use Rattle.line_model.specs.packets.Says.{gap_of, item_of, items_of}
use Rattle.line_model.specs.text.Text.{Line, ended_lines, head_of, rows_in}
use Rattle.channel_run.specs.declared.run.Channel.{Ghosts as Machine}
use Rattle.channel_run.specs.Run.{row_events}
use Rattle.restart_epochs.specs.Cutting.{observer}
use Rattle.channel_run.specs.StatusWord.{view_in}
use Rattle.channel_run.specs.Views.{is_adrift}
use Rattle.live_report.specs.Lives.{KeepsRowsOf}
use Rattle.live_report.specs.declared.judged_row.Judge.{Judge}
use Rattle.live_report.specs.declared.judged_row.Judge.TheVariants as judge
use Rattle.live_report.specs.declared.live.Live.{Live}
use Rattle.annotated_trace.specs.Annotation.{IsOneLine}
use Rattle.annotated_trace.specs.Printed.{HasAppended}
use Rattle.annotated_trace.specs.Rows.{is_chosen, row_written}
use Rattle.annotated_trace.specs.declared.rows.Rows.{Rows}
use Rattle.descriptions.specs.Circuits.{Circuit, circuit_of}
use Rattle.descriptions.specs.Closing.{AreClosingObjects}
use Rattle.descriptions.specs.Follows.{KeepsOrigins, follows_at}
use Rattle.descriptions.specs.Members.{IsFurther, IsFurtherWith, IsOfRow}
use Rattle.descriptions.specs.RowCalls.{call_of}
use Rattle.descriptions.specs.declared.origins.Origins.{Origins}
use Rattle.descriptions.specs.declared.times.Recorded.{Recorded}

-- all words, one after the other
abbrev pub joined : List (List ℕ) → List ℕ
joined words = flat_map (λ word. word) words

-- the state of a logical channel, of which nothing may be known where the trace began in the middle
abbrev pub channel_word : ChannelState → List ℕ
channel_word (Setup s) = state_word (setup_name s)
channel_word (Transfer s) = state_word (transfer_name s)
channel_word Unknown = codes "unknown"

-- the same of one that a gap may have left adrift
abbrev pub known_word : (adrift : Bool) → ChannelState → List ℕ
known_word true s = codes "adrift"
known_word false s = channel_word s

-- the state before a row of the machine that judged it
abbrev pub word_before : Judge → List ℕ
word_before (judge.Restart before after) = state_word (restart_name before)
word_before (judge.Channel k before after accepted) = known_word (view_in before).adrift (view_in before).state

-- the state after it
abbrev pub word_after : Judge → List ℕ
word_after (judge.Restart before after) = state_word (restart_name after)
word_after (judge.Channel k before after accepted) = known_word (view_in after).adrift (view_in after).state

-- the state of the logical channel that receives a row; of the restart machine where none does
abbrev pub state_at : (taker : Option ℕ) → Observer GapInterfaceState GapChannel → List ℕ
state_at None o = state_word (restart_name o.level.level.state)
state_at (Some k) o = known_word (is_adrift (o.states k).certainty) (o.states k).channel.state

-- the events of a row on the logical channel that receives it
abbrev pub events_at : Interface → (taker : Option ℕ) → Observer GapInterfaceState GapChannel → Item → List Event
events_at i None o r = []
events_at i (Some k) o r = row_events i o.epoch k (o.states k) r

-- the logical channel that a packet names
abbrev pub named_channel : Packet → Option ℕ
named_channel (packet.Channel k kind) = Some k
named_channel _ = None

-- a number of JSON, or null
abbrev pub number_word : Option ℕ → List ℕ
number_word None = codes "null"
number_word (Some n) = decimal n

-- what is counted of data packets with these lengths: that of the first one, which is the only one of a row
abbrev pub counted_word : List ℕ → List ℕ
counted_word [] = codes "null"
counted_word (n ∷ ns) = joined (codes "{\"octets\":" ∷ decimal n ∷ codes ",\"segments\":" ∷ decimal (segments_of (n ∷ [])) ∷ codes "}" ∷ [])

-- true or false
abbrev pub flag_word : Bool → List ℕ
flag_word true = codes "true"
flag_word false = codes "false"

-- whether the DCE owes its indication on the logical channel that receives a row
abbrev pub owed_at : (taker : Option ℕ) → Observer GapInterfaceState GapChannel → Bool
owed_at None o = false
owed_at (Some k) o = (o.states k).channel.owed

-- whether it does after a row, by the machine that judged it
abbrev pub owed_after : Judge → Bool
owed_after (judge.Restart before after) = false
owed_after (judge.Channel k before after accepted) = (view_in after).owed

-- the object of a finding, up to the number of the one that it may follow from, or null
abbrev pub finding_word : Option Finding → (follows : Option ℕ) → List ℕ
finding_word None follows = codes "null"
finding_word (Some f) follows = joined (codes "{\"code\":\"" ∷ code_word f.code ∷ codes "\",\"follows\":" ∷ number_word follows ∷ [])

-- the members between what was counted and the finding
abbrev pub place_members : (epoch : ℕ) → (owed : Bool) → List ℕ
place_members epoch owed = joined (codes ",\"epoch\":" ∷ decimal epoch ∷ codes ",\"owed\":" ∷ flag_word owed ∷ codes ",\"finding\":" ∷ [])

-- the members of a row up to its states
abbrev pub state_members : (number : ℕ) → Side → (channel : Option ℕ) → (before after : List ℕ) → List ℕ
state_members number side channel before after =
    joined (codes "{\"line\":\"row\",\"packet\":" ∷ decimal number ∷ codes ",\"side\":\"" ∷ side_word side ∷ codes "\",\"channel\":" ∷ number_word channel
    ∷ codes ",\"before\":\"" ∷ before ∷ codes "\",\"after\":\"" ∷ after ∷ codes "\",\"counted\":" ∷ [])

-- the beginning of the object of a packet after others: its number, its side and logical channel, the state before and after it, what it
-- counted, its epoch, whether the DCE owes its indication after it, the code of what it found, and the finding that this may follow from
abbrev pub packet_head : Interface → (earlier : List Item) → Item → Option Finding → List ℕ
packet_head i earlier r found =
    let taker : Option ℕ = routed (x25 i) (observer i earlier).level r in
    state_members r.number r.side (named_channel r.packet) (state_at taker (observer i earlier)) (state_at taker (observer i (earlier ++ r ∷ [])))
    ++ (counted_word (all_lengths (events_at i taker (observer i earlier) r))
    ++ (place_members (observer i earlier).epoch (owed_at taker (observer i (earlier ++ r ∷ []))) ++ finding_word found (follows_at i earlier r found)))

-- that of a gap: its number, and its logical channel, null where packets of any may be missing
abbrev pub gap_head : (number : ℕ) → (channel : Option ℕ) → List ℕ
gap_head number channel = joined (codes "{\"line\":\"gap\",\"packet\":" ∷ decimal number ∷ codes ",\"channel\":" ∷ number_word channel ∷ [])

-- that of a row, which is a gap or a packet
abbrev pub head_by : (gap : Option (Option ℕ)) → Interface → (earlier : List Item) → Item → Option Finding → List ℕ
head_by None i earlier r found = packet_head i earlier r found
head_by (Some channel) i earlier r found = gap_head r.number channel

abbrev pub row_head : Interface → (earlier : List Item) → Item → Option Finding → List ℕ
row_head i earlier r found = head_by (gap_of r.packet) i earlier r found

-- what comes after that beginning: where the row found something, the rest of the object of the finding; then the row's call and further
-- members, with that of its circuit; of a gap further members alone, with that of its circuit
abbrev pub IsRest : (gap : Option (Option ℕ)) → Option Finding → (circuit : Option ℕ) → (call : ℕ) → List ℕ → Type 0
IsRest None (Some f) circuit call rest = (own : List ℕ) × (further : List ℕ) × (rest ≡ own ++ (codes "}" ++ further)) × IsFurther own × IsOfRow circuit call further
IsRest None None circuit call rest = IsOfRow circuit call rest
IsRest (Some channel) found circuit call rest = IsFurtherWith circuit rest

-- the object of a row of a circuit after others on a line of its own: that beginning, with what the row found, its call, its circuit, where one is
-- known, and members with other names
pub record IsRowObject (circuit : Option ℕ) (i : Interface) (earlier : List Item) (r : Item) (bytes : List ℕ) : Type 0 where
  pub found : Option Finding
  pub came : (report_of i (earlier ++ r ∷ [])).findings ≡ (report_of i earlier).findings ++ option_to_list found
  pub rest : List ℕ
  pub one : IsOneLine rest
  pub members : IsRest (gap_of r.packet) found circuit (call_of i earlier r) rest
  pub written : bytes ≡ row_head i earlier r found ++ (rest ++ codes "}\n")

-- the object of a row that is printed, and nothing for another
abbrev pub IsObjectWhere : (picked : Bool) → (circuit : Option ℕ) → Interface → (earlier : List Item) → Item → List ℕ → Type 0
IsObjectWhere true circuit i earlier r bytes = IsRowObject circuit i earlier r bytes
IsObjectWhere false circuit i earlier r bytes = bytes ≡ []

-- of a row of some circuit, or of none
abbrev pub IsObjectOf : Rows → Option Interface → (earlier : List Row) → Row → List ℕ → Type 0
IsObjectOf rows None earlier r bytes = bytes ≡ []
IsObjectOf rows (Some i) earlier r bytes = (circuit : Option ℕ) × IsObjectWhere (is_chosen rows i (items_of i earlier) (item_of i r)) circuit i (items_of i earlier) (item_of i r) bytes

-- the object of a circuit on a line of its own
abbrev pub circuit_object : Circuit → List ℕ
circuit_object c =
    joined (codes "{\"line\":\"circuit\",\"circuit\":" ∷ decimal c.number ∷ codes ",\"channel\":" ∷ number_word c.channel
    ∷ codes ",\"dte\":\"" ∷ c.dte.address ∷ codes "\",\"dte_port\":" ∷ decimal c.dte.port
    ∷ codes ",\"dce\":\"" ∷ c.dce.address ∷ codes "\",\"dce_port\":" ∷ decimal c.dce.port ∷ codes "}\n" ∷ [])

-- of the circuit that a line names, if it names one
abbrev pub circuit_line : Option Circuit → List ℕ
circuit_line None = []
circuit_line (Some c) = circuit_object c

-- of a line without a row whatever circuit it names, of a line with one that of the row
abbrev pub IsObjectIn : Rows → Option Interface → (earlier : List Row) → Option Row → Option Circuit → List ℕ → Type 0
IsObjectIn rows head earlier None named bytes = bytes ≡ circuit_line named
IsObjectIn rows head earlier (Some r) named bytes = IsObjectOf rows head earlier r bytes

-- what a line after others becomes: the object of its row, where it writes one of these rows; that of its circuit, where it is a comment that
-- names one, whichever rows are printed; otherwise nothing
abbrev pub IsLineObject : Rows → (before : List Line) → Line → List ℕ → Type 0
IsLineObject rows before l bytes = IsObjectIn rows (head_of before) (rows_in before) (row_written before l) (circuit_of l) bytes

-- the circuit of a row, by the comment before it
abbrev pub circuit_recorded : Option Recorded → Option ℕ
circuit_recorded None = None
circuit_recorded (Some r) = r.circuit

-- a fact on the last row of a text that was fed, and on the rows before it, where this is its line
abbrev pub OfLastRow : {A C : Type 0} → Machine C A → Live A C → (line : List ℕ) → (Interface → List Item → Item → Type 0) → Type 0
OfLastRow m live line Fact = (i : Interface) (before : List Line) (l : Line) (r : Row) (text : List ℕ) → KeepsRowsOf m text live → ended_lines text ≡ before ++ l ∷ [] → head_of before ≡ Some i → row_written before l ≡ Some r → line ≡ l ++ 10 ∷ [] → Fact i (items_of i (rows_in before)) (item_of i r)

-- the object of that row was appended, if it is printed and memory was not refused, where this is kept of the rows before it
abbrev pub AppendsObject : {A C T E : Type 0} → Machine C A → Live A C → (line : List ℕ) → (picked : Bool) → (circuit : Option ℕ) → Origins A → Result T E → (before after : List ℕ) → Type 0
AppendsObject m live line picked circuit kept result before after = OfLastRow m live line (λ i earlier r. KeepsOrigins i earlier kept → OnOk result (HasAppended (IsObjectWhere picked circuit i earlier r) before after))

-- it is kept of that row too
abbrev pub KeepsLast : {A C T E : Type 0} → Machine C A → Live A C → (line : List ℕ) → Result T E → (before after : Origins A) → Type 0
KeepsLast m live line result before after = OfLastRow m live line (λ i earlier r. KeepsOrigins i earlier before → OnOk result (KeepsOrigins i (earlier ++ r ∷ []) after))

-- a fact on the rows of some lines, under their header
abbrev pub OfRows : List Line → (Interface → List Item → Type 0) → Type 0
OfRows ls Fact = (i : Interface) → IfSome (head_of ls) (λ j. j ≡ i) → Fact i (items_of i (rows_in ls))

-- this is kept of them
abbrev pub KeepsPast : {A : Type 0} → List Line → Origins A → Type 0
KeepsPast ls kept = OfRows ls (λ i rs. KeepsOrigins i rs kept)

-- what comes after the last row: the objects of the report, those of what was not counted, and one for each of its calls, and no other line
pub record IsClosing (report : Report) (bytes : List ℕ) : Type 0 where
  pub rest : List ℕ
  pub objects : AreClosingObjects (length report.calls) rest
  pub written : bytes ≡ json_text (text_of report) ++ rest
