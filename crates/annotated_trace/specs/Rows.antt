-- Which rows of a trace are described.
use Rattle.std.specs.Prelude.{ℕ, Bool, true, false, ◌==◌, ◌&&◌, ◌||◌, not, is_none, List, [], ◌∷◌, ◌++◌, Option, None, Some, if◌then◌else◌}
use Rattle.std.specs.List.{enumerate_from, list_any}
use Rattle.line_model.specs.basics.Records.{CallRecord, Item, Row}
use Rattle.line_model.specs.declared.interface.Interface.{Interface}
use Rattle.line_model.specs.declared.packet.Packet.{Packet}
use Rattle.line_model.specs.declared.packet.Packet.TheVariants.{Channel, GapOfAll}
use Rattle.line_model.specs.channels.Gaps.{GapChannel}
use Rattle.line_model.specs.channels.GapRestart.{GapInterfaceState}
use Rattle.line_model.specs.observer.Calls.{calls_of}
use Rattle.line_model.specs.observer.Machine.{Observer, routed, steps_all, walk}
use Rattle.line_model.specs.observer.Observer.{events, start, x25}
use Rattle.line_model.specs.packets.Says.{item_of, items_of}
use Rattle.line_model.specs.text.RowLine.{row_of}
use Rattle.line_model.specs.text.Text.{Line, has_header, head_of, is_comment, rows_in}
use Rattle.annotated_trace.specs.declared.rows.Rows.{Rows}
use Rattle.annotated_trace.specs.declared.rows.Rows.TheVariants.{All, Chosen}

-- whether a call is open on a logical channel in an epoch
abbrev pub is_open_on : (epoch channel : ℕ) → CallRecord → Bool
is_open_on e k c = (c.epoch == e) && ((c.channel == k) && is_none c.ended)

-- whether the call of a number is open there; calls count from 1, as in the report
abbrev pub has_open : (number epoch channel : ℕ) → List CallRecord → Bool
has_open n e k cs = list_any (λ (q : ℕ × CallRecord). (q.0 == n) && is_open_on e k q.1) (enumerate_from 1 cs)

-- whether a call is open in an epoch, on any logical channel
abbrev pub is_open_in : (epoch : ℕ) → CallRecord → Bool
is_open_in e c = (c.epoch == e) && is_none c.ended

-- whether the call of a number is open in an epoch
abbrev pub has_open_in : (number epoch : ℕ) → List CallRecord → Bool
has_open_in n e cs = list_any (λ (q : ℕ × CallRecord). (q.0 == n) && is_open_in e q.1) (enumerate_from 1 cs)

-- whether a row is one of a call's, by the logical channel that received it: the call was open there before the row, or is after it
abbrev pub is_of_call_on : Option ℕ → (number epoch : ℕ) → (before after : List CallRecord) → Bool
is_of_call_on None n e before after = false
is_of_call_on (Some k) n e before after = has_open n e k before || has_open n e k after

-- the same of any row: a gap of all channels is one of each call's that is open
abbrev pub is_of_call_by : (all : Bool) → (taker : Option ℕ) → (number epoch : ℕ) → (before after : List CallRecord) → Bool
is_of_call_by true taker n e before after = has_open_in n e before
is_of_call_by false taker n e before after = is_of_call_on taker n e before after

-- whether a row, after others, is one of the rows of the call of a number in the report
abbrev pub is_of_call : Interface → (before : List Item) → Item → (number : ℕ) → Bool
is_of_call i before r n =
    let o : Observer GapInterfaceState GapChannel = walk (x25 i) (start i) before in
    is_of_call_by (steps_all (x25 i) o.level r) (routed (x25 i) o.level r) n o.epoch (calls_of (events i before)) (calls_of (events i (before ++ r ∷ [])))

-- whether a packet names a logical channel; a gap of all channels represents packets of any
abbrev pub names : (channel : ℕ) → Packet → Bool
names n (Channel k kind) = k == n
names n GapOfAll = true
names n _ = false

-- whether a packet names the logical channel that is asked for, where one is
abbrev pub names_asked : Option ℕ → Packet → Bool
names_asked None packet = true
names_asked (Some n) packet = names n packet

-- the number of the call that is asked for; 0, which no call has, where none is asked for
abbrev pub asked_call : Rows → ℕ
asked_call (Chosen channel (Some n)) = n
asked_call _ = 0

-- whether a row is described: all are, or those of a logical channel and of a call, where they are named
abbrev pub chooses : Rows → Packet → (of_call : Bool) → Bool
chooses All packet of_call = true
chooses (Chosen channel None) packet of_call = names_asked channel packet
chooses (Chosen channel (Some n)) packet of_call = names_asked channel packet && of_call

-- whether a row, after others, is described
abbrev pub is_chosen : Rows → Interface → (before : List Item) → Item → Bool
is_chosen rows i before r = chooses rows r.packet (is_of_call i before r (asked_call rows))

-- the row that a line writes after others, if it writes one
abbrev pub row_written : (before : List Line) → Line → Option Row
row_written before l = if has_header before && not (is_comment l) then row_of l else None

-- whether that row is described
abbrev pub is_chosen_if : Rows → Option Interface → (before : List Row) → Option Row → Bool
is_chosen_if rows (Some i) before (Some r) = is_chosen rows i (items_of i before) (item_of i r)
is_chosen_if rows _ before _ = false

-- whether the line after others writes a row that is described
abbrev pub is_chosen_line : Rows → (before : List Line) → Line → Bool
is_chosen_line rows before l = is_chosen_if rows (head_of before) (rows_in before) (row_written before l)
