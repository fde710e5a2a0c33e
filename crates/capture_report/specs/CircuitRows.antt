-- The rows of circuits of XOT.
use Rattle.std.specs.Prelude.{ℕ, ◌+◌, ◌*◌, ◌/◌, ◌%◌, ◌^◌, ◌&&◌, ◌||◌, nat_le, nat_lt, not, Bool, true, List, [], ◌∷◌, ◌++◌, length, Option, None, Some, if◌then◌else◌}
use Rattle.std.specs.Int.RustNames.{unsigned_abs}
use Rattle.std.specs.List.{list_all}
use Rattle.capture_model.specs.declared.time.Nanos.{Nanos}
use Rattle.lapb_link.specs.declared.frames.Place.{Place}
use Rattle.line_model.specs.declared.state.Side.{Side}
use Rattle.tcp_streams.specs.declared.piece.Recorded.{Recorded}
use Rattle.xot_circuits.specs.Items.{Item}
use Rattle.xot_circuits.specs.Items as item
use Rattle.xot_circuits.specs.declared.item.CircuitGap.{CircuitGap}
use Rattle.capture_report.specs.Contents.{Content, Gap, Packet, Row}
use Rattle.capture_report.specs.Texts.{Page, with_rows}
use Rattle.capture_report.specs.declared.circuit_row.CircuitRule.{CircuitRule}
use Rattle.capture_report.specs.declared.circuit_row.CircuitContent as declared_content
use Rattle.capture_report.specs.declared.circuit_row.CircuitRow as declared

-- a packet of a side, or a gap
pub data CircuitContent : Type 0 where
  Sent : Side → List ℕ → CircuitContent
  Missing : CircuitContent

-- a row of a circuit, without its logical channel
pub record CircuitRow : Type 0 where
  pub connection : ℕ
  pub place : Place
  pub content : CircuitContent

abbrev pub circuit_content_view : declared_content.CircuitContent → CircuitContent
circuit_content_view (declared_content.TheVariants.Packet s p) = Sent s p.now
circuit_content_view declared_content.TheVariants.Gap = Missing

abbrev pub circuit_row_view : declared.CircuitRow → CircuitRow
circuit_row_view r = record { connection = r.connection; place = r.place; content = circuit_content_view r.content }

abbrev pub place_of : Recorded → Place
place_of at = record { frame = at.frame; time = at.time }

abbrev pub row_of_gap : CircuitGap → CircuitRow
row_of_gap g = record { connection = g.connection; place = place_of g.recorded; content = Missing }

-- no row has room for a packet of more than 4,200 octets: its row is a gap
abbrev pub sent_or_missing : Side → List ℕ → CircuitContent
sent_or_missing side xs = if nat_le (length xs) 4200 then Sent side xs else Missing

abbrev pub row_of_packet : item.Sent → CircuitRow
row_of_packet s = record { connection = s.origin.connection; place = place_of s.origin.recorded; content = sent_or_missing s.side s.octets }

-- the row of an item. What circuits had before the recording began is no gap where options say how it begins
abbrev pub circuit_row_of : CircuitRule → Item → Option CircuitRow
circuit_row_of rule (item.Packet s) = Some (row_of_packet s)
circuit_row_of rule (item.Gap g) = if rule.has_beginnings || not g.is_beginning then Some (row_of_gap g) else None
circuit_row_of rule (item.LeftOut s) = None
circuit_row_of rule (item.Ended e) = None

-- a packet with another logical channel; one of fewer than two octets has none
abbrev pub with_channel : ℕ → List ℕ → List ℕ
with_channel c (x ∷ y ∷ xs) = (x / 16 * 16 + c / 256) ∷ (c % 256) ∷ xs
with_channel c xs = xs

abbrev pub content_on : ℕ → CircuitContent → Content
content_on c (Sent s xs) = Packet s (with_channel c xs)
content_on c Missing = Gap (Some c)

-- the row on a logical channel of the trace
abbrev pub on_channel : ℕ → CircuitRow → Row
on_channel c r = record { place = r.place; circuit = Some r.connection; content = content_on c r.content }

-- the rows of items whose circuits have logical channels
abbrev pub row_on : Option ℕ → CircuitRow → List Row
row_on None r = []
row_on (Some c) r = on_channel c r ∷ []

abbrev pub rows_of_item : (channel : ℕ → Option ℕ) → Option CircuitRow → List Row
rows_of_item channel None = []
rows_of_item channel (Some r) = row_on (channel r.connection) r

abbrev pub item_rows : CircuitRule → (channel : ℕ → Option ℕ) → List Item → List Row
item_rows rule channel [] = []
item_rows rule channel (x ∷ xs) = rows_of_item channel (circuit_row_of rule x) ++ item_rows rule channel xs

-- what each row shows by its types: octets are octets, and its place and its circuit's number are in their ranges
abbrev pub is_typed_time : Option Nanos → Bool
is_typed_time None = true
is_typed_time (Some t) = nat_lt (unsigned_abs t.count) (2 ^ 128)

abbrev pub is_typed_place : Place → Bool
is_typed_place p = nat_lt p.frame (2 ^ 64) && is_typed_time p.time

abbrev pub is_typed_content : CircuitContent → Bool
is_typed_content (Sent s xs) = list_all (λ x. nat_lt x 256) xs
is_typed_content Missing = true

abbrev pub is_typed_row : Option CircuitRow → Bool
is_typed_row None = true
is_typed_row (Some r) = is_typed_place r.place && (nat_lt r.connection (2 ^ 64) && is_typed_content r.content)

-- a page of the rows of circuits, under their rule and their logical channels
pub record PrintedRows : Type 0 where
  pub rule : CircuitRule
  pub channels : List (ℕ × ℕ)
  pub page : Page

abbrev pub printed : List Row → PrintedRows → PrintedRows
printed rows p = record p { page = with_rows p.page rows }
