-- The circuits of a capture of XOT, their logical channels, and its rows.
use Rattle.std.specs.Prelude.{ℕ, ◌+◌, ◌-◌, ◌^◌, ◌==◌, ◌&&◌, nat_lt, min, Bool, true, false, List, [], ◌∷◌, ◌++◌, length, map, filter, Option, None, Some, is_none, if◌then◌else◌}
use Rattle.std.specs.BTreeMap.{insert_entry, is_at}
use Rattle.std.specs.List.{filter_map}
use Rattle.std.specs.Map.{lookup, set_value}
use Rattle.std.specs.Option.{option_or, unwrap_or}
use Rattle.std.specs.Ordering.{nat_cmp}
use Rattle.capture_files.specs.declared.entry.Dropped.{Dropped}
use Rattle.capture_model.specs.Frames.{Frame}
use Rattle.capture_rows.specs.Choosing.{is_on_by}
use Rattle.lapb_link.specs.declared.frames.Place.{Place}
use Rattle.line_model.specs.declared.interface.Interface.{Interface}
use Rattle.line_model.specs.declared.state.Side.{Side}
use Rattle.line_model.specs.declared.state.Side.TheVariants.{T, N}
use Rattle.tcp_streams.specs.declared.ends.Endpoint.{Endpoint}
use Rattle.tcp_streams.specs.declared.ends.Ends.{Ends}
use Rattle.xot_circuits.specs.Calls.{is_clear}
use Rattle.xot_circuits.specs.Circuits.{purpose}
use Rattle.xot_circuits.specs.Items.{Item}
use Rattle.xot_circuits.specs.Items as item
use Rattle.xot_circuits.specs.Plans.{new_channels, plan_of}
use Rattle.xot_circuits.specs.declared.channels.Given as channels
use Rattle.xot_circuits.specs.declared.channels.Purpose.{Purpose}
use Rattle.xot_circuits.specs.declared.channels.Purpose.TheVariants.{Permanent, Calls}
use Rattle.xot_circuits.specs.declared.channels.Wanted.{Wanted}
use Rattle.xot_circuits.specs.declared.item.EndedCircuit.{EndedCircuit}
use Rattle.capture_report.specs.CircuitRows.{CircuitContent, CircuitRow, Missing, Sent, circuit_row_of, rows_of_item}
use Rattle.capture_report.specs.Contents.{Row, gap_of_all}
use Rattle.capture_report.specs.Records.{Record}
use Rattle.capture_report.specs.Segments.{XotReader, after_frame, finish_items, frame_items, new_reader}
use Rattle.capture_report.specs.declared.circuit_row.CircuitRule.{CircuitRule}
use Rattle.capture_report.specs.declared.circuits.CircuitEnds.{CircuitEnds}
use Rattle.capture_report.specs.declared.circuits.SeenCircuit.{SeenCircuit}
use Rattle.capture_report.specs.declared.options.CaptureOptions.{CaptureOptions}
use Rattle.capture_report.specs.declared.options.GivenHeader.{GivenHeader}

-- what circuits had before the recording is a gap, where options don't say how it begins
abbrev pub rule_of : CaptureOptions → CircuitRule
rule_of o = record { has_beginnings = is_none o.header.join }

-- ---- what a capture has, in its order: gaps of all channels, and items

pub data Step : Type 0 where
  All : Place → Step
  Of : Item → Step

-- the gap of frames that were dropped. Where their count is not known there is none, since the numbers of TCP show what is missing
abbrev pub dropped_steps : Option Dropped → XotReader → List Step
dropped_steps None x = []
dropped_steps (Some d) x = if nat_lt 0 d.count && is_on_by x.choices.interface d.interface then All (record { frame = d.number; time = d.time }) ∷ [] else []

abbrev pub frame_steps : Option Frame → XotReader → List Step
frame_steps None x = []
frame_steps (Some f) x = map (λ i. Of i) (frame_items f x)

abbrev pub reader_after : Option Frame → XotReader → XotReader
reader_after None x = x
reader_after (Some f) x = after_frame f x

abbrev pub steps_from : XotReader → List Record → List Step
steps_from x [] = map (λ i. Of i) (finish_items x)
steps_from x (r ∷ rs) = dropped_steps r.dropped x ++ (frame_steps r.frame x ++ steps_from (reader_after r.frame x) rs)

abbrev pub steps_of : CaptureOptions → List Record → List Step
steps_of o records = steps_from (new_reader o) records

-- ---- its rows, where circuits have logical channels

abbrev pub step_rows : CircuitRule → (channel : ℕ → Option ℕ) → Step → List Row
step_rows rule channel (All p) = gap_of_all p ∷ []
step_rows rule channel (Of i) = rows_of_item channel (circuit_row_of rule i)

abbrev pub rows_of_steps : CircuitRule → (channel : ℕ → Option ℕ) → List Step → List Row
rows_of_steps rule channel [] = []
rows_of_steps rule channel (s ∷ ss) = step_rows rule channel s ++ rows_of_steps rule channel ss

-- ---- its circuits with a packet, in the order of their first ones, and how many rows there are

-- the circuits with a packet by their connections, and these in the order of their first packets
pub record Counted : Type 0 where
  pub rows : ℕ
  pub order : List ℕ
  pub all : List (ℕ × SeenCircuit)

abbrev pub none_counted : Counted
none_counted = record { rows = 0; order = []; all = [] }

abbrev pub circuit_at : (connection : ℕ) → Counted → Option SeenCircuit
circuit_at n c = lookup (is_at (nat_cmp n)) c.all

-- the number after another one; none is above 2 ^ 64 - 1
abbrev pub next_number : ℕ → ℕ
next_number n = min (n + 1) (2 ^ 64 - 1)

abbrev pub gap_counted : Counted → Counted
gap_counted c = record c { rows = next_number c.rows }

-- until its connection ends a circuit is one of calls of the DTE, its channel is not in p1 again, and its ends and what of it is missing are
-- unknown
abbrev pub begun_wanted : (row : ℕ) → Wanted
begun_wanted n = record { purpose = Calls T; first = n; last = n; is_clear = false }

abbrev pub no_end : Endpoint
no_end = record { is_version_6 = false; address = 0; port = 0 }

abbrev pub begun : (connection row : ℕ) → SeenCircuit
begun n row = record { connection = n; wanted = begun_wanted row; ends = record { dte = no_end; dce = no_end }; alone = None }

-- the last row is a packet of a circuit, which may be its first one
abbrev pub packet_by : Option SeenCircuit → (connection row : ℕ) → Counted → Counted
packet_by None n row c = record { rows = row; order = c.order ++ n ∷ []; all = insert_entry nat_cmp c.all n (begun n row) }
packet_by (Some x) n row c = record { rows = row; order = c.order; all = set_value (is_at (nat_cmp n)) c.all (record x { wanted = record x.wanted { last = row } }) }

abbrev pub packet_counted : (connection : ℕ) → Counted → Counted
packet_counted n c = packet_by (circuit_at n c) n (next_number c.rows) c

abbrev pub content_counted : CircuitContent → (connection : ℕ) → Counted → Counted
content_counted Missing n c = gap_counted c
content_counted (Sent s xs) n c = packet_counted n c

abbrev pub row_counted : Option CircuitRow → Counted → Counted
row_counted None c = c
row_counted (Some r) c = content_counted r.content r.connection c

-- the ends of a connection by their sides
abbrev pub ends_by : (opener : Side) → Ends → CircuitEnds
ends_by T e = record { dte = e.first; dce = e.second }
ends_by N e = record { dte = e.second; dce = e.first }

-- the end of a connection shows for what its circuit was, between which ends, and whether one side alone was recorded
abbrev pub ended : EndedCircuit → SeenCircuit → SeenCircuit
ended e x = record x { wanted = record x.wanted { purpose = purpose e.circuit; is_clear = is_clear e.circuit.call }; ends = ends_by e.opener e.ends; alone = e.alone }

abbrev pub end_by : Option SeenCircuit → EndedCircuit → Counted → Counted
end_by None e c = c
end_by (Some x) e c = record c { all = set_value (is_at (nat_cmp e.connection)) c.all (ended e x) }

abbrev pub circuit_ended : EndedCircuit → Counted → Counted
circuit_ended e c = end_by (circuit_at e.connection c) e c

abbrev pub end_counted : Item → Counted → Counted
end_counted (item.Ended e) c = circuit_ended e c
end_counted i c = c

abbrev pub step_counted : CircuitRule → Step → Counted → Counted
step_counted rule (All p) c = gap_counted c
step_counted rule (Of i) c = end_counted i (row_counted (circuit_row_of rule i) c)

abbrev pub steps_counted : CircuitRule → List Step → Counted → Counted
steps_counted rule [] c = c
steps_counted rule (s ∷ ss) c = steps_counted rule ss (step_counted rule s c)

abbrev pub circuits_in : Counted → List SeenCircuit
circuits_in c = filter_map (λ n. circuit_at n c) c.order

abbrev pub circuits_of : CaptureOptions → List Record → List SeenCircuit
circuits_of o records = circuits_in (steps_counted (rule_of o) (steps_of o records) none_counted)

abbrev pub has_circuits : List SeenCircuit → Bool
has_circuits [] = false
has_circuits (x ∷ xs) = true

-- ---- the numbers of the header that they show

abbrev pub is_permanent : Purpose → Bool
is_permanent Permanent = true
is_permanent (Calls s) = false

abbrev pub permanent_count : List SeenCircuit → ℕ
permanent_count xs = length (filter (λ x. is_permanent x.wanted.purpose) xs)

-- the last channel that is needed where each circuit has one of its own: the permanent ones, as many as are given or seen, and then one for
-- each of the others
abbrev pub last_used : GivenHeader → List SeenCircuit → ℕ
last_used g xs = min (unwrap_or g.pvc (permanent_count xs) + (length xs - permanent_count xs)) 4095

-- the numbers that are given, with those that circuits show: the permanent channels, and that the recording begins with nothing open, since
-- what a circuit had before is a gap of it
abbrev pub given_with : GivenHeader → List SeenCircuit → GivenHeader
given_with g xs = record g { pvc = Some (unwrap_or g.pvc (min (permanent_count xs) 4095)); join = Some (unwrap_or g.join false) }

-- ---- their logical channels under an interface, as xot_circuits plans them

abbrev pub wanted_of : List SeenCircuit → List Wanted
wanted_of xs = map (λ x. x.wanted) xs

abbrev pub channel_if : Option channels.Given → Bool → Option ℕ
channel_if None b = None
channel_if (Some g) b = if b then Some g.channel else None

-- the channel of the circuit of a connection; each connection has one circuit
abbrev pub channel_by : List SeenCircuit → List (Option channels.Given) → (connection : ℕ) → Option ℕ
channel_by [] gs n = None
channel_by (x ∷ xs) [] n = None
channel_by (x ∷ xs) (g ∷ gs) n = option_or (channel_by xs gs n) (channel_if g (x.connection == n))

abbrev pub channel_in : Interface → List SeenCircuit → (connection : ℕ) → Option ℕ
channel_in i cs n = channel_by cs (plan_of (new_channels i) (wanted_of cs)) n
