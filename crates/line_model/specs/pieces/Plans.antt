-- The plan of a trace: its pieces, and the result of each (profile).
use Rattle.std.specs.Prelude.{ℕ, Bool, true, false, ◌&&◌, List, [], ◌∷◌, map, filter, sum, option_map, not, length}
use Rattle.std.specs.List.{enumerate_from}
use Rattle.line_model.specs.declared.interface.Interface.{Interface}
use Rattle.line_model.specs.declared.state.Side.TheVariants.{T}
use Rattle.line_model.specs.declared.event.Event.{Event}
use Rattle.line_model.specs.declared.finding.Finding.{Finding}
use Rattle.line_model.specs.declared.totals.Totals.{Totals}
use Rattle.line_model.specs.basics.Records.{Item, Piece, PieceReport}
use Rattle.line_model.specs.declared.packet.Packet.{Packet}
use Rattle.line_model.specs.declared.packet.Packet.TheVariants.{RestartConfirm, Short}
use Rattle.line_model.specs.declared.piece.PieceEnd.{PieceEnd}
use Rattle.line_model.specs.pieces.Pieces.{Placed, placed, piece_start, piece_end, events_of_steps, step_rows}
use Rattle.line_model.specs.pieces.Plan.{plan_of}
use Rattle.line_model.specs.observer.MachineEvents.{walk_events}
use Rattle.line_model.specs.pieces.Merge.{is_level}
use Rattle.line_model.specs.channels.Gaps.{fresh_at}
use Rattle.line_model.specs.channels.GapRestart.{is_gap_of_all}
use Rattle.line_model.specs.observer.Observer.{x25, start, event_of, is_confirmation}
use Rattle.line_model.specs.observer.Calls.{calls_of, all_lengths, segments_of}
use Rattle.line_model.specs.observer.Report.{findings_of}

-- the findings of the restart machine
abbrev pub level_findings : Interface → List Item → List Finding
level_findings i rs = findings_of (map event_of (filter is_level (walk_events (x25 i) (start i) rs)))

-- what is known of the row that ended an epoch
abbrev pub end_at : Item → PieceEnd
end_at r = record { row = r.number; missed = is_confirmation r }

-- whether rows begin with a gap of all channels
abbrev pub begins_with_gap : List Item → Bool
begins_with_gap [] = false
begins_with_gap (r ∷ rs) = is_gap_of_all r

-- rows; of several gaps of all channels with no other row between them only the last one, which leaves the same open
abbrev pub single_gaps : List Item → List Item
single_gaps [] = []
single_gaps (r ∷ rs) = elim (is_gap_of_all r && begins_with_gap rs) [ true ↦ single_gaps rs | false ↦ r ∷ single_gaps rs ]

-- the piece of an epoch and a channel, among the rows of the walk: its own rows, and the gaps of all channels
abbrev pub piece_of : Interface → List (Placed Item) → ℕ × (ℕ × ℕ) → Piece
piece_of i ps p = record {
  id = p.0;
  interface = i;
  epoch = p.1.0;
  start = piece_start p.1.0 ps;
  channel = p.1.1;
  items = single_gaps (step_rows (x25 i) p.1.0 p.1.1 ps);
  end = option_map end_at (piece_end p.1.0 ps);
}

-- the pieces that have rows, by epoch and then by channel; they count from 0
abbrev pub plan : Interface → List Item → List Piece
plan i rs = map (piece_of i (placed (x25 i) (start i) rs)) (enumerate_from 0 (plan_of (x25 i) (start i) rs))

-- a packet that confirms a restart, or one that does not
abbrev pub end_packet : (missed : Bool) → Packet
end_packet true = RestartConfirm
end_packet false = Short

-- a row of which nothing else is known
abbrev pub row_of_end : PieceEnd → Item
row_of_end e = record { number = e.row; side = T; packet = end_packet e.missed; length = 0; octets = [] }

-- the events of the steps over the rows of a piece alone, from its channel as the epoch begins
abbrev pub piece_events : Piece → List Event
piece_events p =
    map event_of
    (events_of_steps (x25 p.interface) p.epoch p.channel (fresh_at p.interface p.start p.epoch p.channel) p.items (option_map row_of_end p.end))

-- the result of the events of a piece
abbrev pub report_on : (id epoch channel : ℕ) → List Event → PieceReport
report_on id epoch channel es = record {
  id = id;
  epoch = epoch;
  channel = channel;
  findings = findings_of es;
  calls = calls_of es;
  octets = sum (all_lengths es);
  segments = segments_of (all_lengths es);
}

-- the result of a piece
abbrev pub result_of : Piece → PieceReport
result_of p = report_on p.id p.epoch p.channel (piece_events p)

-- the events on channels
abbrev pub channel_events_of : Interface → List Item → List Event
channel_events_of i rs = map event_of (filter (λ v. not (is_level v)) (walk_events (x25 i) (start i) rs))

-- the totals of events on channels
abbrev pub totals_on : (posts : ℕ) → List Event → Totals
totals_on posts es = record {
  posts = posts;
  findings = length (findings_of es);
  octets = sum (all_lengths es);
  segments = segments_of (all_lengths es);
}

-- the observer's totals over the channels
abbrev pub channel_totals : Interface → List Item → Totals
channel_totals i rs = totals_on (length (plan i rs)) (channel_events_of i rs)
