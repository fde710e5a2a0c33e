-- What a reading of a capture sees of it as a whole.
use Rattle.std.specs.Prelude.{ℕ, ◌&&◌, ◌||◌, nat_le, Bool, false, List, [], ◌∷◌, Option, None, Some, is_none, is_ok, if◌then◌else◌}
use Rattle.std.specs.Option.{option_and_then, option_or}
use Rattle.capture_files.specs.declared.entry.Dropped.{Dropped}
use Rattle.capture_model.specs.Frames.{Frame}
use Rattle.capture_model.specs.Kinds.{kind_of_link}
use Rattle.capture_model.specs.declared.kind.LinkKind.{LinkKind}
use Rattle.capture_model.specs.declared.kind.LinkKind.TheVariants.{Lapb, CheckedLapb}
use Rattle.capture_rows.specs.Lines.{FrameRead}
use Rattle.capture_rows.specs.declared.line.Line.{Line}
use Rattle.ip_segments.specs.Carriers.{in_frame}
use Rattle.lapb_link.specs.Looks.{form_of}
use Rattle.lapb_link.specs.declared.looks.Form.{Form}
use Rattle.lapb_link.specs.declared.looks.Form.TheVariants.{Plain, Checked}
use Rattle.lapb_link.specs.declared.receiver.Shown.{Shown}
use Rattle.capture_report.specs.Contents.{Row}
use Rattle.capture_report.specs.Headers.{has_packets, nothing_seen, seen_with}
use Rattle.capture_report.specs.LineSides.{frame_recorded, no_sides}
use Rattle.capture_report.specs.Reasons.{given_counted, line_dropped, no_counts}
use Rattle.capture_report.specs.Records.{Record}
use Rattle.capture_report.specs.Rows.{after_record, dropped_rows, record_given, record_shown, rows_given}
use Rattle.capture_report.specs.declared.header.Seen.{Seen}
use Rattle.capture_report.specs.declared.line_sides.LineSides.{LineSides}
use Rattle.capture_report.specs.declared.reader.Order.TheVariants.{Noticed}
use Rattle.capture_report.specs.declared.reasons.Counts.{Counts}
use Rattle.capture_report.specs.declared.survey.Survey.{Survey}

-- what was seen with more rows
abbrev pub rows_seen : List Row → Seen → Seen
rows_seen [] v = v
rows_seen (r ∷ rs) v = rows_seen rs (seen_with r v)

-- ---- unknown link types

abbrev pub kind_in_form : Option Form → Option LinkKind
kind_in_form None = None
kind_in_form (Some Plain) = Some Lapb
kind_in_form (Some Checked) = Some CheckedLapb

-- link types for private use, which LAPB may have
abbrev pub is_private : (link : ℕ) → Bool
is_private link = nat_le 147 link && nat_le link 162

-- the link header that a frame looks like
abbrev pub look_of : Frame → Option LinkKind
look_of f = if is_private f.link then kind_in_form (form_of f.octets) else None

-- the first frame of an unknown link type decides
abbrev pub guess_with : Frame → Option (Option LinkKind) → Option (Option LinkKind)
guess_with f (Some look) = Some look
guess_with f None = if is_none (kind_of_link f.link) then Some (look_of f) else None

-- ---- datagrams

-- whether a frame has a datagram of IP, perhaps in carriers
abbrev pub has_datagram : Option LinkKind → Frame → Bool
has_datagram None f = false
has_datagram (Some k) f = is_ok (in_frame k (record { octets = f.octets; length = f.length }))

-- ---- a capture

-- what its rows show of the header, in the order in which they are noticed; the number of its last frame; what its first frame of
-- an unknown link type looks like; by a link header of unknown link types, whether a frame has a datagram; what was counted; and which
-- sides were recorded
pub record Sight : Type 0 where
  pub seen : Seen
  pub last : ℕ
  pub guess : Option (Option LinkKind)
  pub unknown : Option LinkKind
  pub internet : Bool
  pub counts : Counts
  pub sides : LineSides

abbrev pub sight_of : Survey → Sight
sight_of s = record { seen = s.seen; last = s.last; guess = s.guess; unknown = s.unknown; internet = s.has_internet; counts = s.counts; sides = s.sides }

abbrev pub first_sight : (unknown : Option LinkKind) → Sight
first_sight unknown = record { seen = nothing_seen; last = 0; guess = None; unknown = unknown; internet = false; counts = no_counts; sides = no_sides }

abbrev pub rows_sight : List Row → Sight → Sight
rows_sight rs s = record s { seen = rows_seen rs s.seen }

abbrev pub frame_sight : Option Frame → Sight → Sight
frame_sight None s = s
frame_sight (Some f) s = record {
  seen = s.seen;
  last = f.number;
  guess = guess_with f s.guess;
  unknown = s.unknown;
  internet = has_datagram (option_or (kind_of_link f.link) s.unknown) f || s.internet;
  counts = s.counts;
  sides = s.sides;
}

-- frames that were dropped
abbrev pub dropped_sight : Option Dropped → Line → Sight → Sight
dropped_sight d l s = record (rows_sight (dropped_rows d l) s) { counts = line_dropped d l s.counts }

-- a frame, what it shows of frames before it, and what it gives
abbrev pub given_sight : Option Frame → List Shown → Option FrameRead → Sight → Sight
given_sight f xs r s = record (frame_sight f (rows_sight (rows_given Noticed f xs r) s)) { counts = given_counted f xs r s.counts; sides = frame_recorded f xs r s.sides }

abbrev pub record_sight : Line → Record → Sight → Sight
record_sight l r s = given_sight r.frame (record_shown r l) (record_given r l) (dropped_sight r.dropped l s)

-- what was seen with more of a capture, from a line on
abbrev pub sight_from : Line → List Record → Sight → Sight
sight_from l [] s = s
sight_from l (r ∷ rs) s = sight_from (after_record r l) rs (record_sight l r s)

-- the link header that unknown link types likely have, where there is no packet without it
abbrev pub likely : Sight → Option LinkKind
likely s = if has_packets s.seen.beginning then None else option_and_then (λ look. look) s.guess
