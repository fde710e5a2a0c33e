-- The data that was not counted, and why.
use Rattle.std.specs.Prelude.{ℕ, ◌+◌, ◌-◌, ◌<◌, ◌^◌, Bool, true, false, List, [], ◌∷◌, ◌++◌, Option, Some, None, filter, length, min, sum_by, if◌then◌else◌}
use Rattle.std.specs.List.{list_any}
use Rattle.line_model.specs.declared.interface.Interface.{Interface}
use Rattle.line_model.specs.declared.event.Event.{Event}
use Rattle.line_model.specs.declared.event.What.{What}
use Rattle.line_model.specs.declared.event.What.TheVariants.{Data as DataAccepted}
use Rattle.line_model.specs.declared.packet.Packet.{Packet}
use Rattle.line_model.specs.declared.packet.Packet.TheVariants as packet
use Rattle.line_model.specs.declared.packet.PacketKind.{PacketKind}
use Rattle.line_model.specs.declared.packet.PacketKind.TheVariants as kind
use Rattle.line_model.specs.declared.state.ChannelState.{ChannelState}
use Rattle.line_model.specs.declared.state.ChannelState.TheVariants as state
use Rattle.line_model.specs.basics.Records.{Item}
use Rattle.line_model.specs.channels.Gaps.{GapChannel}
use Rattle.line_model.specs.channels.GapRestart.{GapInterfaceState}
use Rattle.line_model.specs.observer.Machine.{Observer, after, routed}
use Rattle.line_model.specs.observer.Observer.{start, x25}
use Rattle.line_model.specs.observer.Report.{is_finding}
use Rattle.line_model.specs.packets.Classes.{header_length}
use Rattle.line_model.specs.text.Text.{head, rows}
use Rattle.live_report.specs.declared.uncounted.Amount.{Amount}
use Rattle.live_report.specs.declared.uncounted.Reason.{Reason}
use Rattle.live_report.specs.declared.uncounted.Reason.TheVariants.{Finding, Owed, NotInTransfer, Discarded, Unknown, Restart}
use Rattle.live_report.specs.declared.uncounted.Uncounted.{Uncounted}
use Rattle.line_model.specs.packets.Says.{items_of}
use Rattle.channel_run.specs.Run.{row_events}
use Rattle.channel_run.specs.Views.{is_adrift}

-- whether a packet is a data packet
abbrev pub is_data_kind : PacketKind → Bool
is_data_kind (kind.Data h) = true
is_data_kind _ = false

abbrev pub is_data : Packet → Bool
is_data (packet.Channel k what) = is_data_kind what
is_data _ = false

-- whether an event is of data that was counted
abbrev pub is_data_event : What → Bool
is_data_event (DataAccepted side octets) = true
is_data_event _ = false

-- whether data was counted
abbrev pub counts_data : List Event → Bool
counts_data es = list_any (λ e. is_data_event e.what) es

-- whether something was found
abbrev pub has_finding : List Event → Bool
has_finding es = list_any (λ e. is_finding e.what) es

-- why a channel in a state does not count data without a fault; adrift without a call nothing is known of it
abbrev pub reason_of_state : ChannelState → (adrift owed : Bool) → Reason
reason_of_state state.Unknown adrift owed = Unknown
reason_of_state (state.Setup s) adrift owed = if adrift then Unknown else (if owed then Owed else NotInTransfer)
reason_of_state (state.Transfer s) adrift owed = if owed then Owed else Discarded

-- why a channel did not count the data of a row with these events, by what was known of it before; none where it did
abbrev pub reason_on : GapChannel → List Event → Option Reason
reason_on g es = if counts_data es then None else (if has_finding es then Some Finding else Some (reason_of_state g.channel.state (is_adrift g.certainty) g.channel.owed))

-- why a data packet was not counted: where it went to no channel, a restart goes on
abbrev pub reason_by : Interface → (taker : Option ℕ) → Observer GapInterfaceState GapChannel → Item → Option Reason
reason_by i None o r = Some Restart
reason_by i (Some k) o r = reason_on (o.states k) (row_events i o.epoch k (o.states k) r)

-- why the data of a row was not counted, by what was known before it; none where it has no data, or where it was counted
abbrev pub reason_at : Interface → Observer GapInterfaceState GapChannel → Item → Option Reason
reason_at i o r = if is_data r.packet then reason_by i (routed (x25 i) o.level r) o r else None

-- how many octets of user data a data packet has
abbrev pub user_octets : Interface → (length : ℕ) → ℕ
user_octets i n = n - header_length i

-- a data packet that was not counted: why, and its octets of user data
pub record LeftOut : Type 0 where
  pub reason : Reason
  pub octets : ℕ

-- the data packet that a row is, if it was not counted
abbrev pub left_out_by : (why : Option Reason) → (octets : ℕ) → List LeftOut
left_out_by None n = []
left_out_by (Some why) n = record { reason = why; octets = n } ∷ []

abbrev pub left_out_at : Interface → Observer GapInterfaceState GapChannel → Item → List LeftOut
left_out_at i o r = left_out_by (reason_at i o r) (user_octets i r.length)

-- the data packets of some rows that were not counted, in order
abbrev pub left_out : Interface → Observer GapInterfaceState GapChannel → List Item → List LeftOut
left_out i o [] = []
left_out i o (r ∷ rs) = left_out_at i o r ++ left_out i (after (x25 i) o r) rs

-- whether two reasons are the same
abbrev pub is_same : Reason → Reason → Bool
is_same Finding Finding = true
is_same Owed Owed = true
is_same NotInTransfer NotInTransfer = true
is_same Discarded Discarded = true
is_same Unknown Unknown = true
is_same Restart Restart = true
is_same _ _ = false

-- how many there are for a reason, and how many octets they have
abbrev pub amount_of : Reason → List LeftOut → Amount
amount_of why ds = record {
  packets = length (filter (λ d. is_same why d.reason) ds);
  octets = sum_by (λ d. d.octets) (filter (λ d. is_same why d.reason) ds);
}

-- the same for each reason
abbrev pub amounts_of : List LeftOut → Uncounted
amounts_of ds = record {
  finding = amount_of Finding ds;
  owed = amount_of Owed ds;
  not_in_transfer = amount_of NotInTransfer ds;
  discarded = amount_of Discarded ds;
  unknown = amount_of Unknown ds;
  restart = amount_of Restart ds;
}

-- nothing was left out
abbrev pub none_left_out : Uncounted
none_left_out = amounts_of []

-- what was not counted of the rows of an interface
abbrev pub uncounted_of : Interface → List Item → Uncounted
uncounted_of i rs = amounts_of (left_out i (start i) rs)

-- what was not counted of a trace text
abbrev pub trace_uncounted : List ℕ → Uncounted
trace_uncounted x = elim (head x) [ None ↦ none_left_out | Some i ↦ uncounted_of i (items_of i (rows x)) ]

-- the amount for a reason
abbrev pub amount_for : Reason → Uncounted → Amount
amount_for Finding u = u.finding
amount_for Owed u = u.owed
amount_for NotInTransfer u = u.not_in_transfer
amount_for Discarded u = u.discarded
amount_for Unknown u = u.unknown
amount_for Restart u = u.restart

-- an amount after one packet more; a sum that 64 bits can't hold stays at the greatest number
abbrev pub grown : (octets : ℕ) → Amount → Amount
grown n a = record { packets = min (a.packets + 1) (2 ^ 64 - 1); octets = min (a.octets + n) (2 ^ 64 - 1) }

-- the amounts after one packet more
abbrev pub with_one : Reason → (octets : ℕ) → Uncounted → Uncounted
with_one Finding n u = record u { finding = grown n u.finding }
with_one Owed n u = record u { owed = grown n u.owed }
with_one NotInTransfer n u = record u { not_in_transfer = grown n u.not_in_transfer }
with_one Discarded n u = record u { discarded = grown n u.discarded }
with_one Unknown n u = record u { unknown = grown n u.unknown }
with_one Restart n u = record u { restart = grown n u.restart }

-- few enough rows for their counts to fit
pub record AreFew (rs : List Item) : Type 0 where
  pub rows : length rs < 2 ^ 64
  pub octets : sum_by (λ r. r.length) rs < 2 ^ 64
