-- The connections of a recording, as XOT.
use Rattle.std.specs.Prelude.{ℕ, zero, suc, ◌||◌, Bool, true, false, List, [], ◌∷◌, ◌++◌, Option, Some, None, if◌then◌else◌}
use Rattle.std.specs.BTreeMap.{insert_entry, is_at}
use Rattle.std.specs.Map.{lookup, remove_entry, set_value}
use Rattle.std.specs.Option.{option_map}
use Rattle.std.specs.Ordering.{nat_cmp}
use Rattle.ip_segments.specs.Segments.{Segment}
use Rattle.ip_segments.specs.Views.{segment_view}
use Rattle.tcp_streams.specs.Connections.{last_event, seen_ends}
use Rattle.tcp_streams.specs.Progress.{steps, steps_at}
use Rattle.tcp_streams.specs.Tables.{Table, after_or, ended_after, fed_at, fed_in, given_up_in, is_lent_at, is_over_at, last_at, last_in, lent_in, next_at, next_in, no_connections, placed, placed_after, seen_ends_at, table_of}
use Rattle.tcp_streams.specs.declared.connection.Connection.{Connection}
use Rattle.tcp_streams.specs.declared.connection.End.TheVariants.{Opener}
use Rattle.tcp_streams.specs.declared.connection.Event.{Event}
use Rattle.tcp_streams.specs.declared.connection.Fed.{Fed}
use Rattle.tcp_streams.specs.declared.connections.Place.{Place}
use Rattle.tcp_streams.specs.declared.connections.Placed.{Placed}
use Rattle.tcp_streams.specs.declared.connections.Placed.TheVariants.{Begins, GoesOn, Nowhere}
use Rattle.tcp_streams.specs.declared.connections.Tracked.{Tracked}
use Rattle.tcp_streams.specs.declared.ends.Ends.{Ends}
use Rattle.tcp_streams.specs.declared.piece.Recorded.{Recorded}
use Rattle.xot_circuits.specs.Exchanges.{ExchangeView, Step, ended, events_read, is_left, new_exchange, octets_read, origin_of, shown, with_seen}
use Rattle.xot_circuits.specs.Items.{Item}
use Rattle.xot_circuits.specs.Roles.{opener_side}
use Rattle.xot_circuits.specs.declared.item.CircuitGap.{CircuitGap}
use Rattle.xot_circuits.specs.declared.item.Origin.{Origin}
use Rattle.xot_circuits.specs.declared.recording.LiveConnection.{LiveConnection}
use Rattle.xot_circuits.specs.declared.recording.Recording.{Recording}
use Rattle.xot_circuits.specs.declared.recording.Seen as declared
use Rattle.xot_circuits.specs.declared.roles.Roles.{Roles}

-- a segment of a recording
pub record Seen : Type 0 where
  pub ends : Ends
  pub is_from_server : Bool
  pub segment : Segment
  pub recorded : Recorded

abbrev pub seen_view : declared.Seen → Seen
seen_view s = record { ends = s.ends; is_from_server = s.is_from_server; segment = segment_view s.segment; recorded = s.recorded }

-- all that comes next, and the state after it; each event makes the bound smaller
abbrev pub first_of : Option Event → List Event → List Event
first_of None es = []
first_of (Some e) es = e ∷ es

abbrev pub all_by : {S : Type 0} → (event : S → Option Event) → (after : S → S) → (bound : ℕ) → S → List Event
all_by event after zero s = []
all_by event after (suc n) s = first_of (event s) (all_by event after n (after s))

abbrev pub state_or : {S : Type 0} → Option Event → (next last : S) → S
state_or None s t = s
state_or (Some e) s t = t

abbrev pub after_by : {S : Type 0} → (event : S → Option Event) → (after : S → S) → (bound : ℕ) → S → S
after_by event after zero s = after s
after_by event after (suc n) s = state_or (event s) (after s) (after_by event after n (after s))

-- of the connection at a place, as far as it need not wait
unfoldable pub next_events : Place → Table → List Event
next_events p t = all_by (next_at p) (next_in p) (steps_at p t) t

unfoldable pub next_table : Place → Table → Table
next_table p t = after_by (next_at p) (next_in p) (steps_at p t) t

-- of the connection at a place after its last segment, and of one that is in no table
unfoldable pub last_events : Place → Table → List Event
last_events p t = all_by (last_at p) (last_in p) (steps_at p t) t

unfoldable pub last_table : Place → Table → Table
last_table p t = after_by (last_at p) (last_in p) (steps_at p t) t

unfoldable pub left_events : Connection → List Event
left_events c = all_by (λ c. option_map (λ n. n.event) (last_event c)) (λ c. after_or (last_event c) c) (steps c) c

-- what a segment does to a connection, and whether it ends it
pub record Passage : Type 0 where
  pub table : Table
  pub exchange : ExchangeView
  pub items : List Item
  pub ends : Bool

abbrev pub origin_in : Place → Seen → Origin
origin_in p s = origin_of p.number p.from s.recorded

-- what waits is given up where the connection does not carry XOT
abbrev pub kept_or_given_up : Bool → Place → Table → Table
kept_or_given_up b p t = if b then given_up_in p t else t

abbrev pub passage_of : Place → Seen → Table → Step → Passage
passage_of p s t x = record {
  table = t;
  exchange = x.after;
  items = x.items;
  ends = s.segment.is_reset || is_over_at p t;
}

abbrev pub next_passage : Place → Seen → Table → Step → Passage
next_passage p s t x = passage_of p s (kept_or_given_up (is_left x.after) p (next_table p t)) x

abbrev pub fed_passage : Option Fed → Place → Seen → Table → ExchangeView → Passage
fed_passage None p s t x = record { table = t; exchange = x; items = []; ends = false }
fed_passage (Some f) p s t x = next_passage p s t (events_read p.number (next_events p t) (shown (origin_in p s) f x))

abbrev pub feed_passage : Place → Seen → Table → ExchangeView → Passage
feed_passage p s t x = fed_passage (fed_at p s.segment s.recorded t) p s (fed_in p s.segment s.recorded t) x

abbrev pub lent_passage : Place → Seen → Table → Step → Passage
lent_passage p s t x = record { table = lent_in p s.segment t; exchange = x.after; items = x.items; ends = false }

-- octets that are the next ones are lent; a connection that does not carry XOT is passed over
abbrev pub passage : Place → Seen → Table → ExchangeView → Passage
passage p s t x = if is_left x then record { table = t; exchange = x; items = []; ends = s.segment.is_reset }
    else if is_lent_at p s.segment t then lent_passage p s t (octets_read (origin_in p s) s.segment.payload.octets x)
    else feed_passage p s (lent_in p s.segment t) x

-- the connections of a recording, and those that have not ended, by their numbers
pub record Recorder : Type 0 where
  pub roles : Roles
  pub table : Table
  pub live : List (ℕ × LiveConnection)

abbrev pub recorder_of : Recording → Recorder
recorder_of r = record { roles = r.roles; table = table_of r.connections; live = r.live.entries }

abbrev pub new_recorder : Roles → Recorder
new_recorder roles = record { roles = roles; table = no_connections; live = [] }

abbrev pub live_at : (number : ℕ) → Recorder → Option LiveConnection
live_at n r = lookup (is_at (nat_cmp n)) r.live

abbrev pub without : (number : ℕ) → Recorder → Recorder
without n r = record r { live = remove_entry (is_at (nat_cmp n)) r.live }

-- what is read: the recording after it, and the items
pub record Read : Type 0 where
  pub after : Recorder
  pub items : List Item

abbrev pub nothing_read : Recorder → Read
nothing_read r = record { after = r; items = [] }

-- the end of a connection: what is left of it, and its circuit
abbrev pub end_items : Ends → (number : ℕ) → Option Recorded → Step → List Item
end_items e n at x = x.items ++ ended e n at x.after

abbrev pub last_items : Place → Option Recorded → Table → LiveConnection → List Item
last_items p at t o = end_items o.ends p.number at (events_read p.number (last_events p t) (with_seen (seen_ends_at p t) o.exchange))

abbrev pub finished_by : Option LiveConnection → Place → Recorded → Recorder → Read
finished_by None p at r = nothing_read r
finished_by (Some o) p at r = record {
  after = record (without p.number r) { table = ended_after p (last_table p r.table) };
  items = last_items p (Some at) r.table o;
}

abbrev pub finished : Place → Recorded → Recorder → Read
finished p at r = finished_by (live_at p.number r) p at r

-- the end of a connection that another one replaced between its ends
abbrev pub replaced_by : Option LiveConnection → Tracked → Recorded → Recorder → Read
replaced_by None c at r = nothing_read r
replaced_by (Some o) c at r = record { after = without c.number r; items = end_items o.ends c.number (Some at) (events_read c.number (left_events c.connection) (with_seen (seen_ends c.connection) o.exchange)) }

abbrev pub replaced : Option Tracked → Recorded → Recorder → Read
replaced None at r = nothing_read r
replaced (Some c) at r = replaced_by (live_at c.number r) c at r

-- a segment of a connection; one that has ended is passed over
abbrev pub behind : List Item → Read → Read
behind items r = record { after = r.after; items = items ++ r.items }

abbrev pub ended_if : Bool → Place → Recorded → Recorder → Read
ended_if b p at r = if b then finished p at r else nothing_read r

-- what a segment does to the recording, and whether it ends its connection
pub record Passed : Type 0 where
  pub after : Recorder
  pub items : List Item
  pub ends : Bool

abbrev pub with_passage : Place → LiveConnection → Passage → Recorder → Passed
with_passage p o q r = record {
  after = record { roles = r.roles; table = q.table; live = set_value (is_at (nat_cmp p.number)) r.live (record { ends = o.ends; exchange = q.exchange }) };
  items = q.items;
  ends = q.ends;
}

abbrev pub passed_by : Option LiveConnection → Place → Seen → Recorder → Passed
passed_by None p s r = record { after = r; items = []; ends = false }
passed_by (Some o) p s r = with_passage p o (passage p s r.table o.exchange) r

abbrev pub passed : Place → Seen → Recorder → Passed
passed p s r = passed_by (live_at p.number r) p s r

abbrev pub at_read_by : Place → Seen → Passed → Read
at_read_by p s q = behind q.items (ended_if q.ends p s.recorded q.after)

abbrev pub at_read : Place → Seen → Recorder → Read
at_read p s r = at_read_by p s (passed p s r)

-- a connection that begins: with a gap, where it is not with a SYN
abbrev pub beginning_gap : Place → Seen → Option CircuitGap
beginning_gap p s = if s.segment.is_syn then None else Some (record { connection = p.number; recorded = s.recorded; is_beginning = true })

abbrev pub new_live : Roles → Place → Seen → LiveConnection
new_live roles p s = record { ends = p.ends; exchange = new_exchange (opener_side roles p.ends) (beginning_gap p s) }

abbrev pub begun : Place → Seen → Recorder → Recorder
begun p s r = record r { live = insert_entry nat_cmp r.live p.number (new_live r.roles p s) }

-- a segment
abbrev pub begun_read : Place → Seen → Read → Read
begun_read p s before = behind before.items (at_read p s (begun p s before.after))

abbrev pub read_by : Placed → Seen → Recorder → Read
read_by Nowhere s r = nothing_read r
read_by (GoesOn p) s r = at_read p s r
read_by (Begins p before) s r = begun_read p s (replaced before s.recorded r)

abbrev pub read_of : Seen → Recorder → Read
read_of s r = read_by (placed s.ends s.is_from_server s.segment r.table) s (record r { table = placed_after s.ends s.is_from_server s.segment r.table })

-- the end of the recording: one connection after the other
abbrev pub last_place : (number : ℕ) → LiveConnection → Place
last_place n o = record { ends = o.ends; from = Opener; number = n }

abbrev pub closed : List (ℕ × LiveConnection) → Table → List Item
closed [] t = []
closed (e ∷ es) t = last_items (last_place e.0 e.1) None t e.1 ++ closed es (last_table (last_place e.0 e.1) t)

-- a whole recording
abbrev pub items_from : List Seen → Recorder → List Item
items_from [] r = closed r.live r.table
items_from (s ∷ ss) r = (read_of s r).items ++ items_from ss (read_of s r).after

abbrev pub recording_items : Roles → List Seen → List Item
recording_items roles ss = items_from ss (new_recorder roles)
