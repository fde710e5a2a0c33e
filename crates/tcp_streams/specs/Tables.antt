-- The connections of a recording, by their ends.
use Rattle.std.specs.Prelude.{ℕ, ◌+◌, ◌-◌, ◌^◌, ◌++◌, ◌==◌, ◌&&◌, ◌||◌, nat_lt, min, not, Bool, false, List, [], ◌∷◌, length, Option, Some, None, is_some, if◌then◌else◌}
use Rattle.std.specs.BTreeMap.{insert_entry, is_at}
use Rattle.std.specs.Option.{option_map}
use Rattle.std.specs.Map.{lookup, remove_entry, set_value}
use Rattle.ip_segments.specs.Segments.{Segment}
use Rattle.tcp_streams.specs.Connections.{cost, fed_after, fed_of, given_up, goes_on, is_next, is_over, last_event, lent_if, new_connection, next_event, no_ends, seen_ends, Next}
use Rattle.tcp_streams.specs.Ends.{turned}
use Rattle.tcp_streams.specs.contracts.ends.EndsOrd.TheImpl.{ghosts}
use Rattle.tcp_streams.specs.declared.connection.Connection.{Connection}
use Rattle.tcp_streams.specs.declared.connection.End.{End}
use Rattle.tcp_streams.specs.declared.connection.EndSet.{EndSet}
use Rattle.tcp_streams.specs.declared.connection.End.TheVariants.{Opener, Answerer}
use Rattle.tcp_streams.specs.declared.connection.Event.{Event}
use Rattle.tcp_streams.specs.declared.connection.Fed.{Fed}
use Rattle.tcp_streams.specs.declared.connections.Connections.{Connections}
use Rattle.tcp_streams.specs.declared.connections.Place.{Place}
use Rattle.tcp_streams.specs.declared.connections.Placed.{Placed}
use Rattle.tcp_streams.specs.declared.connections.Placed.TheVariants.{Begins, GoesOn, Nowhere}
use Rattle.tcp_streams.specs.declared.connections.Tracked.{Tracked}
use Rattle.tcp_streams.specs.declared.ends.Ends.{Ends}
use Rattle.tcp_streams.specs.declared.piece.Recorded.{Recorded}

-- the latest connection of each opener to another end, how many began, those that are over, and what waits in all
pub record Table : Type 0 where
  pub latest : List (Ends × Tracked)
  pub begun : ℕ
  pub over : List Place
  pub waiting : ℕ

abbrev pub table_of : Connections → Table
table_of c = record { latest = c.latest.entries; begun = c.begun; over = c.over.items; waiting = c.waiting }

abbrev pub no_connections : Table
no_connections = record { latest = []; begun = 0; over = []; waiting = 0 }

-- the latest connection that the first end opened to the second
abbrev pub opened_by : Ends → Table → Option Tracked
opened_by e t = lookup (is_at (ghosts.cmp e)) t.latest

-- the latest connection between two ends, and who sends
abbrev pub place_at : Ends → End → Option Tracked → Option Place
place_at e from None = None
place_at e from (Some c) = Some (record { ends = e; from = from; number = c.number })

abbrev pub found_or : Option Place → Option Place → Option Place
found_or (Some p) q = Some p
found_or None q = q

abbrev pub found : Ends → Table → Option Place
found e t = found_or (place_at e Opener (opened_by e t)) (place_at (turned e) Answerer (opened_by (turned e) t))

-- a segment goes on with that connection, unless it is a SYN of another one
abbrev pub goes_on_with : Option Tracked → End → Segment → Bool
goes_on_with None from s = false
goes_on_with (Some c) from s = not s.is_syn || goes_on from s c.connection

abbrev pub goes_on_at : Place → Segment → Table → Bool
goes_on_at p s t = goes_on_with (opened_by p.ends t) p.from s

-- where there is none, a SYN begins one, and octets do
abbrev pub opens : Segment → Bool
opens s = s.is_syn || (not s.is_reset && (nat_lt 0 (length s.payload.octets) || nat_lt 0 s.payload.length))

-- the first segment is the opener's, unless it is the answer to a SYN, or comes from a server
abbrev pub opens_as : (is_from_server : Bool) → Segment → End
opens_as from_server s = if (if s.is_syn then is_some s.acknowledged else from_server) then Answerer else Opener

abbrev pub opener_first : End → Ends → Ends
opener_first Opener e = e
opener_first Answerer e = turned e

-- a connection that begins has the next number, and takes the place of that of its opener before it
abbrev pub next_number : Table → ℕ
next_number t = min (t.begun + 1) (2 ^ 64 - 1)

abbrev pub begun_place : Ends → End → Table → Place
begun_place e from t = record { ends = opener_first from e; from = from; number = next_number t }

abbrev pub begun_after : Ends → End → Table → Table
begun_after e from t = record t {
  latest = insert_entry ghosts.cmp t.latest (opener_first from e) (record { number = next_number t; connection = new_connection });
  begun = next_number t;
}

-- what waits in all connections, where what waits in one of them changes
abbrev pub recharged : (waiting before after : ℕ) → ℕ
recharged w before after = min (w + after) (2 ^ 64 - 1) - before

-- without the connection of an opener
abbrev pub without_of : Option Tracked → Ends → Table → Table
without_of None e t = t
without_of (Some c) e t = record t { latest = remove_entry (is_at (ghosts.cmp e)) t.latest; waiting = recharged t.waiting (cost c.connection) 0 }

abbrev pub without : Ends → Table → Table
without e t = without_of (opened_by e t) e t

-- what a segment does where a connection is known between its ends, and where none is
abbrev pub placed_by : Option Place → Ends → (is_from_server : Bool) → Segment → Table → Placed
placed_by (Some p) e server s t = if goes_on_at p s t then GoesOn p
    else Begins (begun_place e (opens_as server s) t) (opened_by p.ends t)
placed_by None e server s t = if opens s then Begins (begun_place e (opens_as server s) t) None else Nowhere

abbrev pub placed_after_by : Option Place → Ends → (is_from_server : Bool) → Segment → Table → Table
placed_after_by (Some p) e server s t = if goes_on_at p s t then t
    else begun_after e (opens_as server s) (without p.ends t)
placed_after_by None e server s t = if opens s then begun_after e (opens_as server s) t else t

abbrev pub placed : Ends → (is_from_server : Bool) → Segment → Table → Placed
placed e server s t = placed_by (found e t) e server s t

abbrev pub placed_after : Ends → (is_from_server : Bool) → Segment → Table → Table
placed_after e server s t = placed_after_by (found e t) e server s t

-- what a segment does to the connection at a place
abbrev pub changed : Option Tracked → Place → (Connection → Connection) → Table → Table
changed None p f t = t
changed (Some c) p f t = record t { latest = set_value (is_at (ghosts.cmp p.ends)) t.latest (record c { connection = f c.connection }) }

abbrev pub charged : Option Tracked → Place → (Connection → Connection) → Table → Table
charged None p f t = t
charged (Some c) p f t = record (changed (Some c) p f t) { waiting = recharged t.waiting (cost c.connection) (cost (f c.connection)) }

abbrev pub is_lent_to : Option Tracked → Place → Segment → Bool
is_lent_to None p s = false
is_lent_to (Some c) p s = is_next p.from s c.connection

abbrev pub is_lent_at : Place → Segment → Table → Bool
is_lent_at p s t = is_lent_to (opened_by p.ends t) p s

abbrev pub lent_in : Place → Segment → Table → Table
lent_in p s t = changed (opened_by p.ends t) p (lent_if p.from s) t

abbrev pub fed_to : Option Tracked → Place → Segment → Recorded → Option Fed
fed_to None p s r = None
fed_to (Some c) p s r = Some (fed_of p.from s r c.connection)

abbrev pub fed_at : Place → Segment → Recorded → Table → Option Fed
fed_at p s r t = fed_to (opened_by p.ends t) p s r

abbrev pub fed_in : Place → Segment → Recorded → Table → Table
fed_in p s r t = charged (opened_by p.ends t) p (fed_after p.from s r) t

-- what comes next in the connection at a place
abbrev pub after_or : Option Next → Connection → Connection
after_or None c = c
after_or (Some n) c = n.after

abbrev pub event_at : (Connection → Option Next) → Option Tracked → Option Event
event_at next None = None
event_at next (Some c) = option_map (λ n. n.event) (next c.connection)

-- memory is full where more than 64 MiB wait in all connections
abbrev pub is_full : Table → Bool
is_full t = nat_lt 0x4000000 t.waiting

abbrev pub next_at : Place → Table → Option Event
next_at p t = event_at (next_event (is_full t)) (opened_by p.ends t)

abbrev pub next_in : Place → Table → Table
next_in p t = charged (opened_by p.ends t) p (λ c. after_or (next_event (is_full t) c) c) t

abbrev pub last_at : Place → Table → Option Event
last_at p t = event_at last_event (opened_by p.ends t)

abbrev pub last_in : Place → Table → Table
last_in p t = charged (opened_by p.ends t) p (λ c. after_or (last_event c) c) t

-- what waits in the connection at a place is given up
abbrev pub given_up_in : Place → Table → Table
given_up_in p t = charged (opened_by p.ends t) p given_up t

-- the ends of the connection at a place of which segments were recorded
abbrev pub seen_ends_in : Option Tracked → EndSet
seen_ends_in None = no_ends
seen_ends_in (Some c) = seen_ends c.connection

abbrev pub seen_ends_at : Place → Table → EndSet
seen_ends_at p t = seen_ends_in (opened_by p.ends t)

abbrev pub is_over_in : Option Tracked → Bool
is_over_in None = false
is_over_in (Some c) = is_over c.connection

abbrev pub is_over_at : Place → Table → Bool
is_over_at p t = is_over_in (opened_by p.ends t)

-- of the connections that are over 1,000 stay, and a place that has another one keeps it
abbrev pub has_number : Option Tracked → ℕ → Bool
has_number None n = false
has_number (Some c) n = c.number == n

abbrev pub forgotten : Place → Table → Table
forgotten p t = if has_number (opened_by p.ends t) p.number then without p.ends t else t

abbrev pub first_forgotten : List Place → Table → Table
first_forgotten [] t = t
first_forgotten (p ∷ ps) t = forgotten p (record t { over = ps })

abbrev pub ended_after : Place → Table → Table
ended_after p t = let over = t.over ++ p ∷ [] in
    if nat_lt 1000 (length over) then first_forgotten over (record t { over = over }) else record t { over = over }
