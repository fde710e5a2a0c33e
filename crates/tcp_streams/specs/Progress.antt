-- How often something comes next in a connection, where no other segment is read.
use Rattle.std.specs.Prelude.{◌≡◌, ℕ, ◌+◌, ◌*◌, ◌-◌, ◌==◌, nat_lt, List, [], ◌∷◌, length, Option, Some, None, unwrap_or, if◌then◌else◌}
use Rattle.tcp_streams.specs.Connections.{Next, last_event, next_event}
use Rattle.tcp_streams.specs.Numbers.{awaited}
use Rattle.tcp_streams.specs.Runs.{Call, Feed, Finish, Lend, TakeNext}
use Rattle.tcp_streams.specs.Tables.{Table, opened_by}
use Rattle.tcp_streams.specs.declared.connection.Connection.{Connection}
use Rattle.tcp_streams.specs.declared.connections.Place.{Place}
use Rattle.tcp_streams.specs.declared.connections.Tracked.{Tracked}
use Rattle.tcp_streams.specs.declared.piece.Piece.{Piece}

-- the steps of a direction: five for each piece that waits, two for octets that are missing before the first one, and one for
-- those that it acknowledges
abbrev pub steps_before : (own other : Option ℕ) → Piece → ℕ
steps_before f g p = (if nat_lt 0 (p.at - unwrap_or f 0) then 2 else 0) + (if awaited g p.acknowledged == 0 then 0 else 1)

abbrev pub steps_of : (own other : Option ℕ) → List Piece → ℕ
steps_of f g [] = 0
steps_of f g (p ∷ ps) = steps_before f g p + 5 * length ps + 5

-- what comes next leaves fewer steps
abbrev pub steps : Connection → ℕ
steps c = steps_of c.opener.next c.answerer.next c.opener.waiting + steps_of c.answerer.next c.opener.next c.answerer.waiting

abbrev pub how_many_wait : Connection → ℕ
how_many_wait c = length c.opener.waiting + length c.answerer.waiting

-- those of the connection at a place
abbrev pub steps_in : Option Tracked → ℕ
steps_in None = 0
steps_in (Some c) = steps c.connection

abbrev pub steps_at : Place → Table → ℕ
steps_at p t = steps_in (opened_by p.ends t)

-- calls of `next` and `finish`, each of which gives something out
abbrev pub event_of : Call → Connection → Option Next
event_of (TakeNext full) c = next_event full c
event_of Finish c = last_event c
event_of (Feed d s r) c = None
event_of (Lend d s r) c = None

abbrev pub GiveOut : List Call → Connection → Type 0
GiveOut [] c = Unit {0}
GiveOut (call ∷ calls) c = (n : Next) × (event_of call c ≡ Some n) × GiveOut calls n.after
