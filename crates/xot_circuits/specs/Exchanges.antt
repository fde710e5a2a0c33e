-- A connection as XOT: what its octets and its gaps give.
use Rattle.std.specs.Prelude.{◌≡◌, ℕ, zero, suc, ◌+◌, ◌-◌, ◌&&◌, ◌||◌, nat_le, nat_lt, not, Bool, true, false, List, [], ◌∷◌, ◌++◌, length, take, drop, Option, Some, None, is_some, if◌then◌else◌}
use Rattle.line_model.specs.channels.Channels.{other}
use Rattle.line_model.specs.declared.state.Side.{Side}
use Rattle.tcp_streams.specs.Connections.{has_end, no_ends, other_end, with_end}
use Rattle.tcp_streams.specs.Numbers.{fin_numbers}
use Rattle.tcp_streams.specs.declared.connection.End.{End}
use Rattle.tcp_streams.specs.declared.connection.End.TheVariants.{Opener, Answerer}
use Rattle.tcp_streams.specs.declared.connection.EndSet.{EndSet}
use Rattle.tcp_streams.specs.declared.connection.Event.{Event}
use Rattle.tcp_streams.specs.declared.connection.Event.TheVariants as event
use Rattle.tcp_streams.specs.declared.connection.Fed.{Fed}
use Rattle.tcp_streams.specs.declared.ends.Ends.{Ends}
use Rattle.tcp_streams.specs.declared.piece.Piece.{Piece}
use Rattle.tcp_streams.specs.declared.piece.Recorded.{Recorded}
use Rattle.xot_circuits.specs.Circuits.{after_loss, after_other_version, expected, followed, new_circuit}
use Rattle.xot_circuits.specs.Items.{Gap, Item, LeftOut, Packet, Sent, Ended}
use Rattle.xot_circuits.specs.Joining.{Joining, joining}
use Rattle.xot_circuits.specs.Packets.{Splits, header}
use Rattle.xot_circuits.specs.Streams.{StreamView}
use Rattle.xot_circuits.specs.declared.circuit.Circuit.{Circuit}
use Rattle.xot_circuits.specs.declared.circuit.What.{What}
use Rattle.xot_circuits.specs.declared.circuit.What.TheVariants.{SetUp, OfInterface}
use Rattle.xot_circuits.specs.declared.exchange.Dialogue.{Dialogue}
use Rattle.xot_circuits.specs.declared.header.Header.{Header}
use Rattle.xot_circuits.specs.declared.header.Header.TheVariants as headers
use Rattle.xot_circuits.specs.declared.item.CircuitGap.{CircuitGap}
use Rattle.xot_circuits.specs.declared.item.Origin.{Origin}

-- what the octets of a stream are: a packet and what comes after it, less than a packet, or the header of another version
pub data Contents : Type 0 where
  Then : (packet : List ℕ) → Contents → Contents
  Rest : List ℕ → Contents
  OtherVersion : Contents

-- by the header at their front; each packet has four octets more than it says, so the bound is never met
unfoldable pub contents_by : (bound : ℕ) → Header → List ℕ → Contents
contents_by zero h octets = Rest octets
contents_by (suc n) headers.Cut octets = Rest octets
contents_by (suc n) (headers.OtherVersion v) octets = OtherVersion
contents_by (suc n) (headers.Length m) octets = if nat_le (4 + m) (length octets)
    then Then (take m (drop 4 octets)) (contents_by n (header (drop (4 + m) octets)) (drop (4 + m) octets))
    else Rest octets

abbrev pub contents_of : List ℕ → Contents
contents_of octets = contents_by (length octets) (header octets) octets

-- these packets, and then less than a whole one; that is what octets are that are split into them
abbrev pub packets_then : List (List ℕ) → (rest : List ℕ) → Contents
packets_then [] rest = Rest rest
packets_then (p ∷ ps) rest = Then p (packets_then ps rest)

abbrev pub SplitIsRead : Type 0
SplitIsRead = (octets : List ℕ) (packets : List (List ℕ)) (rest : List ℕ) → Splits octets packets rest → contents_of octets ≡ packets_then packets rest

-- what is kept of a direction: the octets of its next packet, and whether a packet is sought
pub record Direction : Type 0 where
  pub rest : List ℕ
  pub is_sought : Bool

abbrev pub direction_of : StreamView → Direction
direction_of s = record { rest = s.rest; is_sought = s.is_sought }

-- the side of an end
abbrev pub side_by : Side → End → Side
side_by s Opener = s
side_by s Answerer = other s

abbrev pub side_of : End → Dialogue → Side
side_of e d = side_by d.side e

-- set-ups, and packets of a whole interface, are not of the circuit
abbrev pub is_left_out : What → Bool
is_left_out SetUp = true
is_left_out (OfInterface k) = true
is_left_out w = false

-- what is said: the dialogue after it, and the items
pub record Said : Type 0 where
  pub after : Dialogue
  pub items : List Item

-- the gap before the next packet
abbrev pub gap_items : Option CircuitGap → List Item
gap_items None = []
gap_items (Some g) = Gap g ∷ []

abbrev pub sent_by : Origin → Sent → (after : Circuit) → Dialogue → Said
sent_by o s after d = if is_left_out s.what then record { after = record d { circuit = after }; items = LeftOut s ∷ [] }
    else record { after = record d { circuit = after; gap = None; senders = with_end o.from d.senders }; items = gap_items d.gap ++ Packet s ∷ [] }

abbrev pub sent : Origin → List ℕ → Dialogue → Said
sent o octets d = let f = followed (side_of o.from d) octets d.circuit in
    sent_by o (record { origin = o; side = side_of o.from d; what = f.what; octets = octets }) f.after d

-- a gap comes before the next packet; of several the last one
abbrev pub gap_at : Origin → CircuitGap
gap_at o = record { connection = o.connection; recorded = o.recorded; is_beginning = false }

abbrev pub missed : Origin → Dialogue → Dialogue
missed o d = record d { circuit = after_loss d.circuit; gap = Some (gap_at o) }

-- octets of an end that are missing; of an unknown number there may be none
abbrev pub lacked : End → (octets : ℕ) → Dialogue → Dialogue
lacked e n d = if nat_lt 0 n then record d { lacking = with_end e d.lacking } else d

-- the header of another version
abbrev pub refused : Origin → Dialogue → Dialogue
refused o d = record d { circuit = after_other_version d.circuit; gap = if d.circuit.has_gap then Some (gap_at o) else d.gap }

-- what octets of a direction do: the direction and the dialogue after them, and the items
pub record Carried : Type 0 where
  pub direction : Direction
  pub after : Dialogue
  pub items : List Item

-- after items that were given before
abbrev pub behind : List Item → Carried → Carried
behind items h = record h { items = items ++ h.items }

abbrev pub carried : Origin → Contents → Dialogue → Carried
carried o (Then packet more) d = behind (sent o packet d).items (carried o more (sent o packet d).after)
carried o (Rest rest) d = record { direction = record { rest = rest; is_sought = false }; after = d; items = [] }
carried o OtherVersion d = record { direction = record { rest = []; is_sought = true }; after = refused o d; items = [] }

-- while a packet is sought, what is passed over is a gap
abbrev pub missed_if : Bool → Origin → Dialogue → Dialogue
missed_if b o d = if b then missed o d else d

abbrev pub joined_carried : Origin → List ℕ → Joining → Dialogue → Carried
joined_carried o octets j d = if j.is_sought then record { direction = record { rest = j.rest; is_sought = true }; after = d; items = [] }
    else carried o (contents_of (j.rest ++ octets)) d

abbrev pub sought_carried : Origin → List ℕ → Joining → Dialogue → Carried
sought_carried o octets j d = joined_carried o octets j (missed_if (nat_lt 0 j.passed) o d)

abbrev pub octets_carried : Origin → List ℕ → Direction → Dialogue → Carried
octets_carried o octets s d = if s.is_sought then sought_carried o octets (joining (expected (side_of o.from d) d.circuit) s.rest octets) d
    else carried o (contents_of (s.rest ++ octets)) d

-- what contracts see of an exchange
pub record ExchangeView : Type 0 where
  pub opener : Direction
  pub answerer : Direction
  pub dialogue : Dialogue

abbrev pub new_direction : (is_sought : Bool) → Direction
new_direction sought = record { rest = []; is_sought = sought }

abbrev pub new_dialogue : Side → Option CircuitGap → Dialogue
new_dialogue side gap = record { side = side; circuit = new_circuit (is_some gap); gap = gap; senders = no_ends; lacking = no_ends }

abbrev pub new_exchange : Side → Option CircuitGap → ExchangeView
new_exchange side gap = record { opener = new_direction (is_some gap); answerer = new_direction (is_some gap); dialogue = new_dialogue side gap }

abbrev pub is_left : ExchangeView → Bool
is_left x = x.dialogue.circuit.is_left

abbrev pub own : End → ExchangeView → Direction
own Opener x = x.opener
own Answerer x = x.answerer

abbrev pub with_own : End → Direction → Dialogue → ExchangeView → ExchangeView
with_own Opener s d x = record { opener = s; answerer = x.answerer; dialogue = d }
with_own Answerer s d x = record { opener = x.opener; answerer = s; dialogue = d }

-- the exchange after something, and the items
pub record Step : Type 0 where
  pub after : ExchangeView
  pub items : List Item

abbrev pub step_of : End → Carried → ExchangeView → Step
step_of e h x = record { after = with_own e h.direction h.after x; items = h.items }

-- octets of an end; a connection that does not carry XOT is not read
abbrev pub octets_read : Origin → List ℕ → ExchangeView → Step
octets_read o octets x = if is_left x then record { after = x; items = [] } else step_of o.from (octets_carried o octets (own o.from x) x.dialogue) x

-- octets of an end that are missing
abbrev pub lost : Origin → (octets : ℕ) → ExchangeView → ExchangeView
lost o n x = if is_left x then x else with_own o.from (new_direction true) (missed o (lacked o.from n x.dialogue)) x

-- a piece of an end; octets that the recorder cut off are missing after it
abbrev pub cut_octets : Piece → ℕ
cut_octets p = (p.until - p.at) - (length p.octets + fin_numbers p.is_end)

abbrev pub cut_after : (octets : ℕ) → Origin → Step → Step
cut_after n o s = record { after = if nat_lt 0 n then lost o n s.after else s.after; items = s.items }

abbrev pub piece_read : Origin → Piece → ExchangeView → Step
piece_read o p x = cut_after (cut_octets p) o (octets_read o p.octets x)

abbrev pub origin_of : (connection : ℕ) → End → Recorded → Origin
origin_of n e r = record { connection = n; from = e; recorded = r }

-- what comes next in a connection
abbrev pub event_read : (connection : ℕ) → Event → ExchangeView → Step
event_read n (event.Piece e p) x = piece_read (origin_of n e p.recorded) p x
event_read n (event.Gap g) x = record { after = lost (origin_of n g.end g.recorded) g.octets x; items = [] }

-- gaps that a segment shows at once: of the other direction, and of its own before it
abbrev pub turned : Origin → Origin
turned o = record o { from = other_end o.from }

abbrev pub lost_by : Option ℕ → Origin → ExchangeView → ExchangeView
lost_by None o x = x
lost_by (Some n) o x = lost o n x

abbrev pub shown : Origin → Fed → ExchangeView → ExchangeView
shown o f x = lost_by f.opening o (lost_by f.unsaid (turned o) x)

-- of an end without a segment all octets are missing
abbrev pub with_seen : EndSet → ExchangeView → ExchangeView
with_seen s x = let l = x.dialogue.lacking in record x { dialogue = record x.dialogue { lacking = record { opener = l.opener || not s.opener; answerer = l.answerer || not s.answerer } } }

-- an end alone was recorded: it has packets, the other one has none, and octets of that are missing
abbrev pub is_alone : End → Dialogue → Bool
is_alone e d = has_end e d.senders && (not (has_end (other_end e) d.senders) && has_end (other_end e) d.lacking)

abbrev pub alone : Dialogue → Option Side
alone d = if is_alone Opener d then Some d.side else if is_alone Answerer d then Some (other d.side) else None

-- the end of a connection: a gap after the last packet, and the circuit
abbrev pub has_packet : Dialogue → Bool
has_packet d = d.senders.opener || d.senders.answerer

abbrev pub last_gap : Dialogue → List Item
last_gap d = if has_packet d then gap_items d.gap else []

abbrev pub ended : Ends → (connection : ℕ) → Option Recorded → ExchangeView → List Item
ended e n r x = last_gap x.dialogue ++ Ended (record { connection = n; ends = e; opener = x.dialogue.side; recorded = r; circuit = x.dialogue.circuit; alone = alone x.dialogue }) ∷ []

-- all that comes next in a connection
abbrev pub events_read : (connection : ℕ) → List Event → ExchangeView → Step
events_read n [] x = record { after = x; items = [] }
events_read n (e ∷ es) x = let s = event_read n e x in
    let t = events_read n es s.after in record { after = t.after; items = s.items ++ t.items }
