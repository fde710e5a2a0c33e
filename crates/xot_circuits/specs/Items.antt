-- What contracts see of the items of a recording.
use Rattle.std.specs.Prelude.{ℕ, List}
use Rattle.line_model.specs.declared.state.Side.{Side}
use Rattle.xot_circuits.specs.declared.circuit.What.{What}
use Rattle.xot_circuits.specs.declared.item.CircuitGap.{CircuitGap}
use Rattle.xot_circuits.specs.declared.item.EndedCircuit.{EndedCircuit}
use Rattle.xot_circuits.specs.declared.item.Item as declared
use Rattle.xot_circuits.specs.declared.item.Origin.{Origin}
use Rattle.xot_circuits.specs.declared.item.Sent as declared_sent

-- a packet in a connection
pub record Sent : Type 0 where
  pub origin : Origin
  pub side : Side
  pub what : What
  pub octets : List ℕ

pub data Item : Type 0 where
  Packet : Sent → Item
  Gap : CircuitGap → Item
  LeftOut : Sent → Item
  Ended : EndedCircuit → Item

abbrev pub sent_view : declared_sent.Sent → Sent
sent_view s = record { origin = s.origin; side = s.side; what = s.what; octets = s.octets.now }

abbrev pub item_view : declared.Item → Item
item_view (declared.TheVariants.Packet s) = Packet (sent_view s)
item_view (declared.TheVariants.Gap g) = Gap g
item_view (declared.TheVariants.LeftOut s) = LeftOut (sent_view s)
item_view (declared.TheVariants.Ended e) = Ended e
