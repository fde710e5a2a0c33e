-- Events of one row on a channel.
use Rattle.std.specs.Prelude.{◌≡◌, ℕ, List, [], ◌∷◌, ◌++◌, map, Option, Some, None}
use Rattle.line_model.specs.declared.event.Event.{Event}
use Rattle.line_model.specs.declared.event.What.{What}
use Rattle.line_model.specs.declared.event.What.TheVariants.{Data}
use Rattle.line_model.specs.declared.state.Side.{Side}
use Rattle.line_model.specs.basics.Records.{Item}
use Rattle.channel_machine.specs.declared.events.EventOrigin.{EventOrigin}

-- the origin of the events of a row on a channel
abbrev pub origin_at : (epoch channel : ℕ) → Item → EventOrigin
origin_at e n r = record { epoch = e; channel = n; packet = r.number }

-- an event of a row on a channel
abbrev pub event_at : EventOrigin → What → Event
event_at s w = record { epoch = s.epoch; channel = s.channel; packet = s.packet; what = w }

-- the content of the event of a data packet that was accepted, by its octets of user data, if there is such a packet
abbrev pub data_of : Side → Option ℕ → List What
data_of x (Some n) = Data x n ∷ []
data_of x None = []

-- events and more of them
abbrev pub Reports : EventOrigin → (old new : List Event) → List What → Type 0
Reports s old new ws = new ≡ old ++ map (event_at s) ws
