-- The events of a row on a channel.
use Rattle.std.specs.Prelude.{ℕ, List, [], ◌∷◌, Option, Some, None, map}
use Rattle.line_model.specs.declared.interface.Interface.{Interface}
use Rattle.line_model.specs.declared.event.Event.{Event}
use Rattle.line_model.specs.declared.event.What.TheVariants as what
use Rattle.line_model.specs.declared.piece.PieceEnd.{PieceEnd}
use Rattle.line_model.specs.basics.Records.{Item}
use Rattle.line_model.specs.channels.Gaps.{GapChannel}
use Rattle.line_model.specs.observer.MachineEvents.{stamp}
use Rattle.line_model.specs.observer.Observer.{epoch_end, event_of, row_step}
use Rattle.line_model.specs.pieces.Plans.{row_of_end}

-- the events of a row on a channel in an epoch
abbrev pub row_events : Interface → (epoch channel : ℕ) → GapChannel → Item → List Event
row_events i e k g r = map event_of (stamp e (Some k) r (row_step i k g r).reported)

-- the event of a data packet that was accepted, by its octets of user data, if there is such a packet
abbrev pub data_events : (epoch channel : ℕ) → Item → Option ℕ → List Event
data_events e k r (Some n) = record { epoch = e; channel = k; packet = r.number; what = what.Data r.side n } ∷ []
data_events e k r None = []

-- the events with which the row that ends the epoch ends it for a channel
abbrev pub end_events : (epoch channel : ℕ) → Option PieceEnd → GapChannel → List Event
end_events e k None g = []
end_events e k (Some n) g = map event_of (stamp e (Some k) (row_of_end n) (epoch_end g (row_of_end n)))
