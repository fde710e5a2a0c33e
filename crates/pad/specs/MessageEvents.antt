-- Messages of the call, and the sets among them.
use Rattle.std.specs.Prelude.{ℕ, Bool, true, false, ◌==◌, List, [], ◌∷◌, length, Option, Some, None}
use Rattle.std.specs.List.{list_any}
use Rattle.line_model.specs.declared.state.Side.{Side}
use Rattle.line_model.specs.declared.finding.Xcode.{Xcode}
use Rattle.line_model.specs.declared.finding.Xcode.TheVariants.{X3}
use Rattle.line_model.specs.declared.event.What.{What}
use Rattle.line_model.specs.declared.event.What.TheVariants.{Initial}
use Rattle.line_model.specs.channels.Channels.{PadMessage}
use Rattle.line_model.specs.channels.Pad.{is_refusable}
use Rattle.pad.specs.declared.message.Message.{Message}
use Rattle.pad.specs.Codes.{octets_of}
use Rattle.pad.specs.Pairs.{pairs_before}
use Rattle.pad.specs.Effects.{all_asked}

-- a message from a side
abbrev pub pad_message : Side → Message → PadMessage
pad_message x m = record { from = x; message = octets_of m.code m.pairs.now }

-- the fault of the octets after the code of a set: X3 (X.3 Table 1)
abbrev pub set_fault : List ℕ → Option Xcode
set_fault octets = elim (list_any is_refusable (pairs_before false octets)) [ true ↦ Some X3 | false ↦ None ]

-- what they do: without any, all parameters are unknown (X.29 clause 4.4.1)
abbrev pub set_events_by : (bare : Bool) → Side → List ℕ → List What
set_events_by true pad octets = Initial pad ∷ []
set_events_by false pad octets = all_asked pad octets

-- what the octets after the code of a set do
abbrev pub set_events : Side → List ℕ → List What
set_events pad octets = set_events_by (length octets == 0) pad octets
