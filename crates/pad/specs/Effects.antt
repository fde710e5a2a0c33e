-- What messages do to the parameters of a PAD (X.29 clause 4.4, X.3).
use Rattle.std.specs.Prelude.{ℕ, Bool, true, false, ◌==◌, ◌&&◌, ◌||◌, List, [], ◌∷◌, ◌++◌, map, filter, filter_map, reverse, slice_get, unwrap_or, Option, Some, None, if◌then◌else◌}
use Rattle.line_model.specs.declared.state.Side.{Side}
use Rattle.line_model.specs.declared.finding.Xcode.{Xcode}
use Rattle.line_model.specs.declared.event.Entry.{Entry}
use Rattle.line_model.specs.declared.event.Entry.TheVariants.{Unknown}
use Rattle.line_model.specs.declared.event.What.{What}
use Rattle.line_model.specs.declared.event.What.TheVariants.{Setting, Initial}
use Rattle.line_model.specs.basics.Octets.{bits}
use Rattle.line_model.specs.channels.Channels.{PadMessage, other}
use Rattle.line_model.specs.channels.FlowControl.{is_side}
use Rattle.line_model.specs.channels.Pad.{message_fault, settings_after, is_indication, is_set, is_parameter, indicated, asked, Pair}
use Rattle.pad.specs.Pairs.{pairs_before}

-- what a content of an event says of a parameter, if anything (X.3)
abbrev pub said : Side → ℕ → What → Option Entry
said pad n w = elim w [
  | Setting p q x ↦ (if is_side p pad && q == n then Some x else None)
  | Initial p ↦ (if is_side p pad then Some Unknown else None)
  | _ ↦ None
]

-- the entry of a parameter: what the last content about it says (X.3)
abbrev pub entry_at : Side → ℕ → List What → Entry
entry_at pad n ws = unwrap_or (slice_get (filter_map (said pad n) (reverse ws)) 0) Unknown

-- what messages do, the latest of them first (X.29 clause 4.4)
abbrev pub events_back : List PadMessage → List What
events_back [] = []
events_back (t ∷ earlier) =
    events_back earlier ++ settings_after (message_fault t.from (reverse earlier) t.message) t.from t.message

-- what messages do, in order (X.29 clause 4.4)
abbrev pub events_of : List PadMessage → List What
events_of ts = events_back (reverse ts)

-- whether a message is an indication of a PAD, or sets its parameters (X.29 clause 4.4)
abbrev pub concerns : Side → PadMessage → Bool
concerns pad t = (is_side pad t.from && is_indication t.message) || (is_side (other pad) t.from && is_set t.message)

-- the fault of a well formed message that the settings of a PAD decide: X4 or X3 (profile)
abbrev pub own_fault : Side → List PadMessage → PadMessage → Option Xcode
own_fault pad ts t = elim (concerns pad t) [ true ↦ message_fault t.from ts t.message | false ↦ None ]

-- what a pair of an indication says, if anything (X.29 clause 4.4.6)
abbrev pub indicated_one : Side → Pair → List What
indicated_one pad p = if is_parameter (bits 7 1 p.reference) then indicated pad p ∷ [] else []

-- what a pair of a set asks of a PAD, if anything (X.29 clause 4.4.1)
abbrev pub asked_one : Side → Pair → List What
asked_one pad p = if is_parameter p.reference then asked pad p ∷ [] else []

-- what the pairs of an indication say (X.29 clause 4.4.6)
abbrev pub all_indicated : Side → List ℕ → List What
all_indicated pad octets = map (indicated pad) (filter (λ p. is_parameter (bits 7 1 p.reference)) (pairs_before true octets))

-- what the pairs of a set ask of a PAD (X.29 clause 4.4.1)
abbrev pub all_asked : Side → List ℕ → List What
all_asked pad octets = map (asked pad) (filter (λ p. is_parameter p.reference) (pairs_before false octets))
