-- Calls, by a finished list of events (X.25 clause 4; the record is profile).
use Rattle.std.specs.Prelude.{ℕ, Bool, true, false, not, ◌==◌, ◌&&◌, ◌||◌, ◌+◌, ◌/◌, List, [], ◌∷◌, map, filter, filter_map, find, reverse, take_while, flat_map, sum, length, slice_get, Option, Some, None, option_map, option_and_then, unwrap_or, if◌then◌else◌}
use Rattle.line_model.specs.declared.state.Side.{Side}
use Rattle.line_model.specs.declared.state.Side.TheVariants.{T, N}
use Rattle.line_model.specs.declared.event.Entry.{Entry}
use Rattle.line_model.specs.declared.event.Entry.TheVariants.{Unknown}
use Rattle.line_model.specs.declared.event.What.{What}
use Rattle.line_model.specs.declared.event.What.TheVariants.{Open, Up, End, Data, Setting, Initial}
use Rattle.line_model.specs.declared.event.Event.{Event}
use Rattle.line_model.specs.declared.call.SettingRecord.{SettingRecord}
use Rattle.line_model.specs.basics.Records.{CallRecord}
use Rattle.std.specs.List.{range_with_len}
use Rattle.line_model.specs.channels.FlowControl.{is_side}
use Rattle.line_model.specs.observer.Peak.{Times, how_many, is_up_at}

-- whether an event opens a call
abbrev pub is_opening : Event → Bool
is_opening e = elim e.what [ Open o a b r ↦ true | _ ↦ false ]

-- what comes up, and what ends
abbrev pub is_up_event : What → Bool
is_up_event Up = true
is_up_event _ = false

-- whether a content ends a call
abbrev pub is_end_event : What → Bool
is_end_event (End h) = true
is_end_event _ = false

-- whether an event brings a call up
abbrev pub is_up : Event → Bool
is_up e = is_up_event e.what

-- whether an event ends a call
abbrev pub is_end : Event → Bool
is_end e = is_end_event e.what

-- two events on one channel in one epoch
abbrev pub is_alongside : Event → Event → Bool
is_alongside e f = e.epoch == f.epoch && e.channel == f.channel

-- the end of a call: the first after its opening
abbrev pub end_of : Event → List Event → Option Event
end_of e later = find is_end (filter (is_alongside e) later)

-- the events that belong to a call: up to its end, or to the next opening
abbrev pub members : Event → List Event → List Event
members e later = take_while (λ f. not (is_end f || is_opening f)) (filter (is_alongside e) later)

-- the lengths of the data packets of a side
abbrev pub lengths_from : Side → List Event → List ℕ
lengths_from x es = filter_map (λ e. elim e.what [ Data y n ↦ (if is_side x y then Some n else None) | _ ↦ None ]) es

-- the lengths of the data packets of both sides
abbrev pub all_lengths : List Event → List ℕ
all_lengths es = filter_map (λ e. elim e.what [ Data y n ↦ Some n | _ ↦ None ]) es

-- segments of 64 octets, rounded up
abbrev pub segments_of : List ℕ → ℕ
segments_of ns = sum (map (λ n. (n + 63) / 64) ns)

-- what an event says of a parameter, if anything
abbrev pub entry_said : Side → ℕ → Event → Option Entry
entry_said pad n e = elim e.what [
  | Setting p q x ↦ (if is_side p pad && q == n then Some x else None)
  | Initial p ↦ (if is_side p pad then Some Unknown else None)
  | _ ↦ None
]

-- the entry of a parameter: what the last event about it says (X.3)
abbrev pub entry_of : Side → ℕ → List Event → Entry
entry_of pad n es = unwrap_or (slice_get (filter_map (entry_said pad n) (reverse es)) 0) Unknown

-- whether anything is known of a parameter
abbrev pub is_known : Entry → Bool
is_known Unknown = false
is_known _ = true

-- the settings that are known, side T first, by parameter
abbrev pub settings_of : List Event → List SettingRecord
settings_of es =
    filter (λ s. is_known s.entry)
    (flat_map (λ pad. map (λ n. record { pad = pad; parameter = n; entry = entry_of pad n es }) (range_with_len 1 22)) (T ∷ N ∷ []))

-- the record of the call that an event opens, by the events after it
abbrev pub record_of : Event → (out : Bool) → (called calling : List ℕ) → (reverse : Bool) → List Event → CallRecord
record_of e out called calling reverse_charging later =
    let own : List Event = members e later in
    record {
      epoch = e.epoch;
      channel = e.channel;
      out = out;
      called = called;
      calling = calling;
      reverse = reverse_charging;
      up = option_map (λ f. f.packet) (find is_up own);
      opened = e.packet;
      ended = option_map (λ f. f.packet) (end_of e later);
      how = option_and_then (λ f. elim f.what [ End h ↦ Some h | _ ↦ None ]) (end_of e later);
      data_t = length (lengths_from T own);
      oct_t = sum (lengths_from T own);
      data_n = length (lengths_from N own);
      oct_n = sum (lengths_from N own);
      segments = segments_of (all_lengths own);
      settings = settings_of own;
    }

-- the calls, in the order in which they were opened
abbrev pub calls_of : List Event → List CallRecord
calls_of [] = []
calls_of (e ∷ later) = elim e.what [
  | Open o a b r ↦ record_of e o a b r later ∷ calls_of later
  | _ ↦ calls_of later
]

-- from when to when a call is up, if it came up
abbrev pub up_times : CallRecord → Option Times
up_times c = option_map (λ u. record { up = u; ended = c.ended }) c.up

-- how many of some calls are up at a time
abbrev pub up_at : List CallRecord → ℕ → ℕ
up_at cs n = how_many (is_up_at n) (filter_map up_times cs)
