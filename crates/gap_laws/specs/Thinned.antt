-- Recordings from which rows are missing.
use Rattle.std.specs.Prelude.{◌≡◌, ◌⊎◌, ◌==◌, ◌&&◌, ◌++◌, ◌∷◌, [], filter, map, ℕ, Bool, true, false, List, Option, Some, None}
use Rattle.std.specs.List.{AllByRecursion, flat_map}
use Rattle.line_model.specs.declared.event.Event.{Event}
use Rattle.line_model.specs.declared.event.What.{What}
use Rattle.line_model.specs.declared.event.What as what
use Rattle.line_model.specs.declared.interface.Interface.{Interface}
use Rattle.line_model.specs.declared.packet.Class.{Class}
use Rattle.line_model.specs.declared.packet.Class.TheVariants.{Call}
use Rattle.line_model.specs.declared.packet.Packet.{Packet}
use Rattle.line_model.specs.declared.packet.Packet as packet
use Rattle.line_model.specs.declared.packet.PacketKind as kind
use Rattle.line_model.specs.declared.state.Side.TheVariants.{T}
use Rattle.line_model.specs.basics.Records.{Item, Row}
use Rattle.line_model.specs.packets.Classes.{packet_class}
use Rattle.line_model.specs.packets.Facilities.{fields_of}
use Rattle.line_model.specs.packets.Says.{gap_of, header_in, item_of, packet_channel}
use Rattle.line_model.specs.channels.Channels.{is_permanent}
use Rattle.line_model.specs.channels.FlowControl.{is_side}
use Rattle.line_model.specs.declared.gap.EpochStart.TheVariants.{Restarted}
use Rattle.line_model.specs.channels.Gaps.{GapChannel, fresh_at}
use Rattle.line_model.specs.channels.GapStep.{data_reported}
use Rattle.line_model.specs.channels.GapRestart.{GapInterfaceState, level_in_r1_with}
use Rattle.line_model.specs.observer.Machine.{Observer}
use Rattle.line_model.specs.observer.MachineEvents.{walk_events}
use Rattle.line_model.specs.observer.Observer.{event_of, events, start, x25}
use Rattle.line_model.specs.observer.Report.{findings_of}

-- the channel of a packet that has one
abbrev pub own_channel : Packet → Option ℕ
own_channel (packet.TheVariants.Channel k p) = Some k
own_channel p = None

-- the rows that a gap may stand for: those of its channel, or any
abbrev pub Covers : Option (Option ℕ) → List Item → Type 0
Covers None run = ⊥
Covers (Some None) run = Unit {0}
Covers (Some (Some k)) run = AllByRecursion (λ r. own_channel r.packet ≡ Some k) run

-- the second recording is the first one with gaps in place of some runs of rows
abbrev pub IsThinned : List Item → List Item → Type 0
IsThinned xs [] = xs ≡ []
IsThinned xs (y ∷ ys) =
    ((rest : List Item) × (xs ≡ y ∷ rest) × IsThinned rest ys)
    ⊎ ((run rest : List Item) × (xs ≡ run ++ rest) × Covers (gap_of y.packet) run × IsThinned rest ys)

-- a recording that was thinned may be thinned again
abbrev pub ThinsAgain : Type 0
ThinsAgain = (xs ys zs : List Item) → IsThinned xs ys → IsThinned ys zs → IsThinned xs zs

-- what a row says that is no gap
abbrev pub IsSaid : Interface → Item → Type 0
IsSaid i x = (r : Row) × (r.gap ≡ None) × (x ≡ item_of i r)

-- a packet of data transfer
abbrev pub is_of_transfer : Packet → Bool
is_of_transfer (packet.TheVariants.Channel k (kind.TheVariants.Data h)) = true
is_of_transfer (packet.TheVariants.Channel k (kind.TheVariants.Rr n)) = true
is_of_transfer (packet.TheVariants.Channel k (kind.TheVariants.Rnr n)) = true
is_of_transfer (packet.TheVariants.Channel k kind.TheVariants.Interrupt) = true
is_of_transfer (packet.TheVariants.Channel k kind.TheVariants.InterruptConfirm) = true
is_of_transfer p = false

-- one on a permanent circuit
abbrev pub is_transfer_row : Interface → Item → Bool
is_transfer_row i r = is_of_transfer r.packet && is_permanent i (packet_channel r.packet)

-- the walk over some rows has no finding
abbrev pub AccusesNobody : Interface → List Item → Type 0
AccusesNobody i rs = findings_of (events i rs) ≡ []

-- the first list has some elements of the second one, in their order
abbrev pub IsPart : {A : Type 0} → List A → List A → Type 0
IsPart {A} [] bs = Unit {0}
IsPart {A} (a ∷ rest) bs = (front back : List A) × (bs ≡ front ++ a ∷ back) × IsPart rest back

-- in data transfer the recording with gaps says nothing that the whole one doesn't say, and so counts no more
abbrev pub CountingLaw : Type 0
CountingLaw = (i : Interface) (xs ys : List Item) → i.join ≡ false → AllByRecursion (IsSaid i) xs → AllByRecursion (λ r. is_transfer_row i r ≡ true) xs
    → IsThinned xs ys → AccusesNobody i xs → IsPart (events i ys) (events i xs)

-- nobody is accused by what was not recorded
abbrev pub ThinningLaw : Type 0
ThinningLaw = (i : Interface) (xs ys : List Item) → i.join ≡ false → AllByRecursion (IsSaid i) xs
    → IsThinned xs ys → AccusesNobody i xs → AccusesNobody i ys

-- the observer of an interface that has just restarted: where the recording doesn't begin in the middle, it starts so
abbrev pub restarted : Interface → Observer GapInterfaceState GapChannel
restarted i = record { epoch = 1; level = level_in_r1_with false false; states = fresh_at i Restarted 1 }

-- the walk from there over some rows has no finding
abbrev pub AccusesNobodyFromRestart : Interface → List Item → Type 0
AccusesNobodyFromRestart i rs = findings_of (map event_of (walk_events (x25 i) (restarted i) rs)) ≡ []

-- nor where the recording begins in the middle of some rows
abbrev pub JoinedLaw : Type 0
JoinedLaw = (i : Interface) (before rest ys : List Item) → i.join ≡ true → i.gaps ≡ true → AllByRecursion (IsSaid i) (before ++ rest)
    → IsThinned rest ys → AccusesNobodyFromRestart i (before ++ rest) → AccusesNobody i ys

-- without JOIN the observer starts as after a restart
abbrev pub RestartedLaw : Type 0
RestartedLaw = (i : Interface) → i.join ≡ false → start i ≡ restarted i

-- whether an event counts a call or a data packet
abbrev pub is_count : What → Bool
is_count (what.TheVariants.Open o a b r) = true
is_count (what.TheVariants.Data x n) = true
is_count w = false

-- the call that a packet of a class may open
abbrev pub call_of : Class → Item → List What
call_of Call r = what.TheVariants.Open (is_side T r.side) (fields_of r.octets).called (fields_of r.octets).calling (fields_of r.octets).reverse_charging ∷ []
call_of k r = []

-- the most that a row may count: its call or its data
abbrev pub most_of : Interface → Item → List What
most_of i r = call_of (packet_class r.packet) r ++ data_reported i r (header_in r.packet)

-- the calls and the data packets that the walk over some rows counts, each with its channel
abbrev pub counted : Interface → List Item → List (ℕ × What)
counted i rs = map (λ (e : Event). (e.channel, e.what)) (filter (λ (e : Event). is_count e.what) (events i rs))

-- the most that some rows may count
abbrev pub sent : Interface → List Item → List (ℕ × What)
sent i rs = flat_map (λ r. map (λ w. (packet_channel r.packet, w)) (most_of i r)) rs

-- a recording with gaps counts no call and no data packet that the whole one doesn't have, and each at most once
abbrev pub BoundLaw : Type 0
BoundLaw = (i : Interface) (xs ys : List Item) → IsThinned xs ys → IsPart (counted i ys) (sent i xs)

-- whether packets on a channel may be missing at a row
abbrev pub may_miss : (channel : ℕ) → Packet → Bool
may_miss k (packet.TheVariants.Channel c kind.TheVariants.Gap) = c == k
may_miss k packet.TheVariants.GapOfAll = true
may_miss k p = false

-- the events of a channel in the walk over some rows
abbrev pub events_on : Interface → (channel : ℕ) → List Item → List Event
events_on i k rs = filter (λ (e : Event). e.channel == k) (events i rs)

-- a channel of which nothing is missing has the events of the whole walk
abbrev pub SameEventsLaw : Type 0
SameEventsLaw = (i : Interface) (k : ℕ) (xs ys : List Item) → i.join ≡ false → AllByRecursion (λ r. gap_of r.packet ≡ None) xs → AllByRecursion (λ r. may_miss k r.packet ≡ false) ys
    → IsThinned xs ys → AccusesNobody i xs → events_on i k ys ≡ events_on i k xs
