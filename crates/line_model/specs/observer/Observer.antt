-- The observer of an interface: the restart machine is its interface level, and each channel has a state of its own
-- (X.25 clauses 3 to 6, by the tables of Annexes B and C).
use Rattle.std.specs.Prelude.{ℕ, Bool, true, false, ◌&&◌, not, List, [], ◌∷◌, map, Option, Some, None, is_none}
use Rattle.std.specs.List.{range_with_len}
use Rattle.std.specs.Option.{option_map_or}
use Rattle.line_model.specs.declared.interface.Interface.{Interface}
use Rattle.line_model.specs.declared.state.StateName.TheVariants.{R1}
use Rattle.line_model.specs.declared.route.Route.{Route}
use Rattle.line_model.specs.declared.route.Route as route
use Rattle.line_model.specs.declared.finding.Code.TheVariants.{Number}
use Rattle.line_model.specs.declared.event.How.{How}
use Rattle.line_model.specs.declared.event.How as how
use Rattle.line_model.specs.declared.event.What.{What}
use Rattle.line_model.specs.declared.event.What.TheVariants.{Found, End}
use Rattle.line_model.specs.declared.event.Event.{Event}
use Rattle.line_model.specs.basics.Records.{Item}
use Rattle.line_model.specs.packets.Classes.{packet_class}
use Rattle.line_model.specs.packets.Says.{gap_of, packet_channel}
use Rattle.line_model.specs.channels.RestartMachine.{is_confirm, level_in_r1}
use Rattle.line_model.specs.channels.GapRestart.{GapInterfaceState, is_gap_of_all, is_ready, level_in_r1_with, routing, start_by}
use Rattle.line_model.specs.channels.Channels.{is_permanent, is_open, is_in_transfer}
use Rattle.line_model.specs.channels.Gaps.{GapChannel, fresh_at, gap_step}
use Rattle.line_model.specs.channels.GapStep.{GapOutcome, gap_channel_step}
use Rattle.line_model.specs.observer.Machine.{Machine, Observer}
use Rattle.line_model.specs.observer.MachineEvents.{RowEvent, walk_events}
use Rattle.line_model.specs.observer.Peak.{counts, highest}

-- the channel that a route hands a row to, if it does
abbrev pub handed : Route → (channel : ℕ) → Option ℕ
handed route.TheVariants.ToChannel k = Some k
handed _ k = None

-- the channel that a row is handed to in r1
abbrev pub channel_in_r1 : Item → Option ℕ
channel_in_r1 r = handed (routing (level_in_r1_with false false) r).route (packet_channel r.packet)

-- the finding of the restart machine
abbrev pub route_found : Item → Route → List What
route_found r (route.TheVariants.Found s n) = Found r.side s (Number n) ∷ []
route_found r (route.TheVariants.Leave (Some n)) = Found r.side R1 (Number n) ∷ []
route_found r _ = []

-- whether a route ends an epoch and begins the next one at once
abbrev pub is_renewal : Route → Bool
is_renewal route.TheVariants.Renew = true
is_renewal _ = false

-- what a row does to its channel: a gap, or a packet
abbrev pub step_by : Option (Option ℕ) → Interface → (channel : ℕ) → GapChannel → Item → GapOutcome
step_by None i k g r = gap_channel_step i k g r
step_by (Some c) i k g r = record { reported = []; after = gap_step i k (is_none c) g }

-- the same by the row alone
abbrev pub row_step : Interface → (channel : ℕ) → GapChannel → Item → GapOutcome
row_step i k g r = step_by (gap_of r.packet) i k g r

-- whether a row confirms a restart
abbrev pub is_confirmation : Item → Bool
is_confirmation r = is_confirm (packet_class r.packet)

-- how the calls of an epoch end with it: a confirmation in an interface adrift shows that their restart was missed
abbrev pub end_of_epoch : (missed : Bool) → How
end_of_epoch true = how.TheVariants.Gap
end_of_epoch false = how.TheVariants.Restart

-- the end of the call of a channel, if one is open
abbrev pub epoch_end_if : (open_call : Bool) → How → List What
epoch_end_if true h = End h ∷ []
epoch_end_if false h = []

-- the end of the call of a channel at the row that ends the epoch
abbrev pub epoch_end : GapChannel → Item → List What
epoch_end g r = epoch_end_if (is_open g.channel) (end_of_epoch (g.restarting && is_confirmation r))

-- the machine of an interface: entering r1 makes all channels fresh and begins the next epoch, leaving it ends the open calls;
-- a gap of all channels reaches each of them
abbrev pub x25 : Interface → Machine Item GapInterfaceState GapChannel What
x25 i = record {
  channel = channel_in_r1;
  for_all = is_gap_of_all;
  ready = is_ready;
  level_after = λ g r. (routing g r).after;
  level_events = λ e g r. route_found r (routing g r).route;
  renews = λ g r. is_renewal (routing g r).route;
  start_of = start_by;
  fresh = fresh_at i;
  channel_after = λ e k s r. (row_step i k s r).after;
  channel_events = λ e k s r. (row_step i k s r).reported;
  closing_events = λ e k s r. epoch_end s r;
  channels = range_with_len 1 i.svc;
}

-- the restart machine before the first row: where gaps are recorded, a recording that begins in the middle begins with one
abbrev pub first_level : Interface → GapInterfaceState
first_level i = record { level = level_in_r1 (i.join && not i.gaps); adrift = i.join && i.gaps; owed_before = false }

-- the observer before the first row
abbrev pub start : Interface → Observer GapInterfaceState GapChannel
start i = record { epoch = 1; level = first_level i; states = fresh_at i (start_by (first_level i)) 1 }

-- an event with the number of its row; those of the restart machine have channel 0
abbrev pub event_by : {X : Type 0} → (X → ℕ) → RowEvent X What → Event
event_by number v = record { epoch = v.epoch; channel = option_map_or (λ c. c) v.channel 0; packet = number v.row; what = v.what }

-- an event as it is reported
abbrev pub event_of : RowEvent Item What → Event
event_of v = event_by (λ (r : Item). r.number) v

-- the events of the walk over a trace
abbrev pub events : Interface → List Item → List Event
events i rs = map event_of (walk_events (x25 i) (start i) rs)

-- whether a virtual channel is in p4
abbrev pub is_up : Interface → ℕ → GapChannel → Bool
is_up i k g = not (is_permanent i k) && is_in_transfer g.channel

-- the greatest number of virtual channels in p4 after any row, and the first such row (profile)
abbrev pub peak : Interface → List Item → ℕ × Option ℕ
peak i rs = highest (counts (x25 i) (is_up i) (λ r. r.number) (start i) rs)
