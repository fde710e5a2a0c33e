-- What the rows of a trace count under a header.
use Rattle.std.specs.Prelude.{◌≡◌, ℕ, ◌<◌, ◌≤◌, ◌+◌, nat_lt, Bool, true, false, not, ◌&&◌, List, [], ◌∷◌, ◌++◌, length, sum_by, Option, Some, None, if◌then◌else◌}
use Rattle.line_model.specs.basics.Records.{Item, ReadRow}
use Rattle.line_model.specs.declared.gap.EpochStart.{EpochStart}
use Rattle.line_model.specs.channels.Gaps.{GapChannel, fresh_at, gap_step}
use Rattle.line_model.specs.declared.event.Event.{Event}
use Rattle.line_model.specs.declared.interface.Interface.{Interface}
use Rattle.line_model.specs.observer.Machine.{with_state}
use Rattle.line_model.specs.observer.Observer.{row_step, start}
use Rattle.line_model.specs.observer.Report.{report_of}
use Rattle.line_model.specs.packets.Says.{item_read}
use Rattle.channel_run.specs.Run.{row_events}
use Rattle.channel_run.specs.declared.run.Channel.{Ghosts as Machine}
use Rattle.restart_epochs.specs.Cutting.{observer}
use Rattle.restart_epochs.specs.ChannelTables.{no_open_channels, value_at}
use Rattle.restart_epochs.specs.declared.walk.ChannelEffect.{ChannelEffect}
use Rattle.restart_epochs.specs.declared.walk.ChannelEffect.TheVariants.{ToAll, ToChannel}
use Rattle.live_report.specs.Observing.{AreItems}
use Rattle.live_report.specs.Uncounted.{counts_data, is_data, left_out, user_octets}
use Rattle.header_trials.specs.Reactions.{watched}
use Rattle.header_trials.specs.declared.trial.TrialCounts.{TrialCounts}
use Rattle.header_trials.specs.declared.trial.Trial.{Trial}
use Rattle.header_trials.specs.declared.tried_channels.TriedChannel.{TriedChannel}
use Rattle.header_trials.specs.declared.tried_channels.TriedChannels.{TriedChannels}

-- ---- the definition

-- the findings of the walk over some rows, and the data packets that it leaves out, with their octets of user data
abbrev pub tally_of : Interface → List Item → TrialCounts
tally_of i rs = record {
  findings = length (report_of i rs).findings;
  packets = length (left_out i (start i) rs);
  octets = sum_by (λ d. d.octets) (left_out i (start i) rs);
}

-- ---- what a trial keeps

-- no logical channel has rows, and no gap of all channels came
abbrev pub no_channels : {A C : Type 0} → TriedChannels A C
no_channels = record { open_channels = no_open_channels; gaps = 0 }

-- a logical channel once it applies the gaps of all channels that it has not applied: several do what one does
abbrev pub caught_up : Interface → (channel : ℕ) → (is_behind : Bool) → GapChannel → GapChannel
caught_up i k true g = gap_step i k true g
caught_up i k false g = g

-- of `gaps` gaps of all channels a logical channel applied all, and represents this state
pub record IsCaughtUp {A C : Type 0} (m : Machine C A) (i : Interface) (gaps channel : ℕ) (state : GapChannel) (c : TriedChannel C) : Type 0 where
  pub interface : m.interface_of c.machine ≡ i
  pub number : m.number_of c.machine ≡ channel
  pub taken : c.gaps ≡ gaps
  pub represented : m.represents c.machine state

-- it represents this state once it applies those that it has not applied
pub record IsChannel {A C : Type 0} (m : Machine C A) (i : Interface) (gaps channel : ℕ) (state : GapChannel) (c : TriedChannel C) : Type 0 where
  pub interface : m.interface_of c.machine ≡ i
  pub number : m.number_of c.machine ≡ channel
  pub taken : c.gaps ≤ gaps
  pub before : GapChannel
  pub represented : m.represents c.machine before
  pub state_is : state ≡ caught_up i channel (nat_lt c.gaps gaps) before

-- the entry of an open channel represents its logical channel; where nothing does, it has no rows in its epoch
abbrev pub IsOpenChannelOf : {A C : Type 0} → Machine C A → Interface → EpochStart → (epoch gaps channel : ℕ) → GapChannel → Option (TriedChannel C) → Type 0
IsOpenChannelOf m i start e gaps k state None = state ≡ caught_up i k (nat_lt 0 gaps) (fresh_at i start e k)
IsOpenChannelOf m i start e gaps k state (Some c) = IsChannel m i gaps k state c

-- the open channels of an epoch represent the states of its logical channels
pub record AreChannels {A C : Type 0} (m : Machine C A) (i : Interface) (start : EpochStart) (epoch : ℕ) (states : ℕ → GapChannel) (channels : TriedChannels A C) : Type 0 where
  pub each : (k : ℕ) → IsOpenChannelOf m i start epoch channels.gaps k (states k) (value_at channels.open_channels k)
  pub recorded : 0 < channels.gaps → i.gaps ≡ true

-- the states of the logical channels after a row
abbrev pub states_after : ChannelEffect → Interface → (ℕ → GapChannel) → Item → ℕ → GapChannel
states_after (ToChannel k) i states r = with_state states k (row_step i k (states k) r).after
states_after ToAll i states r = λ k. gap_step i k true (states k)
states_after _ i states r = states

-- the events of the logical channel that receives a row
abbrev pub events_after : ChannelEffect → Interface → (epoch : ℕ) → (ℕ → GapChannel) → Item → List Event
events_after (ToChannel k) i e states r = row_events i e k (states k) r
events_after _ i e states r = []

-- the length of the user data of a row that is a data packet and whose events count no data; nothing for another row
abbrev pub uncounted_in : Interface → Item → List Event → List ℕ
uncounted_in i r es = if is_data r.packet && not (counts_data es) then user_octets i r.length ∷ [] else []

-- its numbers stay within their types
pub record IsFew {A C : Type 0} (rs : List Item) (t : Trial A C) : Type 0 where
  pub epochs : t.walk.epoch ≤ length rs + 1
  pub rows : t.walk.packets ≤ length rs
  pub gaps : t.walk.gaps ≤ length rs
  pub gaps_of_all : t.channels.gaps ≤ length rs
  pub findings : t.tally.findings ≤ length rs
  pub uncounted : t.tally.packets ≤ length rs
  pub octets : t.tally.octets ≤ sum_by (λ r. r.length) rs

-- a trial walked what some rows say under a header: it is where the observer is, and counted what the walk does
pub record HasWalked {A C : Type 0} (m : Machine C A) (i : Interface) (rs : List Item) (t : Trial A C) : Type 0 where
  pub interface : t.walk.interface ≡ i
  pub level : t.walk.machine ≡ (observer i rs).level
  pub epoch : t.walk.epoch ≡ (observer i rs).epoch
  pub channels : AreChannels m i t.walk.start (observer i rs).epoch (observer i rs).states t.channels
  pub tally : t.tally ≡ tally_of i rs
  pub watch : t.watch ≡ watched i rs
  pub few : IsFew rs t

-- it walked other rows, and this one may come after them
abbrev pub MayWalk : {A C : Type 0} → Machine C A → ReadRow → Trial A C → Type 0
MayWalk m row t = (i : Interface) × (rs : List Item) × HasWalked m i rs t × AreItems i (rs ++ item_read i row ∷ [])
