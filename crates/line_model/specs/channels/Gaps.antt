-- Channels of recordings with gaps: what a gap leaves of a channel, and what is certain of it later (profile).
--
-- All other rules follow from one: what a missing packet could explain is not a finding, and what was recorded counts.
use Rattle.std.specs.Prelude.{ℕ, Bool, true, false, not, ◌&&◌, ◌||◌, ◌-◌, List, [], ◌∷◌, Option, Some, None}
use Rattle.line_model.specs.declared.interface.Interface.{Interface}
use Rattle.line_model.specs.declared.state.DState as transfer
use Rattle.line_model.specs.declared.state.PState as setup
use Rattle.line_model.specs.declared.state.ChannelState.{ChannelState}
use Rattle.line_model.specs.declared.state.ChannelState.TheVariants.{Setup, Transfer}
use Rattle.line_model.specs.declared.state.StateName.{StateName}
use Rattle.line_model.specs.declared.state.StateName.TheVariants.{P1, P2, P3, P4}
use Rattle.line_model.specs.declared.gap.Owed.{Owed}
use Rattle.line_model.specs.declared.gap.Owed.TheVariants.{NoIndication, ClearIndication, ResetIndication, RestartIndication}
use Rattle.line_model.specs.declared.gap.LastData.{LastData}
use Rattle.line_model.specs.declared.gap.EpochStart.{EpochStart}
use Rattle.line_model.specs.declared.gap.EpochStart.TheVariants.{Restarted, Drifting}
use Rattle.line_model.specs.channels.Channels.{Channel, Opening, Sides, channel_in, fresh, fresh_state, is_in_transfer, is_open, is_permanent}
use Rattle.line_model.specs.channels.ChannelStep.{entering}

-- whether no indication was owed
abbrev pub is_nothing_owed : Owed → Bool
is_nothing_owed NoIndication = true
is_nothing_owed _ = false

-- of a channel adrift: what was owed at the gap, whether another call may be hidden after the open one, and the last data packet of each
-- side since the last gap, call, clear, reset or reset confirmation
pub record WhileAdrift : Type 0 where
  pub owed : Owed
  pub hidden : Bool
  pub last : Sides (Option LastData)

-- of a settled channel: whether another call may be hidden, and for each side whether these are in doubt: its next P(S),
-- its interrupt, and the packet sequence that it has begun
pub record Doubts : Type 0 where
  pub hidden : Bool
  pub numbers : Sides Bool
  pub interrupts : Sides Bool
  pub sequences : Sides Bool

-- all of a channel is certain; or it is adrift, where the call is certain and whether it came up; or an
-- acknowledgement has settled it, and a few things are in doubt
pub data Certainty : Type 0 where
  Certain : Certainty
  Adrift : WhileAdrift → Certainty
  Settled : Doubts → Certainty

-- a channel of a recording with gaps: what its recorded packets alone show, whether its interface may be restarting, and what is certain
pub record GapChannel : Type 0 where
  pub channel : Channel
  pub restarting : Bool
  pub certainty : Certainty

-- a channel before its first gap
abbrev pub certain : Channel → GapChannel
certain c = record { channel = c; restarting = false; certainty = Certain }

-- the same for both sides
abbrev pub of_both : {A : Type 0} → A → Sides A
of_both x = record { of_t = x; of_n = x }

-- only the call that is open may hide another one
abbrev pub no_doubts : (hidden : Bool) → Doubts
no_doubts h = record { hidden = h; numbers = of_both false; interrupts = of_both false; sequences = of_both false }

-- a channel adrift on which no data packet was seen yet
abbrev pub drifting : Owed → (hidden : Bool) → Certainty
drifting w h = Adrift (record { owed = w; hidden = h; last = of_both None })

-- an acceptance that grants the largest packet sizes and windows: where another call may be hidden, it may have been that
-- call's
abbrev pub largest_terms : Interface → List ℕ
largest_terms i = 0 ∷ 0 ∷ 0x0f ∷ 0 ∷ 6 ∷ 0x42 ∷ 12 ∷ 12 ∷ 0x43 ∷ (i.modulus - 1) ∷ (i.modulus - 1) ∷ []

-- the call that is open under the largest terms; permanent circuits keep those of the header
abbrev pub with_largest_terms : (hidden : Bool) → Interface → Channel → Channel
with_largest_terms true i c = record c { accepting = Some (largest_terms i) }
with_largest_terms false i c = c

-- whether another call may be hidden after the open one, where a gap comes
abbrev pub is_hidden_by_gap : Interface → (channel : ℕ) → Channel → Bool
is_hidden_by_gap i n c = not (is_permanent i n) && is_open c

-- the state of a channel with a call that is not up, by who opened it
abbrev pub waiting_name : Option Opening → StateName
waiting_name None = P1
waiting_name (Some o) = elim o.out [ true ↦ P2 | false ↦ P3 ]

-- the state that says only whether a call is open and whether it came up
abbrev pub idle_name : (in_transfer : Bool) → Option Opening → StateName
idle_name true o = P4
idle_name false o = waiting_name o

-- what a gap leaves of a channel: the call, and whether it came up
abbrev pub left_by_gap : Interface → (channel : ℕ) → Channel → Channel
left_by_gap i n c = with_largest_terms (is_hidden_by_gap i n c) i (entering (idle_name (is_permanent i n || is_in_transfer c) c.opening) false c)

-- the indication that a state owes
abbrev pub indication_of : ChannelState → Owed
indication_of (Setup setup.TheVariants.P7) = ClearIndication
indication_of (Transfer transfer.TheVariants.D3) = ResetIndication
indication_of _ = NoIndication

-- the indication that a channel owes
abbrev pub owed_by : Channel → Owed
owed_by c = elim c.owed [ true ↦ indication_of c.state | false ↦ NoIndication ]

-- what was owed at the gap, or at the one before
abbrev pub owed_at_gap : Certainty → Channel → Owed
owed_at_gap (Adrift a) c = a.owed
owed_at_gap _ c = owed_by c

-- a gap of the channel, or of all channels of the interface: then the interface may be restarting, for the rest of the epoch
abbrev pub gap_step : Interface → (channel : ℕ) → (all_channels : Bool) → GapChannel → GapChannel
gap_step i n all_channels g = record {
  channel = left_by_gap i n g.channel;
  restarting = g.restarting || all_channels;
  certainty = drifting (owed_at_gap g.certainty g.channel) (is_hidden_by_gap i n g.channel);
}

-- the restart indication, where it is owed
abbrev pub restart_indication : Bool → Owed
restart_indication true = RestartIndication
restart_indication false = NoIndication

-- a channel of an epoch as it begins: fresh, or adrift without a call
abbrev pub fresh_at : Interface → EpochStart → (epoch channel : ℕ) → GapChannel
fresh_at i Restarted e n = certain (fresh i e n)
fresh_at i (Drifting w) e n = record {
  channel = channel_in (fresh_state false (is_permanent i n));
  restarting = true;
  certainty = drifting (restart_indication w) false;
}
