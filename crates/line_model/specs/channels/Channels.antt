-- Channels: what is known of each after some rows (X.25 clauses 4 and 5, Annex B).
use Rattle.std.specs.Prelude.{ℕ, Bool, true, false, not, nat_le, ◌&&◌, List, [], Option, None, is_some, ◌==◌, ◌+◌}
use Rattle.line_model.specs.declared.interface.Interface.{Interface}
use Rattle.line_model.specs.declared.state.Side.{Side}
use Rattle.line_model.specs.declared.state.Side.TheVariants.{T, N}
use Rattle.line_model.specs.declared.state.PState as setup
use Rattle.line_model.specs.declared.state.DState as transfer
use Rattle.line_model.specs.declared.state.ChannelState.{ChannelState}
use Rattle.line_model.specs.declared.state.ChannelState.TheVariants.{Setup, Transfer, Unknown}

-- a value for each side
pub record Sides (A : Type 0) : Type 0 where
  pub of_t : A
  pub of_n : A

-- the value of a side
abbrev pub of_side : {A : Type 0} → Side → Sides A → A
of_side T v = v.of_t
of_side N v = v.of_n

-- another value for a side
abbrev pub with_side : {A : Type 0} → Side → A → Sides A → Sides A
with_side T x v = record { of_t = x; of_n = v.of_n }
with_side N x v = record { of_t = v.of_t; of_n = x }

-- the other side
abbrev pub other : Side → Side
other T = N
other N = T

-- a data packet that was accepted: how many octets of user data it has, and those octets where its Q bit is 1
pub record AcceptedData : Type 0 where
  pub side : Side
  pub qualified : Bool
  pub more : Bool
  pub delivery : Bool
  pub length : ℕ
  pub octets : List ℕ

-- a PAD message of the call, and the side that it came from
pub record PadMessage : Type 0 where
  pub from : Side
  pub message : List ℕ

-- the packet that opened a call, and whether the call is outgoing
pub record Opening : Type 0 where
  pub out : Bool
  pub packet : List ℕ

-- what is known of a channel; it has the opening packet as long as the call is open
pub record Channel : Type 0 where
  pub state : ChannelState
  pub owed : Bool
  pub opening : Option Opening
  pub accepting : Option (List ℕ)
  pub accepted : List AcceptedData
  pub acknowledged : Sides ℕ
  pub unconfirmed : Sides Bool
  pub pad_messages : List PadMessage

-- channels 1 to `pvc` are permanent
abbrev pub is_permanent : Interface → ℕ → Bool
is_permanent i c = nat_le 1 c && nat_le c i.pvc

-- a channel in a state in which no packet was accepted
abbrev pub channel_in : ChannelState → Channel
channel_in s = record {
  state = s;
  owed = false;
  opening = None;
  accepting = None;
  accepted = [];
  acknowledged = record { of_t = 0; of_n = 0 };
  unconfirmed = record { of_t = false; of_n = false };
  pad_messages = [];
}

-- channels for calls of one side only
abbrev pub is_incoming_only : Interface → ℕ → Bool
is_incoming_only i c = nat_le (i.pvc + 1) c && nat_le c i.incoming

-- channels for outgoing calls only (X.25 Annex A)
abbrev pub is_outgoing_only : Interface → ℕ → Bool
is_outgoing_only i c = nat_le (i.two_way + 1) c && nat_le c i.svc

-- whether a call of a side goes against the direction of its channel: one of T on a channel for incoming calls, one of N on a channel for outgoing calls (Annex A)
abbrev pub is_against : Interface → Side → (channel : ℕ) → Bool
is_against i T c = is_incoming_only i c
is_against i N c = is_outgoing_only i c

-- where the trace begins in the middle, the channels of epoch 1 are unknown (profile)
abbrev pub is_joined : Interface → (epoch : ℕ) → Bool
is_joined i e = i.join && (not i.gaps && (e == 1))

-- p1, or d1 where the channel is permanent, if it is known
abbrev pub fresh_state : (joined permanent : Bool) → ChannelState
fresh_state true permanent = Unknown
fresh_state false true = Transfer transfer.TheVariants.D1
fresh_state false false = Setup setup.TheVariants.P1

-- a fresh channel of an epoch
abbrev pub fresh : Interface → (epoch channel : ℕ) → Channel
fresh i e c = channel_in (fresh_state (is_joined i e) (is_permanent i c))

-- whether a call is open
abbrev pub is_open : Channel → Bool
is_open c = is_some c.opening

-- whether a state is one of data transfer: p4, where the channel is virtual
abbrev pub is_transfer : ChannelState → Bool
is_transfer (Setup p) = false
is_transfer (Transfer d) = true
is_transfer Unknown = false

-- whether a channel is in a state of data transfer
abbrev pub is_in_transfer : Channel → Bool
is_in_transfer c = is_transfer c.state
