-- The order between a channel of the whole walk and the same channel of a recording with gaps: what is certain there is true.
use Rattle.std.proofs.Common.{◌≡◌, ◌%◌, ℕ, Bool, false, Option, Some, None}
use Rattle.line_model.specs.declared.gap.LastData.{LastData}
use Rattle.line_model.specs.declared.gap.Owed.TheVariants.{NoIndication}
use Rattle.line_model.specs.declared.interface.Interface.{Interface}
use Rattle.line_model.specs.declared.state.Side.{Side}
use Rattle.line_model.specs.declared.state.Side.TheVariants.{T, N}
use Rattle.line_model.specs.declared.state.DState.{DState}
use Rattle.line_model.specs.declared.state.DState as transfer
use Rattle.line_model.specs.basics.Records.{Item}
use Rattle.line_model.specs.channels.Channels.{Sides, of_side, other}
use Rattle.line_model.specs.channels.ChannelStep.{channel_step}
use Rattle.line_model.specs.channels.FlowControl.{sent}
use Rattle.line_model.specs.channels.Gaps.{Doubts, GapChannel, of_both}
use Rattle.line_model.specs.channels.Gaps.Certainty.{Adrift, Certain, Settled}
use Rattle.gap_laws.proofs.Circuits.{Circuit, IsOrdered, Terms, channel_of, channel_with, idle, no_terms, size_of}
use Rattle.gap_laws.proofs.Settled.{SideFits, in_doubt}

-- the circuits of a recording with gaps
abbrev pub certain_at : (restarting : Bool) → Circuit → GapChannel
certain_at b q = record { channel = channel_of q; restarting = b; certainty = Certain }

abbrev pub adrift_at : DState → (restarting : Bool) → Sides (Option LastData) → GapChannel
adrift_at d b ls = record { channel = channel_of (idle d); restarting = b; certainty = Adrift (record { owed = NoIndication; hidden = false; last = ls }) }

abbrev pub settled_with : Terms → (restarting : Bool) → Doubts → Circuit → GapChannel
settled_with t b d g = record { channel = channel_with t g; restarting = b; certainty = Settled d }

abbrev pub settled_at : (restarting : Bool) → (numbers interrupts sequences : Sides Bool) → Circuit → GapChannel
settled_at b ns is ss g = settled_with no_terms b (in_doubt ns is ss) g

-- the last data packet of a side since the gap: in d1 it is the last one that was accepted, and its side has not acknowledged
-- more since; while a side resets, the other side alone sends any
abbrev pub LastIn : DState → (modulus : ℕ) → Circuit → Side → LastData → Type 0
LastIn transfer.TheVariants.D1 m q y l = (sent y q.accepted % m ≡ l.next) × (of_side (other y) q.acknowledged % m ≡ l.receive)
LastIn transfer.TheVariants.D2 m q y l = y ≡ N
LastIn transfer.TheVariants.D3 m q y l = y ≡ T

abbrev pub LastFits : (modulus : ℕ) → Circuit → Side → Option LastData → Type 0
LastFits m q y None = Unit {0}
LastFits m q y (Some l) = LastIn q.state m q y l

-- while a side resets, no data was seen since
abbrev pub IsResting : DState → Sides (Option LastData) → Type 0
IsResting transfer.TheVariants.D1 ls = Unit {0}
IsResting d ls = ls ≡ of_both None

pub record FitsAdrift (i : Interface) (q : Circuit) (g : GapChannel) : Type 0 where
  pub state : DState
  pub restarting : Bool
  pub last : Sides (Option LastData)
  pub is : g ≡ adrift_at state restarting last
  pub seen : (y : Side) → LastFits i.modulus q y (of_side y last)
  pub resting : IsResting state last

pub record FitsSettled (i : Interface) (q : Circuit) (g : GapChannel) : Type 0 where
  pub restarting : Bool
  pub numbers : Sides Bool
  pub interrupts : Sides Bool
  pub sequences : Sides Bool
  pub settled : Circuit
  pub is : g ≡ settled_at restarting numbers interrupts sequences settled
  pub in_d1 : settled.state ≡ transfer.TheVariants.D1
  pub in_d1_too : q.state ≡ transfer.TheVariants.D1
  pub sides : (y : Side) → SideFits i (size_of i no_terms) (in_doubt numbers interrupts sequences) q settled y

pub data Fits (i : Interface) (q : Circuit) (g : GapChannel) : Type 0 where
  FitsAll : (b : Bool) → g ≡ certain_at b q → Fits i q g
  FitsAnyAfter : FitsAdrift i q g → Fits i q g
  FitsSome : FitsSettled i q g → Fits i q g

-- the whole walk after a row
pub record Takes (i : Interface) (k : Terms) (n : ℕ) (r : Item) (q : Circuit) (w : Circuit) : Type 0 where
  pub after : (channel_step i n (channel_with k q) r).after ≡ channel_with k w
  pub ordered : (y : Side) → IsOrdered i.modulus w y
