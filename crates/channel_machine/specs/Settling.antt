-- A packet that settles a channel adrift.
use Rattle.std.specs.Prelude.{ℕ, Option, Some, None}
use Rattle.line_model.specs.declared.gap.LastData.{LastData}
use Rattle.line_model.specs.declared.packet.DataHeader.{DataHeader}
use Rattle.line_model.specs.declared.state.Side.{Side}
use Rattle.line_model.specs.channels.Channels.{Channel}
use Rattle.line_model.specs.channels.GapStep.{settled_channel}
use Rattle.channel_machine.specs.declared.gaps.settled.Settling.{Settling}

-- that packet, by its P(R) and the data packet that it acknowledges
abbrev pub settling_by : Side → Option DataHeader → (receive : Option ℕ) → (acknowledged : Option LastData) → Option Settling
settling_by x h (Some n) (Some l) = Some (record { side = x; header = h; receive = n; last = l })
settling_by x h o l = None

-- the channel that it settles
abbrev pub settled_after : (modulus : ℕ) → Settling → Channel → Channel
settled_after m s c = settled_channel m s.side s.receive s.last s.header c
