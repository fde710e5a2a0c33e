-- What is known of a channel at one moment.
use Rattle.std.specs.Prelude.{◌≡◌, Bool, true, false}
use Rattle.line_model.specs.declared.interface.Interface.{Interface}
use Rattle.line_model.specs.declared.state.Side.TheVariants.{T, N}
use Rattle.line_model.specs.channels.ChannelStep.{counts_of}
use Rattle.line_model.specs.channels.Gaps.{Certainty, GapChannel}
use Rattle.line_model.specs.channels.Gaps.Certainty.{Adrift, Settled}
use Rattle.line_model.specs.packets.Formats.{is_pad_call, size_in_force, was_fast}
use Rattle.data_transfer.specs.FlowResidues.{ResiduesRepresent}
use Rattle.channel_run.specs.declared.run.View.{View}

-- whether a gap left open in which state the channel is
abbrev pub is_adrift : Certainty → Bool
is_adrift (Adrift a) = true
is_adrift t = false

-- whether an acknowledgement settled the channel, and some of its numbers may be in doubt
abbrev pub is_settled : Certainty → Bool
is_settled (Settled b) = true
is_settled t = false

-- the state of a channel, whether it is adrift, whether an indication is owed, whether its call is a PAD call and asked
-- fast select, the sizes in force, and numbers that represent its counts, unless some of these may be in doubt
pub record IsViewOf (i : Interface) (g : GapChannel) (v : View) : Type 0 where
  pub state : v.state ≡ g.channel.state
  pub adrift : v.adrift ≡ is_adrift g.certainty
  pub owed : v.owed ≡ g.channel.owed
  pub pad_call : v.pad_call ≡ is_pad_call g.channel
  pub fast : v.fast ≡ was_fast g.channel
  pub size_t : v.size_t ≡ size_in_force i g.channel T
  pub size_n : v.size_n ≡ size_in_force i g.channel N
  pub flow : is_settled g.certainty ≡ false → ResiduesRepresent v.flow (counts_of g.channel)
