-- What a packet other than those of a call does to it.
use Rattle.std.proofs.Common.{◌≡◌, false, true≢false, refl, sym}
use Rattle.line_model.specs.declared.packet.Class.{Class}
use Rattle.line_model.specs.declared.packet.Class.TheVariants.{Call, Accepted}
use Rattle.line_model.specs.declared.state.Side.{Side}
use Rattle.line_model.specs.declared.state.Side.TheVariants.{T, N}
use Rattle.line_model.specs.declared.state.StateName.{StateName}
use Rattle.line_model.specs.declared.state.StateName.TheVariants.{P6, P7}
use Rattle.line_model.specs.channels.ChannelStep.{call_change}
use Rattle.channel_machine.specs.Contents.{is_call}
use Rattle.channel_machine.specs.Moves.{leaving}

pub leaves : (x : Side) (k : Class) (s : StateName) → is_call k ≡ false → call_change x k s ≡ leaving s
leaves x Call s e = absurd (true≢false e)
leaves x Accepted s e = absurd (true≢false e)
leaves T k P6 e = refl
leaves T k P7 e = refl
leaves T k s e = refl
leaves N k P6 e = refl
leaves N k P7 e = refl
leaves N k s e = refl
