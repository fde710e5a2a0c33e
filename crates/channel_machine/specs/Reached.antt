-- Channels that were followed from their beginning (X.25 Annex B).
use Rattle.std.specs.Prelude.{Bool, true, false, not, ◌&&◌, ◌||◌, ◌≡◌, None, IfNone, is_some}
use Rattle.line_model.specs.declared.state.ChannelState.{ChannelState}
use Rattle.line_model.specs.declared.state.ChannelState.TheVariants.{Setup}
use Rattle.line_model.specs.declared.state.PState.TheVariants.{P2, P3, P5}
use Rattle.line_model.specs.declared.state.StateName.{StateName}
use Rattle.line_model.specs.channels.Verdicts.{CallChange}
use Rattle.line_model.specs.channels.Verdicts.CallChange.{Opens, GoesUp, Ends, Keeps}
use Rattle.line_model.specs.channels.ChannelStep.{state_named}
use Rattle.line_model.specs.channels.Channels.{Channel}

-- the states in which a call was asked for and not answered yet
abbrev pub is_waiting : ChannelState → Bool
is_waiting (Setup P2) = true
is_waiting (Setup P3) = true
is_waiting (Setup P5) = true
is_waiting _ = false

-- a call is open that was not answered yet
pub record IsUnanswered (c : Channel) : Type 0 where
  pub opened : is_some c.opening ≡ true
  pub unanswered : c.accepting ≡ None

-- without a call nothing was answered, and where one waits it was not
pub record IsReached (c : Channel) : Type 0 where
  pub bare : IfNone c.opening (c.accepting ≡ None)
  pub waiting : is_waiting c.state ≡ true → IsUnanswered c

-- from which states a move changes the call so
abbrev pub is_from : CallChange → (to : StateName) → (from : ChannelState) → Bool
is_from (Opens out) to s = true
is_from GoesUp to s = is_waiting s && not (is_waiting (state_named to))
is_from (Ends h) to s = not (is_waiting (state_named to))
is_from Keeps to s = not (is_waiting (state_named to)) || is_waiting s
