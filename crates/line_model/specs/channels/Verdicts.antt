-- The verdict on a packet, between the tables and what they do to the channel.
use Rattle.std.specs.Prelude.{ℕ, Bool}
use Rattle.line_model.specs.declared.event.How.{How}
use Rattle.line_model.specs.declared.state.StateName.{StateName}

-- an error in a state with its diagnostic code, a state that is entered, a packet of data transfer that the windows judge,
-- the indication that was owed, or nothing
pub data Verdict : Type 0 where
  Fails : StateName → ℕ → Verdict
  Moves : StateName → Verdict
  Transfers EndsOwed Nothing : Verdict

-- what a move does to the call: one is opened, outgoing or not; it comes into p4; it ends; it stays as it is
pub data CallChange : Type 0 where
  Opens : (out : Bool) → CallChange
  GoesUp : CallChange
  Ends : How → CallChange
  Keeps : CallChange
