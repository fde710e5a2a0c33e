-- What is kept of a sequence that was begun.
use Rattle.std.specs.Prelude.{ℕ, Bool, List, Option}

-- the sequence that a side has begun: the packet size in force, the Q bit of its packets, if there are any, and the octets that are kept
pub record SequenceView : Type 0 where
  pub size : ℕ
  pub qualified : Option Bool
  pub octets : List ℕ

-- those of both sides
pub record Assembly : Type 0 where
  pub of_t : SequenceView
  pub of_n : SequenceView
