-- What is kept of the errors of the DTE to which the DCE has not reacted yet.
use Rattle.std.specs.Prelude.{ℕ, ◌<◌, ◌+◌, ◌^◌, List}

-- how many errors of the DTE were answered and were not, how many indications of the DCE were not owed, and how many errors
-- are not decided; by logical channel, and for the restart machine in place 0: 0 where none is, otherwise 1
-- plus the number of packets of the DCE since
pub record Watched : Type 0 where
  pub answered : ℕ
  pub unanswered : ℕ
  pub unexplained : ℕ
  pub pending : ℕ
  pub waits : List ℕ

-- one more can be counted
pub record IsRoomy (w : Watched) : Type 0 where
  pub answered : w.answered + 1 < 2 ^ 32
  pub unanswered : w.unanswered + w.pending + 1 < 2 ^ 32
  pub unexplained : w.unexplained + 1 < 2 ^ 32
