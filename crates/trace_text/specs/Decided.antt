-- What the bytes that a source gave decide.
use Rattle.std.specs.Prelude.{◌≡◌, ℕ, ◌≤◌, List, ◌++◌, length, None}
use Rattle.line_model.specs.text.Text.{early}

-- the bytes that were given, except for at most `most` of the last ones, decide no faulty line
pub record NoneDecidedButLast (most : ℕ) (given : List ℕ) : Type 0 where
  pub before : List ℕ
  pub last : List ℕ
  pub whole : given ≡ before ++ last
  pub few : length last ≤ most
  pub sound : early before ≡ None
