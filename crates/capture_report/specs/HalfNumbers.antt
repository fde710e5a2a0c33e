-- The numbers of connections of which one side alone was recorded.
use Rattle.std.specs.Prelude.{ℕ, List}

pub record HalfNumbers : Type 0 where
  pub dte : List ℕ
  pub dce : List ℕ
