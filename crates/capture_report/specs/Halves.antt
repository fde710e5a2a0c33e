-- Connections of which one side alone was recorded.
use Rattle.std.specs.Prelude.{ℕ, Bool, false, List, Option, None, Some, if◌then◌else◌}
use Rattle.std.specs.List.{filter_map}
use Rattle.line_model.specs.declared.state.Side.{Side}
use Rattle.line_model.specs.declared.state.Side.TheVariants.{T, N}
use Rattle.capture_report.specs.HalfNumbers.{HalfNumbers}
use Rattle.capture_report.specs.Headers.{is_same}
use Rattle.capture_report.specs.declared.circuits.SeenCircuit.{SeenCircuit}

abbrev pub is_of : Side → (alone : Option Side) → Bool
is_of s None = false
is_of s (Some t) = is_same s t

abbrev pub alone_number : Side → SeenCircuit → Option ℕ
alone_number s c = if is_of s c.alone then Some c.connection else None

-- in the order of their first packets
abbrev pub alone_on : Side → List SeenCircuit → List ℕ
alone_on s cs = filter_map (alone_number s) cs

abbrev pub halves_of : List SeenCircuit → HalfNumbers
halves_of cs = record { dte = alone_on T cs; dce = alone_on N cs }
