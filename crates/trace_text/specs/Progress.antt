-- What a reader of lines keeps.
use Rattle.std.specs.Prelude.{ℕ, ◌+◌, List, Option, length}
use Rattle.line_model.specs.declared.interface.Interface.{Interface}
use Rattle.line_model.specs.declared.fault.Fault.{Fault}

-- the lines that an LF has ended and their bytes, what they say, the line begun, and the fault that was returned
pub record Progress : Type 0 where
  pub ended : ℕ
  pub start : ℕ
  pub interface : Option Interface
  pub last : ℕ
  pub begun : List ℕ
  pub refused : Option Fault

-- how many bytes it was fed
abbrev pub bytes_fed : Progress → ℕ
bytes_fed reader = reader.start + length reader.begun
