-- What is kept of the last line of a text that was read.
use Rattle.std.specs.Prelude.{◌≡◌}
use Rattle.line_model.specs.declared.device.LastLine.{LastLine}
use Rattle.streams.specs.declared.kept_line.KeptLine.{KeptLine}

-- it is a copy of the line
pub record IsCopyOf (line : LastLine) (kept : KeptLine) : Type 0 where
  pub first : kept.first.items ≡ line.first.now
  pub text : kept.text.items ≡ line.text.now
  pub number : kept.number_before ≡ line.number_before
  pub interface : kept.interface ≡ line.interface
