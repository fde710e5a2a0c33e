-- What the exit status of the program says of a trace whose text is printed.
use Rattle.std.specs.Prelude.{◌≡◌, ℕ, ◌<◌, List, Option, Some, Result, IfErr, OnOk, length}
use Rattle.line_model.specs.basics.Device.{with_more}
use Rattle.line_model.specs.basics.Written.{HasFront}
use Rattle.line_model.specs.declared.fault.Fault.{Fault}
use Rattle.line_model.specs.text.Text.{text_limit}
use Rattle.command_line.specs.Program.{fault_status}

-- a text was copied to a sink that had `before`, all of it or a first part; at a fault of a line it is larger than a trace may be
pub record IsCopied {T : Type 0} (text : List ℕ) (before after : Option (List ℕ)) (copied : Result T Fault) : Type 0 where
  pub whole : OnOk copied (after ≡ with_more before text)
  pub part : HasFront before after text
  pub large : IfErr copied (λ fault. fault_status fault ≡ 2 → text_limit < length text)

-- what the status says of a text: the sink accepted all of it where it is 0, or 1 since packets are missing, otherwise a first part
pub record IsCopyStatus (text : List ℕ) (before after : Option (List ℕ)) (status : ℕ) : Type 0 where
  pub whole : status < 2 → after ≡ with_more before text
  pub part : HasFront before after text
  pub large : status ≡ 2 → text_limit < length text
  pub range : status < 4

-- what it says of a trace whose text the source shows
abbrev pub CopiesOf : (trace before after : Option (List ℕ)) → (status : ℕ) → Type 0
CopiesOf trace before after status = (text : List ℕ) → trace ≡ Some text → IsCopyStatus text before after status
