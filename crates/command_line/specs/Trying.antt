-- What the exit status of the program says of a trace on which headers are tried.
use Rattle.std.specs.Prelude.{◌≡◌, ◌⊎◌, ℕ, ◌<◌, List, Option, Some}
use Rattle.line_model.specs.declared.fault.Fault.{Fault}
use Rattle.trace_text.specs.Sources.{IsRefusedBy}
use Rattle.trace_text.specs.Refusals.{IsRefusal}
use Rattle.header_trials.specs.TriedLines.{HasTried, HasTriedPart}
use Rattle.command_line.specs.Program.{IsFaulty, fault_status}

-- the sink accepted the lines, and the first one has findings
pub record HasTriedWith (text : List ℕ) (before after : Option (List ℕ)) : Type 0 where
  pub findings : ℕ
  pub some : 0 < findings
  pub tried : HasTried text before after findings

-- a fault other than the text's ended it: what it says of the bytes that were read; and the sink is as it was, or it failed on the lines
pub record IsTryStopped (text : List ℕ) (left asked before after : Option (List ℕ)) (well : Type 0) : Type 0 where
  pub cause : Fault
  pub other : fault_status cause ≡ 3
  pub refusal : IsRefusedBy 0 (IsRefusal 0) text left asked cause
  pub taken : (after ≡ before) ⊎ ((¬ well) × HasTriedPart text before after)

-- what the status says of a text: `well` says that the sink did not fail
pub record IsTryStatus (text : List ℕ) (left asked before after : Option (List ℕ)) (well : Type 0) (status : ℕ) : Type 0 where
  pub clean : status ≡ 0 → HasTried text before after 0
  pub found : status ≡ 1 → HasTriedWith text before after
  pub faulty : status ≡ 2 → IsFaulty 0 text left asked × (after ≡ before)
  pub other : status ≡ 3 → IsTryStopped text left asked before after well
  pub range : status < 4

-- what it says of a trace whose text the source shows
abbrev pub TriesOf : (trace left asked before after : Option (List ℕ)) → (well : Type 0) → (status : ℕ) → Type 0
TriesOf trace left asked before after well status = (text : List ℕ) → trace ≡ Some text → IsTryStatus text left asked before after well status
