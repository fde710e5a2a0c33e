-- What a trace text found so far.
use Rattle.std.specs.Prelude.{◌≡◌, ℕ, List, [], ◌++◌, Some, None, Result, Ok, Err}
use Rattle.line_model.specs.observer.Report.{report_of}
use Rattle.line_model.specs.text.Text.{early_head, early_rows}
use Rattle.line_model.specs.declared.fault.Fault.{Fault}
use Rattle.line_model.specs.declared.fault.Fault.TheVariants.{Memory}
use Rattle.line_model.specs.declared.finding.Finding.{Finding}
use Rattle.line_model.specs.declared.interface.Interface.{Interface}
use Rattle.report_merge.specs.Parts.{findings_text}
use Rattle.line_model.specs.packets.Says.{items_of}

-- the findings of the rows of the lines that an LF ended
abbrev pub found_at : Interface → List ℕ → List Finding
found_at i text = (report_of i (items_of i (early_rows text))).findings

-- the same, none where no header came yet
abbrev pub found : List ℕ → List Finding
found text = elim (early_head text) [ None ↦ [] | Some i ↦ found_at i text ]

-- their lines
abbrev pub found_text : List ℕ → List ℕ
found_text text = findings_text (found text)

-- the same findings were appended to a list and to the known ones
pub record HasFound (out out_after known known_after : List Finding) : Type 0 where
  pub more : List Finding
  pub out_has : out_after ≡ out ++ more
  pub known_has : known_after ≡ known ++ more

-- the first of the new findings were appended to a list
pub record HasFoundSome (out out_after known known_after : List Finding) : Type 0 where
  pub more : List Finding
  pub rest : List Finding
  pub out_has : out_after ≡ out ++ more
  pub known_has : known_after ≡ known ++ (more ++ rest)

-- at a refusal all new findings were appended, or where memory ran out some first ones
abbrev pub IsFoundUpTo : Fault → (out out_after known known_after : List Finding) → Type 0
IsFoundUpTo Memory out out_after known known_after = HasFoundSome out out_after known known_after
IsFoundUpTo _ out out_after known known_after = HasFound out out_after known known_after

-- the new findings were appended to a list
abbrev pub IsFoundBy : {T : Type 0} → Result T Fault → (out out_after known known_after : List Finding) → Type 0
IsFoundBy (Ok x) out out_after known known_after = HasFound out out_after known known_after
IsFoundBy (Err f) out out_after known known_after = IsFoundUpTo f out out_after known known_after
