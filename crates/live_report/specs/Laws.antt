-- What is found of a trace text stays as the text goes on.
use Rattle.std.specs.Prelude.{◌≡◌, ℕ, List, ◌++◌, None}
use Rattle.line_model.specs.text.Text.{fault}
use Rattle.line_model.specs.traces.Traces.{trace_report}
use Rattle.live_report.specs.Found.{found_text}

-- the findings of a trace text come first among those of each text that goes on from it
abbrev pub GrowthLaw : Type 0
GrowthLaw = (text more : List ℕ) → (rest : List ℕ) × (found_text (text ++ more) ≡ found_text text ++ rest)

-- they come first in the report of each that has no fault
abbrev pub ReportLaw : Type 0
ReportLaw = (text more : List ℕ) → fault (text ++ more) ≡ None → (rest : List ℕ) × (trace_report (text ++ more) ≡ found_text text ++ rest)
