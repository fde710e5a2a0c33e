-- Why a text that a source gives was refused.
use Rattle.std.specs.Prelude.{◌≡◌, ℕ, ◌+◌, ◌^◌, ◌⊎◌, List, [], Some, None}
use Rattle.line_model.specs.text.Text.{early, fault}
use Rattle.line_model.specs.declared.fault.Fault.{Fault}
use Rattle.line_model.specs.declared.fault.Fault.TheVariants.{Memory, Trace, Read, Write, Start}
use Rattle.trace_text.specs.Decided.{NoneDecidedButLast}

-- what a refusal says of the bytes that were given: they show the first faulty line, or it is the last line of the text; all of them but at
-- most the last 65,536, and the last `lag` before them, show none; the same where memory ran out; the source failed while they showed none; the
-- sink failed on the report of a text without a fault; where no thread was made, none were given
abbrev pub IsRefusal : (lag : ℕ) → (given rest : List ℕ) → Fault → Type 0
IsRefusal lag given rest Memory = NoneDecidedButLast (lag + 2 ^ 16) given
IsRefusal lag given rest (Trace line kind) = NoneDecidedButLast (lag + 2 ^ 16) given × ((early given ≡ Some (line, kind)) ⊎ ((rest ≡ []) × (fault given ≡ Some (line, kind))))
IsRefusal lag given rest Read = early given ≡ None
IsRefusal lag given rest Write = (rest ≡ []) × (fault given ≡ None)
IsRefusal lag given rest Start = given ≡ []
IsRefusal lag given rest _ = ⊥
