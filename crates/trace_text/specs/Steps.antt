-- What a reader of lines does with bytes that end no line, and with an LF.
use Rattle.std.specs.Prelude.{◌≡◌, ℕ, ◌+◌, Bool, true, false, List, [], ◌∷◌, ◌++◌, length, Option, None, Some, is_some}
use Rattle.std.specs.Option.{option_or}
use Rattle.line_model.specs.text.Text.{size_kind, contents_kind}
use Rattle.line_model.specs.declared.fault.Kind.{Kind}
use Rattle.line_model.specs.declared.fault.Fault.{Fault}
use Rattle.line_model.specs.declared.fault.Fault.TheVariants.{Memory, Trace}
use Rattle.line_model.specs.basics.Records.{Row}
use Rattle.trace_text.specs.Cuts.{Lacks}
use Rattle.trace_text.specs.Progress.{Progress}
use Rattle.trace_text.specs.Reads.{ReadsAs}
use Rattle.trace_text.specs.declared.content.Content.{Content}
use Rattle.trace_text.specs.declared.content.Content.TheVariants.{Comment, Header, Packet}

-- the fault has this rule at this line, or is refused memory
abbrev pub RefusedBy : Option Kind → ℕ → Fault → Type 0
RefusedBy kind line Memory = Unit {0}
RefusedBy kind line (Trace l k) = (l ≡ line) × (kind ≡ Some k)
RefusedBy kind line _ = ⊥

-- the rule that the line begun breaks if it ends here
abbrev pub ended_kind : ℕ → Progress → Option Kind
ended_kind lf v = option_or (size_kind v.start lf (length v.begun)) (contents_kind v.interface v.last v.begun)

-- the row of a line, if it writes one
abbrev pub rows_of : Content → Row → List Row
rows_of Comment row = []
rows_of (Header interface) row = []
rows_of Packet row = row ∷ []

-- whether a line writes a row
abbrev pub is_packet : Content → Bool
is_packet Comment = false
is_packet (Header interface) = false
is_packet Packet = true

-- the reader after what a line says; a row has this number
abbrev pub after_content : Content → ℕ → Progress → Progress
after_content Comment number v = v
after_content (Header interface) number v = record v { interface = Some interface }
after_content Packet number v = record v { last = number }

-- the next line begins, after one of `len` bytes and its LF
abbrev pub after_line : ℕ → Progress → Progress
after_line len v = record v { ended = v.ended + 1; start = v.start + len + 1; begun = [] }

-- more of the line begun
abbrev pub with_more : Progress → List ℕ → Progress
with_more v more = record v { begun = v.begun ++ more }

-- an LF ends the line begun, which writes this row, or none
pub record EndsLine (before after : Progress) (row : Row) (is_row : Bool) : Type 0 where
  pub content : Content
  pub sound : ended_kind 1 before ≡ None
  pub reads : ReadsAs (is_some before.interface) before.last before.begun content row
  pub reader : after ≡ after_line (length before.begun) (after_content content row.number before)
  pub is_packet_row : is_row ≡ is_packet content

-- a chunk begins with the rest of the line begun, which its LF ends, and which writes this row
pub record TakesLine (before after : Progress) (chunk rest : List ℕ) (row : Row) : Type 0 where
  pub front : List ℕ
  pub whole : chunk ≡ front ++ 10 ∷ rest
  pub one_line : Lacks 10 front
  pub ends : EndsLine (with_more before front) after row true
