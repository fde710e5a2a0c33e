-- The rows of a capture as a trace has them.
use Rattle.std.specs.Prelude.{◌≡◌, ℕ, ◌^◌, ◌<◌, ◌≤◌, Bool, true, List, [], ◌∷◌, ◌++◌, length, Option, None, Some, IfSome}
use Rattle.std.specs.Int.RustNames.{unsigned_abs}
use Rattle.std.specs.List.{AllByRecursion}
use Rattle.hex.specs.Hex.{IsBytes}
use Rattle.line_model.specs.basics.Records as trace
use Rattle.line_model.specs.declared.interface.Interface.{Interface}
use Rattle.line_model.specs.declared.state.Side.TheVariants.{T}
use Rattle.lapb_link.specs.declared.frames.Place.{Place}
use Rattle.capture_report.specs.Contents.{Content, Gap, Packet, Row}
use Rattle.capture_report.specs.Texts.{after_row, number_if, sided}
use Rattle.capture_report.specs.declared.print.Printer.{Printer}

-- the frame number and the time are in the ranges of their types
pub record IsPlace (p : Place) : Type 0 where
  pub frame : p.frame < 2 ^ 64
  pub time : IfSome p.time (λ t. unsigned_abs t.count < 2 ^ 128)

-- a packet of at most 4,200 octets, or a gap of a channel from 1 to 4,095 or of all
abbrev pub IsContent : Content → Type 0
IsContent (Packet s octets) = IsBytes octets × (length octets ≤ 4200)
IsContent (Gap c) = IfSome c (λ k. (1 ≤ k) × (k ≤ 4095))

pub record IsRow (r : Row) : Type 0 where
  pub place : IsPlace r.place
  pub circuit : IfSome r.circuit (λ n. n < 2 ^ 64)
  pub content : IsContent r.content

abbrev pub AreRows : List Row → Type 0
AreRows rs = AllByRecursion IsRow rs

-- gaps only where gaps are rows, and of channels that the interface has
abbrev pub IsWithin : Interface → Content → Type 0
IsWithin i (Packet s octets) = Unit {0}
IsWithin i (Gap c) = (i.gaps ≡ true) × IfSome c (λ k. k ≤ i.svc)

abbrev pub AreWithin : Interface → List Row → Type 0
AreWithin i rs = AllByRecursion (λ r. IsWithin i r.content) rs

abbrev pub trace_row : (number : ℕ) → Content → trace.Row
trace_row n (Packet s octets) = record { number = n; side = s; octets = octets; gap = None }
trace_row n (Gap c) = record { number = n; side = T; octets = []; gap = Some c }

-- a row without a number is left out
abbrev pub row_numbered : (swapped : Bool) → Option ℕ → Row → List trace.Row
row_numbered swapped None r = []
row_numbered swapped (Some n) r = trace_row n (sided swapped r.content) ∷ []

-- the rows with the numbers and the sides of a printer
abbrev pub trace_rows : Printer → List Row → List trace.Row
trace_rows p [] = []
trace_rows p (r ∷ rs) = row_numbered p.is_swapped (number_if p r) r ++ trace_rows (after_row p r) rs
