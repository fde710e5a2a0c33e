-- The numbers of faults, and of the rules that a line of a trace breaks (profile).
use Rattle.std.specs.Prelude.{ℕ}
use Rattle.line_model.specs.declared.fault.Kind.{Kind}
use Rattle.line_model.specs.declared.fault.Kind.TheVariants.{HeaderMissing, HeaderForm, HeaderRange, LineForm, Number, Side, Hex, LineLong, TextLarge}
use Rattle.line_model.specs.declared.fault.Fault.{Fault}
use Rattle.line_model.specs.declared.fault.Fault.TheVariants.{Memory, Trace, Read, Write, Start, Double, UnknownPiece, Missing}

-- the number of a rule
abbrev pub kind_number : Kind → ℕ
kind_number HeaderMissing = 21
kind_number HeaderForm = 22
kind_number HeaderRange = 23
kind_number LineForm = 24
kind_number Number = 25
kind_number Side = 26
kind_number Hex = 27
kind_number LineLong = 28
kind_number TextLarge = 29

-- the number of a fault
abbrev pub fault_number : Fault → ℕ
fault_number Memory = 1
fault_number (Trace line kind) = 2
fault_number Read = 3
fault_number Write = 4
fault_number Start = 5
fault_number (Double id) = 6
fault_number (UnknownPiece id) = 7
fault_number (Missing id) = 8
