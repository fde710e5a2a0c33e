-- A finding as numbers.
use Rattle.std.specs.Prelude.{ℕ}
use Rattle.line_model.specs.declared.finding.Code.{Code}
use Rattle.line_model.specs.declared.finding.Code.TheVariants.{Number, Pad}
use Rattle.line_model.specs.declared.finding.Finding.{Finding}
use Rattle.line_model.specs.declared.finding.Xcode.{Xcode}
use Rattle.line_model.specs.declared.finding.Xcode.TheVariants.{X1, X2, X3, X4, XL}
use Rattle.line_model.specs.declared.state.StateName.{StateName}
use Rattle.line_model.specs.declared.state.StateName.TheVariants.{Dash, R1, R2, R3, P1, P2, P3, P4, P5, P6, P7, D1, D2, D3}
use Rattle.trace_text.specs.RowTexts.{side_letter}
use Rattle.x25scan_c.specs.declared.found.FindingNumbers.{FindingNumbers}

-- the letter of a state, and its number
abbrev pub state_letter : StateName → ℕ
state_letter Dash = 45
state_letter R1 = 114
state_letter R2 = 114
state_letter R3 = 114
state_letter D1 = 100
state_letter D2 = 100
state_letter D3 = 100
state_letter _ = 112

abbrev pub state_number : StateName → ℕ
state_number Dash = 0
state_number R1 = 1
state_number R2 = 2
state_number R3 = 3
state_number P1 = 1
state_number P2 = 2
state_number P3 = 3
state_number P4 = 4
state_number P5 = 5
state_number P6 = 6
state_number P7 = 7
state_number D1 = 1
state_number D2 = 2
state_number D3 = 3

-- the number of a code: a diagnostic code, or one after 256 for a PAD message
abbrev pub code_number : Code → ℕ
code_number (Number n) = n
code_number (Pad X1) = 257
code_number (Pad X2) = 258
code_number (Pad X3) = 259
code_number (Pad X4) = 260
code_number (Pad XL) = 261

-- a finding as C reads it
abbrev pub numbers_of : Finding → FindingNumbers
numbers_of f = record { packet = f.packet; code = code_number f.code; side = side_letter f.side; state = state_letter f.state; number = state_number f.state }
