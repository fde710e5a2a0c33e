-- The codes of PAD messages (X.29 Table 3).
use Rattle.std.specs.Prelude.{ℕ, List, [], ◌∷◌, Option}
use Rattle.line_model.specs.basics.Choice.{value_at}
use Rattle.pad.specs.declared.message.MessageCode.{MessageCode}
use Rattle.pad.specs.declared.message.MessageCode.TheVariants.{Indication, InvitationToClear, Set, Break, Read, Error, SetAndRead, Reselection, ReselectionWithAddress}

-- the code of a message as a number (X.29 Table 3)
abbrev pub code_number : MessageCode → ℕ
code_number Indication = 0
code_number InvitationToClear = 1
code_number Set = 2
code_number Break = 3
code_number Read = 4
code_number Error = 5
code_number SetAndRead = 6
code_number Reselection = 7
code_number ReselectionWithAddress = 8

-- the code that a number is, none where there is none (X.29 Table 3)
abbrev pub code_of : ℕ → Option MessageCode
code_of n = value_at ((0, Indication) ∷ (1, InvitationToClear) ∷ (2, Set) ∷ (3, Break) ∷ (4, Read) ∷ (5, Error) ∷ (6, SetAndRead)
    ∷ (7, Reselection) ∷ (8, ReselectionWithAddress) ∷ []) n

-- the octets of a message: its code, bits 8 to 5 being 0, and what follows (X.29 clause 4.3)
abbrev pub octets_of : MessageCode → (pairs : List ℕ) → List ℕ
octets_of c ps = code_number c ∷ ps
