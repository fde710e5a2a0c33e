-- The class of a decoded packet is that of its octets.
use Rattle.std.proofs.Common.{◌≡◌, ℕ, false, List, Option, Some, None, refl, sym, ◌∙◌, ap}
use Rattle.std.specs.Prelude.{IfSome}
use Rattle.std.proofs.lemmas.Bool.{false≢true}
use Rattle.line_model.specs.declared.interface.Interface.{Interface}
use Rattle.line_model.specs.declared.packet.Packet.{Packet}
use Rattle.line_model.specs.declared.packet.Class.{Class}
use Rattle.line_model.specs.declared.packet.Class.TheVariants.{Short, WrongFormat, Unassigned, Restart, RestartConfirm, Diagnostic, Registration, TwoOctets, RestartHere, Call, Accepted, Clear, ClearConfirm, Interrupt, InterruptConfirm, Reset, ResetConfirm, Data, Rr, Rnr, Rej, Undefined}
use Rattle.line_model.specs.packets.Classes.{class_of, packet_of, packet_with, packet_class}
use Rattle.line_model.specs.packets.Says.{gap_of, packet_or_gap}
use Rattle.line_model.specs.basics.Records.{Item}
use Rattle.line_model.specs.basics.Bounds.{IsGapRow, IsSaid}

pub class_kept : (i : Interface) (xs : List ℕ) (k : Class) → packet_class (packet_with i xs k) ≡ k
class_kept i xs Short = refl
class_kept i xs WrongFormat = refl
class_kept i xs Unassigned = refl
class_kept i xs Restart = refl
class_kept i xs RestartConfirm = refl
class_kept i xs Diagnostic = refl
class_kept i xs Registration = refl
class_kept i xs TwoOctets = refl
class_kept i xs RestartHere = refl
class_kept i xs Call = refl
class_kept i xs Accepted = refl
class_kept i xs Clear = refl
class_kept i xs ClearConfirm = refl
class_kept i xs Interrupt = refl
class_kept i xs InterruptConfirm = refl
class_kept i xs Reset = refl
class_kept i xs ResetConfirm = refl
class_kept i xs Data = refl
class_kept i xs Rr = refl
class_kept i xs Rnr = refl
class_kept i xs Rej = refl
class_kept i xs Undefined = refl

-- octets are no gap
pub no_gap_with : (i : Interface) (xs : List ℕ) (k : Class) → gap_of (packet_with i xs k) ≡ None
no_gap_with i xs Short = refl
no_gap_with i xs WrongFormat = refl
no_gap_with i xs Unassigned = refl
no_gap_with i xs Diagnostic = refl
no_gap_with i xs Registration = refl
no_gap_with i xs Restart = refl
no_gap_with i xs RestartConfirm = refl
no_gap_with i xs TwoOctets = refl
no_gap_with i xs RestartHere = refl
no_gap_with i xs Call = refl
no_gap_with i xs Accepted = refl
no_gap_with i xs Clear = refl
no_gap_with i xs ClearConfirm = refl
no_gap_with i xs Interrupt = refl
no_gap_with i xs InterruptConfirm = refl
no_gap_with i xs Reset = refl
no_gap_with i xs ResetConfirm = refl
no_gap_with i xs Data = refl
no_gap_with i xs Rr = refl
no_gap_with i xs Rnr = refl
no_gap_with i xs Rej = refl
no_gap_with i xs Undefined = refl

-- nor is a row where gaps are no rows
pub said_no_gap : (i : Interface) (r : Item) → i.gaps ≡ false → IsSaid i r → gap_of r.packet ≡ None
said_no_gap i r whole said = ap (λ (q : Item). gap_of q.packet) said.says ∙ at said.row.gap said.lawful
  where
    at : (gap : Option (Option ℕ)) → IfSome gap (IsGapRow i said.row) → gap_of (packet_or_gap gap (packet_of i said.row.octets)) ≡ None
    at None lawful = no_gap_with i said.row.octets (class_of i said.row.octets)
    at (Some g) lawful = absurd (false≢true (sym whole ∙ lawful.recorded))

pub class_is : (i : Interface) (xs : List ℕ) (p : Packet) → p ≡ packet_of i xs → class_of i xs ≡ packet_class p
class_is i xs p e = sym (ap packet_class e ∙ class_kept i xs (class_of i xs))
