-- The address and the control field of a frame (X.25 clauses 2.3.2, 2.3.4 and 2.4.2).
use Rattle.std.specs.Prelude.{ℕ, ◌+◌, ◌*◌, ◌/◌, ◌%◌, ◌==◌, List, [], ◌∷◌, Bool, true, false, Option, Some, None, if◌then◌else◌}
use Rattle.line_model.specs.declared.state.Side.{Side}
use Rattle.line_model.specs.declared.state.Side.TheVariants.{T, N}
use Rattle.lapb_link.specs.declared.modulus.Modulus.{Modulus}
use Rattle.lapb_link.specs.declared.modulus.Modulus.TheVariants.{Basic, Extended}
use Rattle.lapb_link.specs.declared.control.Supervisory as supervisory
use Rattle.lapb_link.specs.declared.control.Unnumbered as unnumbered
use Rattle.lapb_link.specs.declared.control.Control as control

-- the side whose commands have an address
abbrev pub command_side : ℕ → Option Side
command_side a = if a == 1 then Some T else if a == 3 then Some N else None

abbrev pub supervisory_of : ℕ → supervisory.Supervisory
supervisory_of c = if c / 4 % 4 == 0 then supervisory.TheVariants.Rr else if c / 4 % 4 == 1 then supervisory.TheVariants.Rnr
    else if c / 4 % 4 == 2 then supervisory.TheVariants.Rej else supervisory.TheVariants.Srej

-- a control field without its P/F bit
abbrev pub without_last : ℕ → ℕ
without_last c = c % 16 + c / 32 * 32

abbrev pub unnumbered_of : ℕ → Option unnumbered.Unnumbered
unnumbered_of c = if without_last c == 0x2F then Some unnumbered.TheVariants.Sabm else if without_last c == 0x6F then Some unnumbered.TheVariants.Sabme
    else if without_last c == 0x43 then Some unnumbered.TheVariants.Disc else if without_last c == 0x63 then Some unnumbered.TheVariants.Ua
    else if without_last c == 0x0F then Some unnumbered.TheVariants.Dm else if without_last c == 0x87 then Some unnumbered.TheVariants.Frmr else None

-- modulo 8: 0 N(S) P N(R), 1 0 S P/F N(R), 1 1 M P/F M, from the low bit on
abbrev pub basic_control : ℕ → control.Control
basic_control c = if c % 2 == 0 then control.TheVariants.Information (c / 2 % 8) (c / 32)
    else if c % 4 == 1 then control.TheVariants.Supervisory (record { kind = supervisory_of c; receive = c / 32; last = c / 16 % 2 == 1 })
    else control.TheVariants.Unnumbered (unnumbered_of c)

-- modulo 128: 0 N(S), P N(R); 1 0 S, P/F N(R)
abbrev pub extended_control : (first second : ℕ) → control.Control
extended_control c d = if c % 2 == 0 then control.TheVariants.Information (c / 2) (d / 2) else control.TheVariants.Supervisory (record { kind = supervisory_of c; receive = d / 2; last = d % 2 == 1 })

abbrev pub second_octet : ℕ → List ℕ → Option (control.Control × List ℕ)
second_octet c [] = None
second_octet c (d ∷ rest) = Some (extended_control c d, rest)

-- N(S) of an I frame
abbrev pub send_of : control.Control → ℕ
send_of (control.TheVariants.Information send receive) = send
send_of c = 0

-- the control field of a frame, and the octets after it
abbrev pub control_of : Modulus → List ℕ → Option (control.Control × List ℕ)
control_of Basic (a ∷ c ∷ rest) = Some (basic_control c, rest)
control_of Extended (a ∷ c ∷ rest) = if c % 4 == 3 then Some (control.TheVariants.Unnumbered (unnumbered_of c), rest) else second_octet c rest
control_of m xs = None

abbrev pub is_command : unnumbered.Unnumbered → Bool
is_command unnumbered.TheVariants.Sabm = true
is_command unnumbered.TheVariants.Sabme = true
is_command unnumbered.TheVariants.Disc = true
is_command k = false

-- whether the numbers begin anew
abbrev pub is_set_up : unnumbered.Unnumbered → Bool
is_set_up unnumbered.TheVariants.Sabm = true
is_set_up unnumbered.TheVariants.Sabme = true
is_set_up unnumbered.TheVariants.Ua = true
is_set_up k = false

abbrev pub modulus_after : unnumbered.Unnumbered → Modulus → Modulus
modulus_after unnumbered.TheVariants.Sabm m = Basic
modulus_after unnumbered.TheVariants.Sabme m = Extended
modulus_after k m = m
