-- What octets of an unknown link look like.
use Rattle.std.specs.Prelude.{ℕ, ◌+◌, ◌/◌, ◌%◌, ◌==◌, ◌&&◌, ◌||◌, nat_le, Bool, false, List, ◌∷◌, length, slice_index, Option, Some, None, if◌then◌else◌}
use Rattle.lapb_link.specs.Checks.{unframed}
use Rattle.lapb_link.specs.Controls.{unnumbered_of}
use Rattle.lapb_link.specs.declared.control.Unnumbered.{Unnumbered}
use Rattle.lapb_link.specs.declared.control.Unnumbered.TheVariants.{Frmr}
use Rattle.lapb_link.specs.declared.looks.Form.{Form}
use Rattle.lapb_link.specs.declared.looks.Form.TheVariants.{Plain, Checked}

-- the general format identifier of a packet at a place, and a whole packet header
abbrev pub has_format : List ℕ → (at : ℕ) → Bool
has_format xs at = nat_le (at + 3) (length xs) && (slice_index xs at / 16 % 4 == 1 || slice_index xs at / 16 % 4 == 2)

-- an RR, RNR or REJ by its control field and length
abbrev pub is_ready_or_reject : ℕ → Bool
is_ready_or_reject c = c == 1 || (c == 5 || c == 9)

abbrev pub is_supervisory : (control n : ℕ) → Bool
is_supervisory c n = (n == 2 && is_ready_or_reject (c % 16)) || (n == 3 && is_ready_or_reject c)

abbrev pub is_unnumbered : Option Unnumbered → ℕ → Bool
is_unnumbered None n = false
is_unnumbered (Some Frmr) n = n == 5 || n == 7
is_unnumbered (Some k) n = n == 2

abbrev pub has_control : List ℕ → (control : ℕ) → Bool
has_control xs c = if c % 2 == 0 then has_format xs 2 || has_format xs 3
    else if c % 4 == 1 then is_supervisory c (length xs)
    else is_unnumbered (unnumbered_of c) (length xs)

abbrev pub looks_like_frame : List ℕ → Bool
looks_like_frame (a ∷ c ∷ xs) = (a == 1 || a == 3) && has_control (a ∷ c ∷ xs) c
looks_like_frame xs = false

abbrev pub form_of_checked : Option (List ℕ) → List ℕ → Option Form
form_of_checked (Some ys) xs = if looks_like_frame ys then Some Checked else if looks_like_frame xs then Some Plain else None
form_of_checked None xs = if looks_like_frame xs then Some Plain else None

abbrev pub form_of : List ℕ → Option Form
form_of xs = form_of_checked (unframed xs) xs
