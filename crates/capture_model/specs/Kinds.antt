-- The link header of each link type.
use Rattle.std.specs.Prelude.{ℕ, ◌==◌, ◌||◌, Option, Some, None, if◌then◌else◌}
use Rattle.capture_model.specs.declared.kind.LinkKind.{LinkKind}
use Rattle.capture_model.specs.declared.kind.LinkKind.TheVariants as kind

abbrev pub kind_of_link : ℕ → Option LinkKind
kind_of_link n = if n == 0 || n == 108 then Some kind.Loopback
    else if n == 1 then Some kind.Ethernet
    else if n == 9 || n == 50 then Some kind.Ppp
    else if n == 12 || (n == 14 || (n == 101 || (n == 228 || n == 229))) then Some kind.Internet
    else if n == 104 then Some kind.Cisco
    else if n == 113 then Some kind.Cooked1
    else if n == 207 then Some kind.DirectedLapb
    else if n == 276 then Some kind.Cooked2
    else None
