-- Values that can be in force.
use Rattle.std.proofs.Common.{◌≤◌, ◌<◌, ℕ, Bool, true, false, arith, Option, Some, None}
use Rattle.std.specs.Prelude.{IfSome, IsTrue, ◌&&◌, ◌==◌}
use Rattle.std.specs.List.{list_any}
use Rattle.line_model.specs.declared.interface.Interface.{Interface}
use Rattle.line_model.specs.basics.Limits.{is_numbering, is_channels, packet_sizes}
use Rattle.packet_decode.specs.Shown.{IsPacketSize}
use Rattle.channel_machine.specs.declared.terms.Values.{Values}
use Rattle.channel_machine.specs.Terms.{AreUsable, IsBelow}
use Rattle.channel_machine.specs.TermsRepresent.{values_of, with_asked}

first_of : (a b : Bool) → IsTrue (a && b) → IsTrue a
first_of true b e = grind (arith, e)
first_of false b e = grind (arith, e)

second_of : (a b : Bool) → IsTrue (a && b) → IsTrue b
second_of true b e = e
second_of false b e = grind (arith, e)

window_is : (m w : ℕ) → IsTrue (is_numbering m w) → IsBelow m w
window_is m w e = grind (arith, e)

-- those of an interface
pub usable_of : (i : Interface) → AreUsable i.modulus (values_of i)
usable_of i =
    let numbering : IsTrue (is_numbering i.modulus i.window) =
    first_of (is_numbering i.modulus i.window) (list_any (λ n. i.size == n) packet_sizes && is_channels i.pvc i.incoming i.two_way i.svc) i.lawful in
    let size : IsPacketSize i.size =
    first_of (list_any (λ n. i.size == n) packet_sizes) (is_channels i.pvc i.incoming i.two_way i.svc)
    (second_of (is_numbering i.modulus i.window) (list_any (λ n. i.size == n) packet_sizes && is_channels i.pvc i.incoming i.two_way i.svc) i.lawful) in
    record { size_t = size; size_n = size; window_t = window_is i.modulus i.window numbering; window_n = window_is i.modulus i.window numbering }

with_sizes : (m : ℕ) (out : Bool) (sizes : Option (ℕ × ℕ)) (v : Values) → IfSome sizes (λ p. IsPacketSize p.0 × IsPacketSize p.1) →
    AreUsable m v → AreUsable m (with_asked out sizes None v)
with_sizes m out None v h u = record { size_t = u.size_t; size_n = u.size_n; window_t = u.window_t; window_n = u.window_n }
with_sizes m true (Some p) v h u = record { size_t = h.1; size_n = h.0; window_t = u.window_t; window_n = u.window_n }
with_sizes m false (Some p) v h u = record { size_t = h.0; size_n = h.1; window_t = u.window_t; window_n = u.window_n }

with_windows : (m : ℕ) (out : Bool) (sizes windows : Option (ℕ × ℕ)) (v : Values) → IfSome windows (λ p. (1 ≤ p.0) × (p.0 < m) × (1 ≤ p.1) × (p.1 < m)) →
    AreUsable m (with_asked out sizes None v) → AreUsable m (with_asked out sizes windows v)
with_windows m out sizes None v h u = record { size_t = u.size_t; size_n = u.size_n; window_t = u.window_t; window_n = u.window_n }
with_windows m true sizes (Some p) v h u = record { size_t = u.size_t; size_n = u.size_n; window_t = (h.2, h.3); window_n = (h.0, h.1) }
with_windows m false sizes (Some p) v h u = record { size_t = u.size_t; size_n = u.size_n; window_t = (h.0, h.1); window_n = (h.2, h.3) }

-- those that a packet asks
pub usable_asked : (m : ℕ) (out : Bool) (sizes windows : Option (ℕ × ℕ)) (v : Values) →
    IfSome sizes (λ p. IsPacketSize p.0 × IsPacketSize p.1) → IfSome windows (λ p. (1 ≤ p.0) × (p.0 < m) × (1 ≤ p.1) × (p.1 < m)) →
    AreUsable m v → AreUsable m (with_asked out sizes windows v)
usable_asked m out sizes windows v hs hw u = with_windows m out sizes windows v hw (with_sizes m out sizes v hs u)
