-- The fields of a call packet, as the definitions have them.
use Rattle.std.specs.Prelude.{ℕ, ◌≤◌, ◌<◌, ◌==◌, IfSome, IsTrue}
use Rattle.std.specs.List.{list_any}
use Rattle.line_model.specs.declared.interface.Interface.{Interface}
use Rattle.line_model.specs.packets.Facilities as model
use Rattle.line_model.specs.basics.Limits.{packet_sizes}
use Rattle.packet_decode.specs.declared.fields.CallFields.{CallFields}

abbrev pub shown : CallFields → model.CallFields
shown f = record {
  called = f.called;
  calling = f.calling;
  reverse_charging = f.reverse;
  fast = f.fast;
  sizes = f.sizes;
  windows = f.windows;
  data_of_user = f.user_data.now;
}

-- a packet size: a power of 2 from 16 to 4,096 (X.25 clause 7.2.2.1.1)
abbrev pub IsPacketSize : ℕ → Type 0
IsPacketSize n = IsTrue (list_any (λ m. n == m) packet_sizes)

-- sizes and windows that can be in force
pub record IsUsable (i : Interface) (f : CallFields) : Type 0 where
  pub sizes : IfSome f.sizes (λ p. IsPacketSize p.0 × IsPacketSize p.1)
  pub windows : IfSome f.windows (λ p. (1 ≤ p.0) × (p.0 < i.modulus) × (1 ≤ p.1) × (p.1 < i.modulus))
