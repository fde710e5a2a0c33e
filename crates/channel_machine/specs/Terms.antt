-- Values that can be in force.
use Rattle.std.specs.Prelude.{ℕ, ◌≤◌, ◌<◌}
use Rattle.packet_decode.specs.Shown.{IsPacketSize}
use Rattle.channel_machine.specs.declared.terms.Values.{Values}

-- a window below the modulus (X.25 clause 7.2.2.1.2)
abbrev pub IsBelow : (modulus n : ℕ) → Type 0
IsBelow m n = (1 ≤ n) × (n < m)

-- packet sizes and windows that can be in force
pub record AreUsable (modulus : ℕ) (v : Values) : Type 0 where
  pub size_t : IsPacketSize v.size_t
  pub size_n : IsPacketSize v.size_n
  pub window_t : IsBelow modulus v.window_t
  pub window_n : IsBelow modulus v.window_n
