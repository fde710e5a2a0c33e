-- The ranges of an interface's parameters, and other limits.
use Rattle.std.specs.Prelude.{ℕ, Bool, ◌==◌, ◌||◌, ◌&&◌, nat_le, nat_lt, IsTrue, List, [], ◌∷◌}
use Rattle.std.specs.List.{list_any}

-- the packet sizes: the powers of two from 16 to 4096 (X.25 clause 4.3.2)
abbrev pub packet_sizes : List ℕ
packet_sizes = 16 ∷ 32 ∷ 64 ∷ 128 ∷ 256 ∷ 512 ∷ 1024 ∷ 2048 ∷ 4096 ∷ []

-- the modulus is 8 or 128, and the window is below it (X.25 clauses 4.4.1.1 and 4.4.1.2)
abbrev pub is_numbering : (modulus window : ℕ) → Bool
is_numbering modulus window = ((modulus == 8) || (modulus == 128)) && (nat_le 1 window && nat_lt window modulus)

-- 1 to 4095 channels: permanent circuits, then those for incoming calls, two-way ones, those for outgoing calls (X.25 Annex A)
abbrev pub is_channels : (pvc incoming two_way svc : ℕ) → Bool
is_channels pvc incoming two_way svc =
    (nat_le 1 svc && nat_le svc 4095) && (nat_le pvc incoming && (nat_le incoming two_way && nat_le two_way svc))

-- the ranges of all parameters together
abbrev pub is_interface : (modulus window size pvc incoming two_way svc : ℕ) → Bool
is_interface modulus window size pvc incoming two_way svc =
    is_numbering modulus window && (list_any (λ n. size == n) packet_sizes && is_channels pvc incoming two_way svc)

-- what a header may say
abbrev pub IsInterface : (modulus window size pvc incoming two_way svc : ℕ) → Type 0
IsInterface modulus window size pvc incoming two_way svc = IsTrue (is_interface modulus window size pvc incoming two_way svc)
