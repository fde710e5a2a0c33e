-- What a stream keeps between the pieces of its octets.
use Rattle.std.specs.Prelude.{◌≡◌, ℕ, ◌+◌, ◌<◌, ◌≤◌, Bool, true, false, List, [], ◌++◌, length}
use Rattle.xot_circuits.specs.Packets.{IsPartial, header, xot}
use Rattle.xot_circuits.specs.declared.header.Header.{Header}
use Rattle.xot_circuits.specs.declared.header.Header.TheVariants as headers
use Rattle.xot_circuits.specs.declared.stream.Found.{Found}
use Rattle.xot_circuits.specs.declared.stream.Found.TheVariants as found

pub record StreamView : Type 0 where
  -- the octets of the next packet that came so far
  pub rest : List ℕ
  -- the last packet that came in several pieces
  pub packet : List ℕ
  -- whether a packet is sought
  pub is_sought : Bool

-- what is found at the front of octets, those that are left of a piece, and the stream after it
abbrev pub IsNext : (octets : List ℕ) → Found → (left : List ℕ) → StreamView → Type 0
IsNext octets (found.Lent p) left s = (octets ≡ xot p.now ++ (s.rest ++ left)) × (s.is_sought ≡ false)
IsNext octets found.Kept left s = (octets ≡ xot s.packet ++ (s.rest ++ left)) × (s.is_sought ≡ false)
IsNext octets found.Partial left s = (s.rest ≡ octets) × IsPartial octets × (left ≡ []) × (s.is_sought ≡ false)
IsNext octets (found.OtherVersion version passed) left s = (header octets ≡ headers.OtherVersion version) × (passed ≡ length octets)
    × (s.rest ≡ []) × (left ≡ []) × (s.is_sought ≡ true)

-- what is kept: no more than the packet that its header says; while one is sought, too few octets to decide
abbrev pub IsWithinBy : Header → (length : ℕ) → Type 0
IsWithinBy headers.Cut n = Unit {0}
IsWithinBy (headers.OtherVersion v) n = n ≤ 4
IsWithinBy (headers.Length m) n = n ≤ 4 + m

abbrev pub IsKept : (is_sought : Bool) → (rest : List ℕ) → Type 0
IsKept true rest = length rest < 7
IsKept false rest = IsWithinBy (header rest) (length rest)
