-- The blocks of a pcapng file.
use Rattle.std.specs.Prelude.{◌≡◌, ℕ, ◌-◌, ◌%◌, ◌^◌, ◌<◌, ◌≤◌, ◌&&◌, ◌||◌, Bool, true, false, List, drop, length, nat_eq, nat_le, nat_lt, if◌then◌else◌}
use Rattle.capture_files.specs.declared.block.BlockStart.{BlockStart}
use Rattle.capture_files.specs.declared.block.BlockStart.TheVariants.{End, HeadCut, Unusable, Block}
use Rattle.capture_files.specs.Numbers.{number}

-- the byte order from a block on, by its type and its third number: that of the section that it begins, else the one before
abbrev pub order_of : (before : Bool) (kind magic : ℕ) → Bool
order_of before kind magic = if nat_eq kind 168627466 then (if nat_eq magic 439041101 then true else (if nat_eq magic 1295788826 then false else before)) else before

-- the byte order from the block at the front on
abbrev pub order_at : (before : Bool) → List ℕ → Bool
order_at before file = if nat_lt (length file) 12 then before else order_of before (number true file) (number true (drop 8 file))

-- the length of the block at the front, with its head and its second length
abbrev pub block_length : Bool → List ℕ → ℕ
block_length big file = number big (drop 4 file)

-- a block begins at the front: its head is there, and its length is one of whole words
pub record BeginsBlock (big : Bool) (file : List ℕ) : Type 0 where
  pub head : 12 ≤ length file
  pub least : 12 ≤ block_length big file
  pub words : block_length big file % 4 ≡ 0
  pub most : block_length big file ≤ 2 ^ 24

-- octets that are one block
pub record IsBlock (big : Bool) (octets : List ℕ) : Type 0 where
  pub begins : BeginsBlock big octets
  pub whole : length octets ≡ block_length big octets

-- the same, with its length again at its end
pub record IsWholeBlock (big : Bool) (octets : List ℕ) : Type 0 where
  pub one : IsBlock big octets
  pub again : number big (drop (length octets - 4) octets) ≡ length octets

-- whether octets are such a block
abbrev pub is_whole : Bool → List ℕ → Bool
is_whole big octets = nat_le 12 (length octets) && nat_eq (block_length big octets) (length octets) && nat_eq (length octets % 4) 0
    && nat_le (length octets) 16777216 && nat_eq (number big (drop (length octets - 4) octets)) (length octets)

-- types of blocks without a frame that are numbered as if they had one, as Wireshark does: journal entries and custom blocks
abbrev pub is_numbered : (kind : ℕ) → Bool
is_numbered kind = nat_eq kind 9 || nat_eq kind 0xBAD || nat_eq kind 0x40000BAD

-- octets that are the beginning of a block
pub record IsCutBlock (big : Bool) (octets : List ℕ) : Type 0 where
  pub begins : BeginsBlock big octets
  pub cut : length octets < block_length big octets

-- what begins at the front of a file
abbrev pub IsBlockStart : Bool → List ℕ → BlockStart → Type 0
IsBlockStart big file End = length file ≡ 0
IsBlockStart big file (HeadCut n) = (0 < length file) × (length file < 12)
IsBlockStart big file (Unusable n) = (12 ≤ length file) × (BeginsBlock big file → ⊥)
IsBlockStart big file (Block n) = BeginsBlock big file × (n ≡ block_length big file)
