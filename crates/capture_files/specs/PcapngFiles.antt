-- What a pcapng file has, by its octets.
use Rattle.std.specs.Prelude.{◌≡◌, ◌↔◌, ℕ, zero, suc, Bool, true, false, List, [], ◌∷◌, ◌++◌, Option, None, Some, drop, length, nat_eq, take, if◌then◌else◌}
use Rattle.std.specs.Option.{option_and_then, option_map}
use Rattle.capture_files.specs.Blocks.{IsWholeBlock, block_length, order_at}
use Rattle.capture_files.specs.Numbers.{number}
use Rattle.capture_files.specs.PcapngRecords.{Reading, Section, block_read, no_section, ordered, whole_read}
use Rattle.capture_files.specs.Records.{Record, record_of}
use Rattle.capture_files.specs.declared.entry.Entry.{Entry}
use Rattle.capture_files.specs.declared.pcapng.BlockSearch.{BlockSearch}
use Rattle.capture_files.specs.declared.pcapng.Pcapng.{Pcapng}

-- the length of the block at the front
abbrev pub front_size : Section → List ℕ → ℕ
front_size s file = block_length (order_at s.is_big file) file

abbrev pub front_read : Section → List ℕ → Option Reading
front_read s file = block_read s (take (front_size s file) file)

-- blocks that follow each other up to the end of the file, at most this many; none where one is damaged, or there are more
abbrev pub blocks_within : (most : ℕ) → Section → List ℕ → Option (List Record)
blocks_within most s [] = Some []
blocks_within zero s (x ∷ xs) = None
blocks_within (suc most) s (x ∷ xs) = elim (front_read s (x ∷ xs)) [
  | None ↦ None
  | Some t ↦ option_map (λ rs. t.gives ∷ rs) (blocks_within most t.after (drop (front_size s (x ∷ xs)) (x ∷ xs)))
]

abbrev pub block_records : Section → List ℕ → Option (List Record)
block_records s file = blocks_within (length file) s file

-- the records of a whole file, after the frame of the number `last`, one for each block: its first block begins a section
abbrev pub pcapng_records : (last : ℕ) → List ℕ → Option (List Record)
pcapng_records last file = if nat_eq (number true file) 0x0A0D0D0A then block_records (no_section last) file else None

-- octets are whole blocks, one behind the other, that give these records
abbrev pub AreBlocks : Section → List ℕ → List Record → Type 0
AreBlocks s octets [] = octets ≡ []
AreBlocks s octets (r ∷ rs) = (one rest : List ℕ) × (t : Reading) × (octets ≡ one ++ rest) × IsWholeBlock (order_at s.is_big one) one × (whole_read (ordered s one) one ≡ Some t) × (r ≡ t.gives) × AreBlocks t.after rest rs

-- a file has those records that its blocks give
abbrev pub BlocksLaw : Type 0
BlocksLaw = (s : Section) (octets : List ℕ) (records : List Record) → (block_records s octets ≡ Some records) ↔ AreBlocks s octets records

-- ---- a reader

abbrev pub section_of : Pcapng → Section
section_of p = record { is_big = p.is_big; interfaces = p.interfaces.items; dropped = p.dropped.items; first = p.first_interface; last = p.number }

-- those that a reader has left; after a damage it is left open which they are
abbrev pub pcapng_ahead : Option BlockSearch → (is_damaged : Bool) → Section → List ℕ → Option (List Record)
pcapng_ahead None false s file = block_records s file
pcapng_ahead None true s file = None
pcapng_ahead (Some search) is_damaged s file = None

abbrev pub pcapng_left : Pcapng → Option (List ℕ) → Option (List Record)
pcapng_left p file = option_and_then (pcapng_ahead p.search p.is_damaged (section_of p)) file

-- a reader has found no damage, and read what this reading says
pub record IsRead (t : Reading) (p : Pcapng) (octets : List ℕ) (e : Entry) : Type 0 where
  pub gives : record_of octets e ≡ t.gives
  pub after : section_of p ≡ t.after
  pub sound : p.is_damaged ≡ false
  pub free : p.search ≡ None

-- where it found none before, and octets have such a reading, it has read it
abbrev pub Reads : Option Reading → (before after : Pcapng) → (octets : List ℕ) → Entry → Type 0
Reads reading p q octets e = p.is_damaged ≡ false → p.search ≡ None → (t : Reading) → reading ≡ Some t → IsRead t q octets e

-- it has not gone on
pub record IsUnchanged (before after : Pcapng) : Type 0 where
  pub section : section_of after ≡ section_of before
  pub damaged : after.is_damaged ≡ before.is_damaged
  pub search : after.search ≡ before.search
