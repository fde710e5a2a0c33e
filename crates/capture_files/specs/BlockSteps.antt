-- What a reader of a pcapng file does next.
use Rattle.std.specs.Prelude.{◌≡◌, ◌≢◌, ◌⊎◌, ◌+◌, ◌^◌, ◌<◌, ◌≤◌, ℕ, Bool, List, [], ◌∷◌, ◌++◌, Option, None, Some, IfSome, length, slice_get}
use Rattle.capture_model.specs.Frames.{Frame}
use Rattle.capture_files.specs.declared.entry.Entry.{Entry}
use Rattle.capture_files.specs.declared.interface.Interface.{Interface}
use Rattle.capture_files.specs.declared.packet_block.Placed.{Placed}
use Rattle.capture_files.specs.declared.pcapng.Pcapng.{Pcapng}
use Rattle.capture_files.specs.BlockFrames.{block_frame, body_of, frame_direction, placed_in}
use Rattle.capture_files.specs.Blocks.{BeginsBlock, IsBlock, IsCutBlock, order_at}
use Rattle.capture_files.specs.Entries.{frame_at}
use Rattle.capture_files.specs.Interfaces.{interface_in}
use Rattle.capture_files.specs.Numbers.{next_number, number}
use Rattle.capture_files.specs.Windows.{WindowView}

-- the most octets that a simple block keeps of a frame: that of the first interface, 0 for all
abbrev pub snap_of : Option Interface → ℕ
snap_of None = 0
snap_of (Some i) = i.snap

abbrev pub first_snap : List Interface → ℕ
first_snap interfaces = snap_of (slice_get interfaces 0)

-- a frame is that of the body of a block of this type: of an interface that was described, and with the next number
pub record IsFrameOf (big : Bool) (kind : ℕ) (interfaces : List Interface) (first n : ℕ) (body : List ℕ) (frame : Frame) : Type 0 where
  pub placed : Placed
  pub interface : Interface
  pub place : placed_in big kind (first_snap interfaces) body ≡ Some placed
  pub described : slice_get interfaces placed.which ≡ Some interface
  pub same : frame ≡ block_frame placed interface first n (frame_direction big placed body) body

-- after the description of an interface: there is one more, or none where the description is too short, or the section has
-- 65,536
abbrev pub IsOneMore : Bool → (body : List ℕ) → (before after : List Interface) → Type 0
IsOneMore big body before after = ((length body < 16) × (after ≡ before)) ⊎ ((length before ≡ 2 ^ 16) × (after ≡ before))
    ⊎ (after ≡ before ++ interface_in big body ∷ [])

-- what a block of this type does to the interfaces of its section: it begins another one, describes one, or leaves them
abbrev pub IsDescribed : Bool → (kind : ℕ) (body : List ℕ) → (before after : List Interface) → Type 0
IsDescribed big kind body before after = (kind ≡ 168627466 → after ≡ []) × (kind ≡ 1 → IsOneMore big body before after) × (kind ≢ 168627466 → kind ≢ 1 → after ≡ before)

-- the entry of a block, in the byte order from it on, after these interfaces of its section, and after the last frame
pub record IsBlockEntry (big : Bool) (interfaces after : List Interface) (first last : ℕ) (octets ahead : List ℕ) (e : Entry) : Type 0 where
  -- the octets are one block, or the beginning of one with which the file ends
  pub block : IsBlock big octets ⊎ (IsCutBlock big octets × (ahead ≡ []))
  pub frame : IfSome e.frame (λ h. (h.from + h.kept ≤ length octets) × IsFrameOf big (number big octets) interfaces first (next_number last) (body_of big octets) (frame_at h octets))
  pub described : IsDescribed big (number big octets) (body_of big octets) interfaces after

-- the entry of octets that are passed over: there are some only in a search, or where no block begins
pub record IsPassed (p q : Pcapng) (octets ahead : List ℕ) (e : Entry) : Type 0 where
  pub frame : e.frame ≡ None
  pub interfaces : q.interfaces.items ≡ p.interfaces.items
  pub none : p.search ≡ None → BeginsBlock (order_at p.is_big (octets ++ ahead)) (octets ++ ahead) → ⊥

abbrev pub IsBlockStep : (before after : Pcapng) → WindowView → Option Entry → Type 0
IsBlockStep p q w None = (p.search ≡ None) × (w.last ≡ []) × (w.ahead ≡ [])
IsBlockStep p q w (Some e) = IsPassed p q w.last w.ahead e ⊎ IsBlockEntry (order_at p.is_big w.last) p.interfaces.items q.interfaces.items p.first_interface p.number w.last w.ahead e
