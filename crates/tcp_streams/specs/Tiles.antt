-- What a direction gave out, against the segments that were recorded of it.
use Rattle.std.specs.Prelude.{◌≡◌, ℕ, ◌+◌, ◌<◌, ◌≤◌, List, [], ◌∷◌, ◌++◌, length, Some, None}
use Rattle.std.specs.List.{Contains}
use Rattle.tcp_streams.specs.Numbers.{fin_numbers}
use Rattle.tcp_streams.specs.Pieces.{Mark, copy_at, mark_at}
use Rattle.tcp_streams.specs.declared.connection.End.{End}
use Rattle.tcp_streams.specs.declared.connection.End.TheVariants.{Opener, Answerer}
use Rattle.tcp_streams.specs.declared.connection.Event.{Event}
use Rattle.tcp_streams.specs.declared.connection.Event.TheVariants as event
use Rattle.tcp_streams.specs.declared.flow.Flow.{Flow}
use Rattle.tcp_streams.specs.declared.piece.Piece.{Piece}

-- no segment has one of the places
abbrev pub AreMissing : (from to : ℕ) → List Piece → Type 0
AreMissing from to segments = (place : ℕ) → from ≤ place → place < to → copy_at place segments ≡ None

-- a piece has what the first segment has that was recorded with a place
abbrev pub AreFirstCopies : (from to : ℕ) → Piece → List Piece → Type 0
AreFirstCopies from to p segments = (place : ℕ) → from ≤ place → place < to → mark_at place p ≡ copy_at place segments

-- what is given out at some places: a piece, or a gap
pub data Tile : Type 0 where
  Given : Piece → Tile
  Missing : (octets : ℕ) → Tile

-- of a piece, each place is the first copy; of a gap, no segment had one that was recorded before the gap was given up
abbrev pub IsTile : List Piece → (from : ℕ) → Tile → (to : ℕ) → Type 0
IsTile segments from (Given p) to = (p.at ≡ from) × (p.until ≡ to) × (from + length p.octets ≤ to) × AreFirstCopies from to p segments
IsTile segments from (Missing n) to = (from + n ≡ to) × ((seen : List Piece) × (later : List Piece) × (segments ≡ seen ++ later) × AreMissing from to seen)

-- tiles from a place up to another: each place once, and in order
abbrev pub AreTiles : List Piece → (from : ℕ) → List Tile → (to : ℕ) → Type 0
AreTiles segments from [] to = from ≡ to
AreTiles segments from (t ∷ ts) to = (mid : ℕ) × IsTile segments from t mid × AreTiles segments mid ts to

-- pieces that wait: in the order of their places, each with a place
pub record IsPlaced (from : ℕ) (p : Piece) : Type 0 where
  pub begins : from ≤ p.at
  pub some : p.at < p.until
  pub octets : p.at + length p.octets + fin_numbers p.is_end ≤ p.until

abbrev pub AreOrdered : (from : ℕ) → List Piece → Type 0
AreOrdered from [] = Unit {0}
AreOrdered from (p ∷ ps) = IsPlaced from p × AreOrdered p.until ps

-- a direction whose beginning is known gave these tiles out, from its first place up to the next one; of the places from there
-- on, the first copies wait
pub record IsTiled (f : Flow) (segments : List Piece) (first : ℕ) (tiles : List Tile) : Type 0 where
  pub next : ℕ
  pub known : f.next ≡ Some next
  pub given : AreTiles segments first tiles next
  pub ordered : AreOrdered next f.waiting
  pub copies : (place : ℕ) → next ≤ place → copy_at place f.waiting ≡ copy_at place segments

-- an event of a direction is a tile
abbrev pub tiles_if : (whose end : End) → Tile → List Tile
tiles_if Opener Opener t = t ∷ []
tiles_if Answerer Answerer t = t ∷ []
tiles_if e d t = []

abbrev pub tile_of : End → Event → List Tile
tile_of e (event.Piece d p) = tiles_if e d (Given p)
tile_of e (event.Gap g) = tiles_if e g.end (Missing g.octets)

-- segments that have a place have the same there
abbrev pub AreConsistent : List Piece → Type 0
AreConsistent segments = (place : ℕ) (p q : Piece) (m n : Mark) → Contains segments p → Contains segments q
    → mark_at place p ≡ Some m → mark_at place q ≡ Some n → m ≡ n
