-- What is done with a connection, and what comes of it for one end.
use Rattle.std.specs.Prelude.{◌≡◌, ℕ, ◌&&◌, ◌≤◌, not, Bool, true, false, List, [], ◌∷◌, ◌++◌, Option, Some, None, if◌then◌else◌}
use Rattle.std.specs.List.{Contains}
use Rattle.ip_segments.specs.Segments.{Segment}
use Rattle.tcp_streams.specs.Pieces.{Mark, mark_at}
use Rattle.tcp_streams.specs.Numbers.{awaited}
use Rattle.tcp_streams.specs.Flows.{is_empty, is_place, part_of}
use Rattle.tcp_streams.specs.Connections.{Next, fed_after, is_next, last_event, lent_if, may_go, next_event, other, own, place_of}
use Rattle.tcp_streams.specs.Tiles.{Given, IsTiled, Tile, tile_of, tiles_if}
use Rattle.tcp_streams.specs.declared.connection.Connection.{Connection}
use Rattle.tcp_streams.specs.declared.connection.End.{End}
use Rattle.tcp_streams.specs.declared.connection.End.TheVariants.{Opener, Answerer}
use Rattle.tcp_streams.specs.declared.flow.Flow.{Flow}
use Rattle.tcp_streams.specs.declared.piece.Piece.{Piece}
use Rattle.tcp_streams.specs.declared.piece.Recorded.{Recorded}

-- a call: `feed`, `lend`, `next` and `finish`
pub data Call : Type 0 where
  Feed : End → Segment → Recorded → Call
  Lend : End → Segment → Recorded → Call
  TakeNext : (is_memory_full : Bool) → Call
  Finish : Call

-- the connection, and of one end the segments that were recorded, in their order, and the tiles that were given out
pub record Log : Type 0 where
  pub connection : Connection
  pub segments : List Piece
  pub tiles : List Tile

abbrev pub is_same : End → End → Bool
is_same Opener Opener = true
is_same Answerer Answerer = true
is_same d e = false

-- a segment of an end, at the places nearest to the next one; after 2^62 places none is read
abbrev pub said_by : (whose end : End) → Segment → Recorded → Flow → List Piece
said_by d e s r f = if is_same d e && (not (is_empty s) && is_place (place_of f)) then part_of (place_of f) s r ∷ [] else []

abbrev pub logged_event : End → Option Next → Log → Log
logged_event e None l = l
logged_event e (Some x) l = record { connection = x.after; segments = l.segments; tiles = l.tiles ++ tile_of e x.event }

abbrev pub logged_lent : End → End → Segment → Recorded → Log → Log
logged_lent e d s r l = record {
  connection = lent_if d s l.connection;
  segments = l.segments ++ said_by d e s r (own e l.connection);
  tiles = l.tiles ++ tiles_if e d (Given (part_of (place_of (own e l.connection)) s r));
}

abbrev pub logged : End → Call → Log → Log
logged e (Feed d s r) l = record { connection = fed_after d s r l.connection; segments = l.segments ++ said_by d e s r (own e l.connection); tiles = l.tiles }
logged e (Lend d s r) l = if is_next d s l.connection then logged_lent e d s r l else l
logged e (TakeNext full) l = logged_event e (next_event full l.connection) l
logged e Finish l = logged_event e (last_event l.connection) l

abbrev pub run : End → List Call → Log → Log
run e [] l = l
run e (call ∷ calls) l = run e calls (logged e call l)

-- the tiles of an end go from its first place up to its next one
abbrev pub IsLogged : End → (first : ℕ) → Log → Type 0
IsLogged e first l = IsTiled (own e l.connection) l.segments first l.tiles

-- one of the tiles has this at a place
pub record IsGiven (tiles : List Tile) (place : ℕ) (m : Mark) : Type 0 where
  pub piece : Piece
  pub there : Contains tiles (Given piece)
  pub same : mark_at place piece ≡ Some m

-- the piece of an end goes whose turn it is: what it acknowledges was given out, and no piece of a lower frame may go
pub record IsFirst (c : Connection) (d : End) (p : Piece) : Type 0 where
  pub answers : awaited (other d c).next p.acknowledged ≡ 0
  pub lowest : (q : Piece) (qs : List Piece) → (other d c).waiting ≡ q ∷ qs → may_go (other d c).next (own d c).next q ≡ true
      → p.recorded.frame ≤ q.recorded.frame
