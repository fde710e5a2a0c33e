-- Frames as contracts see them.
use Rattle.std.specs.Prelude.{ℕ, List, Option}
use Rattle.capture_model.specs.declared.frame.Direction.{Direction}
use Rattle.capture_model.specs.declared.time.Nanos.{Nanos}
use Rattle.capture_model.specs.declared.frame.Frame as declared

-- a frame without where its octets lie in memory
pub record Frame : Type 0 where
  -- its number from 1, and the link type
  pub number : ℕ
  pub link : ℕ
  -- the octets that were kept, and how many there were on the line
  pub octets : List ℕ
  pub length : ℕ
  pub direction : Direction
  pub interface : ℕ
  pub time : Option Nanos

abbrev pub frame_view : declared.Frame → Frame
frame_view f = record {
  number = f.number;
  link = f.link;
  octets = f.octets.now;
  length = f.length;
  direction = f.direction;
  interface = f.interface;
  time = f.time;
}
