-- Frames by where their octets are.
use Rattle.std.specs.Prelude.{ℕ, List, drop, take}
use Rattle.capture_model.specs.Frames.{Frame}
use Rattle.capture_files.specs.declared.entry.FrameHead.{FrameHead}

-- the frame with these octets
abbrev pub frame_with : FrameHead → List ℕ → Frame
frame_with h octets = record {
  number = h.number;
  link = h.link;
  octets = octets;
  length = h.length;
  direction = h.direction;
  interface = h.interface;
  time = h.time;
}

-- the frame whose octets are among these
abbrev pub frame_at : FrameHead → List ℕ → Frame
frame_at h octets = frame_with h (take h.kept (drop h.from octets))
