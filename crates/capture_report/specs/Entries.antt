-- The records of a file's entries.
use Rattle.std.specs.Prelude.{◌+◌, ◌≤◌, ℕ, Bool, List, Option, None, Some, IfSome, IsSome, is_some, length, if◌then◌else◌}
use Rattle.capture_files.specs.CaptureFiles.{records_left}
use Rattle.capture_files.specs.Records.{Record}
use Rattle.capture_files.specs.Windows.{WindowView}
use Rattle.capture_files.specs.declared.capture.CaptureFile.{CaptureFile}
use Rattle.capture_files.specs.declared.entry.Entry.{Entry}
use Rattle.capture_report.specs.Circuits.{next_number}
use Rattle.capture_report.specs.declared.file_frames.FileFlaws.{FileFlaws}

-- the octets of its frame are among those that were consumed last
abbrev pub IsFrameWithin : Entry → List ℕ → Type 0
IsFrameWithin e octets = IfSome e.frame (λ h. h.from + h.kept ≤ length octets)

abbrev pub IsWithin : Option Entry → WindowView → Type 0
IsWithin e w = IfSome e (λ e. IsFrameWithin e w.last)

-- what the frames of a file show: what they will give, and what they gave last
pub record FileView : Type 0 where
  pub left : Option (List Record)
  pub latest : Option Record

-- what they will give of the octets that are still to be read, where the source showed its octets from the beginning on
abbrev pub shown_left : (at_first : Option (List ℕ)) → CaptureFile → (now : Option (List ℕ)) → Option (List Record)
shown_left None file now = None
shown_left (Some octets) file now = records_left file now

-- a source that showed its octets at first does so now
abbrev pub IsStillShown : (at_first now : Option (List ℕ)) → Type 0
IsStillShown at_first now = IsSome at_first → IsSome now

-- the damages of entries, of their frames too, and the blocks that hold no frame
abbrev pub next_if : Bool → ℕ → ℕ
next_if b n = if b then next_number n else n

abbrev pub flaws_after : Option Entry → FileFlaws → FileFlaws
flaws_after None f = f
flaws_after (Some e) f = record { damages = next_if (is_some e.frame_damage) (next_if (is_some e.damage) f.damages); other_blocks = next_if (is_some e.other_block) f.other_blocks }
