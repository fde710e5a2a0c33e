-- What the other sink has, by what it had before.
use Rattle.std.specs.Prelude.{◌≡◌, ℕ, ◌<◌, ◌≤◌, true, false, List, [], length, take, drop, Option, None, Some}
use Rattle.line_model.specs.basics.Device.{with_more}
use Rattle.line_model.specs.text.Text.{begun_line}
use Rattle.json_lines.specs.Json.{json_text, line_room}
use Rattle.line_model.specs.basics.Written.{Writes, has_failed, held_bytes}
use Rattle.json_lines.specs.declared.lines.JsonLines.{JsonLines}

-- what a sink that shows its bytes took since it had taken others
abbrev pub since : (before taken : Option (List ℕ)) → List ℕ
since None taken = []
since (Some front) None = []
since (Some front) (Some all) = drop (length front) all

-- a sink took a first part of a text
abbrev pub IsFirstPart : (before taken : Option (List ℕ)) → (text : List ℕ) → Type 0
IsFirstPart before taken text = (taken ≡ with_more before (since before taken)) × (take (length (since before taken)) text ≡ since before taken)

-- the line that has not ended is held, as far as there is room
abbrev pub HoldsLine : JsonLines → Type 0
HoldsLine l = l.line.items ≡ take line_room (begun_line l.given.bytes)

-- the objects of the lines that were received and have ended are on their way
pub record Goes (before taken : Option (List ℕ) × ℕ) (l : JsonLines) : Type 0 where
  pub writes : Writes before taken l.buffer (json_text l.given.bytes)
  pub line : HoldsLine l

-- between calls: the sink took these objects and nothing is held back, or it has failed and took a first part of them
abbrev pub IsBetweenCalls : (before taken : Option (List ℕ) × ℕ) → JsonLines → Type 0
IsBetweenCalls before taken l =
    HoldsLine l
    × (held_bytes l.buffer ≡ [])
    × (has_failed l.buffer ≡ false → taken.0 ≡ with_more before.0 (json_text l.given.bytes))
    × IsFirstPart before.0 taken.0 (json_text l.given.bytes)
    × (before.1 ≤ taken.1)
    × (has_failed l.buffer ≡ true → before.1 < taken.1)
    × (0 < length l.refused.bytes → has_failed l.buffer ≡ true)
