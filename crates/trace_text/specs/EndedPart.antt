-- A text up to its last LF.
use Rattle.std.specs.Prelude.{ℕ, List, take}
use Rattle.line_model.specs.text.Text.{ended_lines, size_of}

-- the lines that an LF ends, with their LFs
abbrev pub ended_part : List ℕ → List ℕ
ended_part text = take (size_of (ended_lines text)) text
