-- Lines that are known by their words.
use Rattle.std.specs.Prelude.{◌≤◌, ℕ, List, [], ◌∷◌, length}
use Rattle.std.specs.List.{AllByRecursion}
use Rattle.line_model.specs.observer.Report.{line}
use Rattle.trace_text.specs.Cuts.{Lacks}
use Rattle.json_lines.specs.Json.{line_room}

-- a word of a line: it has no space and no line feed
abbrev pub IsPlain : List ℕ → Type 0
IsPlain word = Lacks 32 word × Lacks 10 word

-- the words of a line that has room: at least one, each of them plain
abbrev pub IsLine : List (List ℕ) → Type 0
IsLine [] = ⊥
IsLine (word ∷ words) = AllByRecursion IsPlain (word ∷ words) × (length (line (word ∷ words)) ≤ line_room)
