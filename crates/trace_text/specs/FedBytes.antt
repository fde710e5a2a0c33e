-- How many bytes a reader was fed.
use Rattle.std.specs.Prelude.{◌≡◌, ℕ, ◌+◌, List, length}
use Rattle.std.proofs.Common.{◌∙◌, ap}
use Rattle.line_model.specs.text.Text.{ended_lines, size_of}
use Rattle.line_model.proofs.TextLemmas.{size_of-ended}
use Rattle.trace_text.specs.Progress.{Progress, bytes_fed}
use Rattle.trace_text.specs.Represents.{Represents}

-- those of the text that it represents
pub fed_length : (reader : Progress) (x : List ℕ) → Represents reader x → bytes_fed reader ≡ length x
fed_length reader x s = ap (λ n. n + length reader.begun) s.start ∙ ap (λ (xs : List ℕ). size_of (ended_lines x) + length xs) s.begun ∙ size_of-ended x
