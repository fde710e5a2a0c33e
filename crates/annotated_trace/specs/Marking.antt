-- The marks that are written.
use Rattle.std.specs.Prelude.{◌≡◌, ℕ, Bool, true, false, ◌<◌, ◌^◌, List, [], ◌∷◌, ◌++◌, codes, decimal, length}
use Rattle.line_model.specs.observer.Report.{code_word, side_word, state_word}
use Rattle.line_model.specs.text.Text.{Line}
use Rattle.line_model.specs.traces.Traces.{text}
use Rattle.line_model.specs.declared.finding.Code.{Code}
use Rattle.line_model.specs.declared.finding.Code.TheVariants.{Number, Pad}
use Rattle.line_model.specs.declared.finding.Finding.{Finding}
use Rattle.annotated_trace.specs.Annotation.{AreComments, AreMarksOf, IsComment, IsMarkOf, explained, marks_in}
use Rattle.annotated_trace.specs.Rows.{is_chosen_line}
use Rattle.annotated_trace.specs.declared.rows.Rows.{Rows}
use Rattle.annotated_trace.specs.declared.rows.Rows.TheVariants.{All, Chosen}

-- a finding's line of the report, without its LF
abbrev pub finding_words : Finding → List ℕ
finding_words f = codes "F " ++ (decimal f.packet ++ 32 ∷ (side_word f.side ++ 32 ∷ (state_word f.state ++ 32 ∷ code_word f.code)))

-- its mark, with words that explain it or none
abbrev pub mark_line : Finding → (words : List ℕ) → Line
mark_line f words = codes "#! " ++ (finding_words f ++ explained words)

-- the range of a code's number
abbrev pub IsCode : Code → Type 0
IsCode (Number n) = n < 2 ^ 32
IsCode (Pad x) = Unit {0}

-- the mark of a finding was appended to bytes
pub record HasMarkOf (finding : Finding) (before after : List ℕ) : Type 0 where
  pub mark : Line
  pub written : after ≡ before ++ text (mark ∷ [])
  pub comment : IsComment mark
  pub mark_of : IsMarkOf finding mark

-- lines that are the marks of these findings were appended to bytes, and nothing else
pub record HasMarksOf (findings : List Finding) (before after : List ℕ) : Type 0 where
  pub marks : List Line
  pub written : after ≡ before ++ text marks
  pub comments : AreComments marks
  pub all : marks_in marks ≡ marks
  pub marks_are : AreMarksOf findings marks

-- the comments after a line with these findings have their marks, and there is at least one where the line is described; where rows are
-- chosen, no comment follows any other line
abbrev pub HaveMarksOf : Rows → (picked : Bool) → List Finding → List Line → Type 0
HaveMarksOf All picked findings behind = AreMarksOf findings (marks_in behind) × (picked ≡ true → 0 < length behind)
HaveMarksOf (Chosen channel call) true findings behind = AreMarksOf findings (marks_in behind) × (0 < length behind)
HaveMarksOf (Chosen channel call) false findings behind = behind ≡ []

-- the comments after a line with these findings were appended to bytes
pub record HasCommentsOf (choice : Rows) (picked : Bool) (findings : List Finding) (before after : List ℕ) : Type 0 where
  pub behind : List Line
  pub written : after ≡ before ++ text behind
  pub comments : AreComments behind
  pub marks : HaveMarksOf choice picked findings behind

-- what a describer says of the line after others: where all rows are described, that each line of one is; where rows are chosen, exactly
-- whether it is described
abbrev pub IsPickedRightly : Rows → (before : List Line) → Line → (picked : Bool) → Type 0
IsPickedRightly All before l picked = is_chosen_line All before l ≡ true → picked ≡ true
IsPickedRightly (Chosen channel call) before l picked = picked ≡ is_chosen_line (Chosen channel call) before l

-- the comments of the line after others, which is described or not, were appended to bytes
abbrev pub HasRightComments : (choice : Rows) (before : List Line) → Line → List Finding → (bytes bytes_after : List ℕ) → Type 0
HasRightComments choice before l findings bytes bytes_after =
    (picked : Bool) × IsPickedRightly choice before l picked × HasCommentsOf choice picked findings bytes bytes_after
