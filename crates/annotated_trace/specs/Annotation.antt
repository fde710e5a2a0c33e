-- A trace with comments after its lines.
use Rattle.std.specs.Prelude.{◌≡◌, ℕ, ◌==◌, ◌&&◌, ◌<◌, ◌≤◌, Bool, true, false, List, [], ◌∷◌, ◌++◌, filter, flat_map, map, length, codes}
use Rattle.std.specs.List.{list_any, AllByRecursion}
use Rattle.line_model.specs.observer.Report.{finding_line}
use Rattle.line_model.specs.text.Text.{Line, is_comment, is_lf, line_limit, lines_of}
use Rattle.line_model.specs.traces.Traces.{text}
use Rattle.line_model.specs.declared.finding.Finding.{Finding}
use Rattle.trace_text.specs.ObserverAnswers.{found_in}
use Rattle.annotated_trace.specs.Rows.{is_chosen_line}
use Rattle.annotated_trace.specs.declared.rows.Rows.{Rows}
use Rattle.annotated_trace.specs.declared.rows.Rows.TheVariants.{All, Chosen}

-- the bytes have no LF
abbrev pub IsOneLine : List ℕ → Type 0
IsOneLine bytes = list_any is_lf bytes ≡ false

-- a comment line of a trace: it begins with `#`, and is no longer than a line may be
pub record IsComment (comment : Line) : Type 0 where
  pub begins : is_comment comment ≡ true
  pub one : IsOneLine comment
  pub short : length comment ≤ line_limit

-- each line is a comment
abbrev pub AreComments : List Line → Type 0
AreComments comments = AllByRecursion IsComment comments

-- a line that begins with `#!` marks a finding
abbrev pub is_mark : Line → Bool
is_mark (a ∷ b ∷ rest) = (a == 35) && (b == 33)
is_mark _ = false

-- the marks among some lines
abbrev pub marks_in : List Line → List Line
marks_in ls = filter is_mark ls

-- what a mark says after its finding: nothing, or words after a colon
abbrev pub explained : (words : List ℕ) → List ℕ
explained [] = []
explained words = codes ": " ++ words

-- `#! ` and the finding's line of the report, and words that explain it or none
pub record IsMarkOf (finding : Finding) (mark : Line) : Type 0 where
  pub finding_text : Line
  pub words : List ℕ
  pub line : finding_line finding ≡ finding_text ++ 10 ∷ []
  pub mark_is : mark ≡ codes "#! " ++ (finding_text ++ explained words)

-- a mark for each finding, in the same order
abbrev pub AreMarksOf : List Finding → List Line → Type 0
AreMarksOf [] [] = Unit {0}
AreMarksOf (finding ∷ findings) (mark ∷ marks) = IsMarkOf finding mark × AreMarksOf findings marks
AreMarksOf _ _ = ⊥

-- a line of a trace, and the comments after it
pub record Annotated : Type 0 where
  pub line : Line
  pub comments : List Line

-- the line and its comments
abbrev pub with_comments : Annotated → List Line
with_comments a = a.line ∷ a.comments

-- the lines without their comments
abbrev pub bare_lines : List Annotated → List Line
bare_lines annotated = map (λ a. a.line) annotated

-- all of these lines
abbrev pub all_lines : List Annotated → List Line
all_lines annotated = flat_map with_comments annotated

-- a line has the marks of exactly the findings that came with it
pub record HasItsMarks (before : List Line) (a : Annotated) : Type 0 where
  pub findings : List Finding
  pub came : found_in (before ++ a.line ∷ []) ≡ found_in before ++ findings
  pub marks : AreMarksOf findings (marks_in a.comments)

-- at least one comment follows a line
abbrev pub HasComment : Annotated → Type 0
HasComment a = 0 < length a.comments

-- a line that is described has its marks and at least one comment; no comment follows any other line
abbrev pub IsMarkedWhere : (picked : Bool) → (before : List Line) → Annotated → Type 0
IsMarkedWhere true before a = HasItsMarks before a × HasComment a
IsMarkedWhere false before a = a.comments ≡ []

-- where all rows are described, each line has its marks, and each that writes a row at least one comment; otherwise exactly the lines of the rows
-- that are chosen are described
abbrev pub IsMarked : Rows → (before : List Line) → Annotated → Type 0
IsMarked All before a = HasItsMarks before a × (is_chosen_line All before a.line ≡ true → HasComment a)
IsMarked (Chosen channel call) before a = IsMarkedWhere (is_chosen_line (Chosen channel call) before a.line) before a

-- the same of lines that come after others
abbrev pub AreMarked : Rows → (before : List Line) → List Annotated → Type 0
AreMarked choice before [] = Unit {0}
AreMarked choice before (a ∷ annotated) = IsMarked choice before a × AreMarked choice (before ++ a.line ∷ []) annotated

-- bytes are a line after others as it was, with its LF, and comments after it that mark its findings
pub record IsAnnotatedLine (choice : Rows) (before : List Line) (l : Line) (bytes : List ℕ) : Type 0 where
  pub comments : List Line
  pub written : bytes ≡ text (l ∷ comments)
  pub are_comments : AreComments comments
  pub marked : IsMarked choice before (record { line = l; comments = comments })

-- bytes are some lines, each with comments after it that mark its findings
pub record IsAnnotationOf (choice : Rows) (ls : List Line) (bytes : List ℕ) : Type 0 where
  pub annotated : List Annotated
  pub bare : bare_lines annotated ≡ ls
  pub written : bytes ≡ text (all_lines annotated)
  pub comments : AllByRecursion (λ a. AreComments a.comments) annotated
  pub marked : AreMarked choice [] annotated

-- bytes are comments that mark nothing
pub record IsUnmarked (bytes : List ℕ) : Type 0 where
  pub closing : List Line
  pub written : bytes ≡ text closing
  pub comments : AreComments closing
  pub unmarked : marks_in closing ≡ []

-- an annotation of a whole text: that of its lines, and after them comments that mark nothing
pub record IsAnnotation (choice : Rows) (source bytes : List ℕ) : Type 0 where
  pub front : List ℕ
  pub closing : List Line
  pub lines : IsAnnotationOf choice (lines_of source) front
  pub whole : bytes ≡ front ++ text closing
  pub comments : AreComments closing
  pub unmarked : marks_in closing ≡ []
