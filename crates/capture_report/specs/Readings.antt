-- What the first reading of a capture does.
use Rattle.std.specs.Prelude.{◌≡◌, Bool, true, false, List, [], ◌∷◌, ◌++◌, Option, Some}
use Rattle.std.specs.List.{flat_map}
use Rattle.capture_rows.specs.declared.line.Line.{Line}
use Rattle.capture_report.specs.Plans.{Plan, accepted_of, range_of}
use Rattle.capture_report.specs.Records.{Record}
use Rattle.capture_report.specs.Rows.{after_record, placed, record_shown, rows_from, shown_from}
use Rattle.capture_report.specs.Sights.{record_sight, sight_from, sight_of}
use Rattle.capture_report.specs.declared.plan.Marks.{Marks}
use Rattle.capture_report.specs.declared.reader.Order.TheVariants.{Placed}
use Rattle.capture_report.specs.declared.survey.Survey.{Survey}

-- where frames show what they will give, the rows by a plan are those of the capture, each at its place
abbrev pub IsPlanOf : (left : Option (List Record)) → Line → Plan → Type 0
IsPlanOf left line plan = (records : List Record) → left ≡ Some records → rows_from (Placed plan) line records ≡ placed line records

-- one step: what came next was read, and what it shows was added
pub record IsTaken (records rest : List Record) (line after : Line) (marks more : Marks) : Type 0 where
  pub next : Record
  pub split : records ≡ next ∷ rest
  pub line_after : after ≡ after_record next line
  pub ranges : more.ranges.items ≡ marks.ranges.items ++ flat_map range_of (record_shown next line)
  pub accepted : more.accepted.items ≡ marks.accepted.items ++ flat_map accepted_of (record_shown next line)

abbrev pub IsReadOn : (before after : Option (List Record)) → Line → Line → Marks → Marks → Bool → Type 0
IsReadOn before after line line_after marks more true = (records : List Record) → before ≡ Some records → (rest : List Record) × (after ≡ Some rest) × IsTaken records rest line line_after marks more
IsReadOn before after line line_after marks more false = ((records : List Record) → before ≡ Some records → records ≡ []) × (more ≡ marks)

-- the marks have what was read of a capture, and the rest is left
pub record HasRead (records rest : List Record) (first line : Line) (marks : Marks) : Type 0 where
  pub ranges : flat_map range_of (shown_from first records) ≡ marks.ranges.items ++ flat_map range_of (shown_from line rest)
  pub accepted : flat_map accepted_of (shown_from first records) ≡ marks.accepted.items ++ flat_map accepted_of (shown_from line rest)

abbrev pub IsReadUpTo : (before after : Option (List Record)) → Line → Line → Marks → Type 0
IsReadUpTo before after first line marks = (records : List Record) → before ≡ Some records → (rest : List Record) × (after ≡ Some rest) × HasRead records rest first line marks

-- ---- the survey

-- where frames show what they will give, it saw all of it
abbrev pub IsSeen : (left : Option (List Record)) → Line → (before after : Survey) → Type 0
IsSeen left line before after = (records : List Record) → left ≡ Some records → sight_of after ≡ sight_from line records (sight_of before)

-- one step
pub record IsSight (records rest : List Record) (line after : Line) (before more : Survey) : Type 0 where
  pub next : Record
  pub split : records ≡ next ∷ rest
  pub line_after : after ≡ after_record next line
  pub sight : sight_of more ≡ record_sight line next (sight_of before)

abbrev pub IsSeenOn : (left after : Option (List Record)) → Line → Line → Survey → Survey → Bool → Type 0
IsSeenOn left after line line_after before more true = (records : List Record) → left ≡ Some records → (rest : List Record) × (after ≡ Some rest) × IsSight records rest line line_after before more
IsSeenOn left after line line_after before more false = ((records : List Record) → left ≡ Some records → records ≡ []) × (more ≡ before)

-- what was seen, and then the rest, is what is seen of the whole
abbrev pub IsSeenUpTo : (left after : Option (List Record)) → (first line : Line) → (before survey : Survey) → Type 0
IsSeenUpTo left after first line before survey = (records : List Record) → left ≡ Some records
    → (rest : List Record) × (after ≡ Some rest) × (sight_from first records (sight_of before) ≡ sight_from line rest (sight_of survey))
